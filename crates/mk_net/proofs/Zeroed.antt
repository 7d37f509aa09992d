-- The variables with shares of nothing, one number after another.
use Rattle.std.specs.Prelude.{◌≡◌, ℕ, ◌+◌, List, [], ◌∷◌, ◌++◌, map, filter, Bool, cond, Vec, Some, slice_get, ◌==◌}
use Rattle.std.specs.List.{list_any, range_with_len}
use Rattle.std.specs.Map.{values_of}
use Rattle.std.specs.declared.alloc.Global.{Global}
use Rattle.std.proofs.Common.{refl, sym, ap, ◌∙◌, arith}
use Rattle.std.proofs.lemmas.List.{map-id}
use Rattle.std.proofs.lemmas.List.FromFn.{filter_of_map_range_with_len_more}
use Rattle.mk_net.specs.Zeros.{has_zero}
use Rattle.mk_net.specs.Stored.{variables_of}
use Rattle.mk_net.specs.declared.network.StoredVariable.{StoredVariable}
use Rattle.mk_net.proofs.StoredReads.{rows_stored}

pub numbers_kept : (p : ℕ → Bool) (k : ℕ) → filter p (range_with_len 0 (k + 1))
    ≡ filter p (range_with_len 0 k) ++ cond (p k) (k ∷ []) []
numbers_kept p k =
    ap (λ (ns : List ℕ). filter p ns) (sym (map-id (range_with_len 0 (k + 1))))
    ∙ filter_of_map_range_with_len_more p (λ (n : ℕ). n) 0 k k (omega arith)
    ∙ ap (λ (ns : List ℕ). filter p ns ++ cond (p k) (k ∷ []) []) (map-id (range_with_len 0 k))

-- whether the variable that is kept at a place has one
pub zero_stored : (es : List (List ℕ × StoredVariable)) (k : ℕ) (v : StoredVariable) (found : Bool) → slice_get (values_of es) k ≡ Some v →
    found ≡ list_any (λ (row : List ℕ). list_any (λ (share : ℕ). share == 0) row) (map (λ (row : Vec ℕ Global). row.items) v.rows.items) → has_zero (variables_of es) k ≡ found
zero_stored es k v found is tested =
    ap (λ (rows : List (List ℕ)). list_any (λ (row : List ℕ). list_any (λ (share : ℕ). share == 0) row) rows) (rows_stored es (variables_of es) refl k v is) ∙ sym tested

pub next_zero : (p : ℕ → Bool) (zeros : List ℕ) (k : ℕ) (found : Bool) → p k ≡ found → zeros ≡ filter p (range_with_len 0 k) →
    zeros ++ cond found (k ∷ []) [] ≡ filter p (range_with_len 0 (k + 1))
next_zero p zeros k found tested done =
    ap (λ (ns : List ℕ). ns ++ cond found (k ∷ []) []) done
    ∙ ap (λ (b : Bool). filter p (range_with_len 0 k) ++ cond b (k ∷ []) []) (sym tested)
    ∙ sym (numbers_kept p k)
