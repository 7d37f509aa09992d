-- How many lists of values the parents of a variable have together.
use Rattle.std.specs.Prelude.{◌≡◌, ℕ, ◌+◌, ◌*◌, ◌^◌, ◌<◌, ◌≤◌, List, [], ◌∷◌, length, map, slice_index, string_bytes, vec_len}
use Rattle.std.proofs.Common.{refl, sym, ap, ◌∙◌, arith, get_or}
use Rattle.std.proofs.lemmas.List.{get_or-map, length-map}
use Rattle.std.proofs.Math.Nat.{mul-le-mul, pow-le-pow_right, pow-suc}
use Rattle.mk_net.specs.Drafts.{drafts_of, draft_of_variable}
use Rattle.mk_net.specs.Checked.{counts, number_of}
use Rattle.mk_net.specs.declared.draft.VariableDraft.{VariableDraft}
use Rattle.mk_net.specs.declared.draft.Draft.{Draft}

-- one more factor of at most 16
pub times_sixteen : (product count n : ℕ) → product ≤ 16 ^ n → count ≤ 16 → product * count ≤ 16 ^ (n + 1)
times_sixteen product count n h few =
    let e : 16 ^ (n + 1) ≡ 16 ^ n * 16 = ap (λ (k : ℕ). 16 ^ k) (omega arith) ∙ pow-suc 16 n in
    rw e (mul-le-mul h few)

-- at most eight such factors
pub eight_fit : (product count n : ℕ) → product ≤ 16 ^ n → count ≤ 16 → n < 8 → product * count < 2 ^ 64
eight_fit product count n h few small =
    let bound : product * count ≤ 16 ^ (n + 1) = times_sixteen product count n h few in
    let most : 16 ^ (n + 1) ≤ 16 ^ 8 = pow-le-pow_right (omega arith) {i = n + 1} {j = 8} (omega arith) in
    omega arith

counts_of : (vs : List VariableDraft) → counts (map draft_of_variable vs) ≡ map (λ (v : VariableDraft). length v.values.items) vs
counts_of [] = refl
counts_of (v ∷ vs) = cc (counts_of vs, length-map v.values.items string_bytes)

-- the number of values of one of the variables
pub count_at_place : (vs : List VariableDraft) (k : ℕ) (v : VariableDraft) → k < length vs → v ≡ get_or vs k v →
    slice_index (counts (map draft_of_variable vs)) k ≡ length v.values.items
count_at_place vs k v h is =
    ap (λ (xs : List ℕ). slice_index xs k) (counts_of vs) ∙ get_or-map (λ (v : VariableDraft). length v.values.items) vs k v 0 h ∙ ap (λ (v : VariableDraft). length v.values.items) (sym is)

pub values_at : (draft : Draft) (name : List ℕ) (k : ℕ) (v : VariableDraft) → k ≡ number_of (drafts_of draft) name →
    k < length draft.variables.items → v ≡ get_or draft.variables.items k v →
    vec_len v.values ≡ slice_index (counts (drafts_of draft)) (number_of (drafts_of draft) name)
values_at draft name k v number h is =
    v.values.ok.0 ∙ sym (count_at_place draft.variables.items k v h is) ∙ ap (λ (n : ℕ). slice_index (counts (drafts_of draft)) n) number
