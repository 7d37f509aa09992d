-- The cells that a list reaches lie within their table.
use Rattle.std.proofs.Common.{◌≡◌, ℕ, ◌+◌, ◌<◌, true, ◌==◌, List, map, All, sym, subst, arith}
use Rattle.std.proofs.Math.ListN.{get_or-map}
use Rattle.std.proofs.lemmas.List.{length-map}
use Rattle.std.proofs.lemmas.List.Elements.{All-weaker}
use Rattle.mk_net.specs.declared.words.Pair.{Pair}
use Rattle.mk_sums.specs.There.{holds_there}
use Rattle.mk_scope.specs.Scopes.{ScopeOf, cells_in}
use Rattle.mk_scope.specs.Cells.{values_at, cell_in, cells_onto, cells_where}
use Rattle.mk_scope.proofs.Chosen.{chosen_pass}

-- ---- sums

pub All_unmap : (P : ℕ → Type 0) (f : ℕ → ℕ) (xs : List ℕ) → All P (map f xs) → All (λ x. P (f x)) xs
All_unmap P f xs h k d l = subst P (get_or-map f xs k d) (h k (f d) (let m = length-map xs f in omega (arith, m)))

-- each of the cells that go to a cell of a part is a cell
pub onto_within : (part whole : ScopeOf) (base : ℕ) (offsets : List ℕ) (d : ℕ) → map (λ c. base + c) offsets ≡ cells_onto part whole d → All (λ c. base + c < cells_in whole) offsets
onto_within part whole base offsets d e =
    All_unmap (λ c. c < cells_in whole) (λ c. base + c) offsets
    (subst (λ (ys : List ℕ). All (λ c. c < cells_in whole) ys) (sym e)
    (All-weaker (λ c. ((cell_in part whole c == d) ≡ true) × (c < cells_in whole)) (λ c. c < cells_in whole) (λ c h. h.1) (cells_onto part whole d) (chosen_pass (λ c. cell_in part whole c == d) (cells_in whole))))

pub where_within : (scope : ScopeOf) (event : List Pair) → All (λ c. 0 + c < cells_in scope) (cells_where scope event)
where_within scope event =
    All-weaker (λ c. (holds_there event (values_at scope c) ≡ true) × (c < cells_in scope)) (λ c. 0 + c < cells_in scope) (λ c h. omega (arith, h.1)) (cells_where scope event)
    (chosen_pass (λ c. holds_there event (values_at scope c)) (cells_in scope))

-- ---- where nothing is written of the other table

pub each_onto : (part whole : ScopeOf) (d : ℕ) (P : ℕ → Type 0) → ((c : ℕ) → c < cells_in whole → P c) → All P (cells_onto part whole d)
each_onto part whole d P h =
    All-weaker (λ c. ((cell_in part whole c == d) ≡ true) × (c < cells_in whole)) P (λ c p. h c p.1) (cells_onto part whole d) (chosen_pass (λ c. cell_in part whole c == d) (cells_in whole))
