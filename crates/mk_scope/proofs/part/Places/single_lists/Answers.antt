use Rattle.std.proofs.Common.{◌≡◌, List, ℕ, arith, ap, subst, sym, ◌∙◌}
use Rattle.mk_scope.specs.Scopes.{PlacesOf}
use Rattle.mk_scope.specs.Places.{ArePlaces}
use Rattle.mk_scope.specs.Runs.{runs_of}
use Rattle.mk_scope.proofs.Runs.{runs_single}
use Rattle.mk_scope.proofs.part.Places.single_lists.Goals as goal

pub returns-else-self-gt1 : goal.returns-else-self-gt1
returns-else-self-gt1 c =
    let inside = c.self.inside in let offsets = inside.offsets.items in
    let one : inside.run ≡ 1 = omega (arith, c.self.invariant.are.some, c.if-self-gt1.false) in
    let single : runs_of inside.run offsets ≡ offsets = ap (λ r. runs_of r offsets) one ∙ runs_single offsets in
    let are : ArePlaces inside.part.value inside.whole.value inside.bases.items offsets 1 =
    subst (λ (xs : List ℕ). ArePlaces inside.part.value inside.whole.value inside.bases.items xs 1) single
    (subst (λ r. ArePlaces inside.part.value inside.whole.value inside.bases.items (runs_of inside.run offsets) r) one c.self.invariant.are) in
    subst (λ (p : PlacesOf). ArePlaces p.part p.whole c.deref-else-self-gt1.result.now c.deref-else-self-gt1-2.result.now 1) c.self.view_is
    (subst (λ (xs : List ℕ). ArePlaces inside.part.value inside.whole.value xs c.deref-else-self-gt1-2.result.now 1) (sym c.deref-else-self-gt1.ensures.value)
    (subst (λ (xs : List ℕ). ArePlaces inside.part.value inside.whole.value inside.bases.items xs 1) (sym c.deref-else-self-gt1-2.ensures.value) are))
