use Rattle.std.proofs.Common.{◌+◌, ℕ, List, All, length, slice_index, arith, subst}
use Rattle.std.proofs.lemmas.List.{take_all}
use Rattle.mk_states.specs.States.{plus_over}
use Rattle.mk_cell.specs.Cell.{StandsAt}
use Rattle.mk_scope.specs.Runs.{cells_at}
use Rattle.mk_passes.proofs.Blocked.{cells_of_room}
use Rattle.mk_passes.proofs.Filled.{all_blank}
use Rattle.mk_passes.proofs.Paired.{others_made}
use Rattle.mk_passes.proofs.joined.FewOthersMaker.make.Goals as goal

pub plus_of_others-requires-clause-other_cells : goal.plus_of_others-requires-clause-other_cells
plus_of_others-requires-clause-other_cells g c = cells_of_room c.requires.can.other_room.0 _ _ _ c.requires.can.other_room.1

pub returns : goal.returns
returns g c =
    let s = c.args.self.0 in let cell = c.plus_of_others.result in let count = length s.onto.now in let base = slice_index s.lists.bases.now c.args.cell in
    let d = s.left.digits.now in let e = s.left.exponents.now in let xs = s.lists.offsets.now in let md = s.right.digits.now in let me = s.right.exponents.now in
    let blank = all_blank count d e c.requires.can.whole c.requires.ready.2 in
    others_made g.R.Semiring.plus_of count d e md me (slice_index s.onto.now) base xs blank.0 blank.1 c.requires.can.within cell.digits cell.exponent
    (subst (λ (ys : List ℕ). (k : ℕ) (f : ℕ → ℕ) (n : ℕ) → All (λ i. StandsAt k (slice_index md (slice_index s.onto.now i)) (slice_index me (slice_index s.onto.now i)) (f i) n) (cells_at base ys)
    → StandsAt k cell.digits cell.exponent (plus_over g.R.Semiring.plus_of 0 f (cells_at base ys)) (n + length ys)) (take_all g.row.N xs (omega (arith, c.requires.ready))) c.plus_of_others.ensures)
