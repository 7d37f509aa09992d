use Rattle.std.proofs.Common.{◌+◌, ◌<◌, ◌≡◌, ℕ, List, All, length, slice_index, arith, subst}
use Rattle.std.proofs.lemmas.List.Elements.{All-take}
use Rattle.mk_scope.proofs.Runs.{runs_one}
use Rattle.mk_passes.proofs.Blocked.{cells_of_room}
use Rattle.mk_passes.proofs.Summed.{few_cells}
use Rattle.mk_passes.proofs.blocks.FewSumsMaker.make.Goals as goal

pub plus_of_cells-requires-clause-within : goal.plus_of_cells-requires-clause-within
plus_of_cells-requires-clause-within g c =
    let s = c.args.self.0 in let xs = s.lists.offsets.now in let base = slice_index s.lists.bases.now c.args.cell in
    All-take (λ k. base + k < length s.from.digits.now) g.row.N xs
    (subst (λ (ys : List ℕ). All (λ k. base + k < length s.from.digits.now) ys) (runs_one s.lists.run c.requires.can.some c.requires.ready.2 xs) c.requires.can.within)

pub plus_of_cells-requires-clause-cells : goal.plus_of_cells-requires-clause-cells
plus_of_cells-requires-clause-cells g c = cells_of_room c.requires.can.room.0 _ _ _ c.requires.can.room.1

pub returns : goal.returns
returns g c =
    let s = c.args.self.0 in let one : s.lists.run ≡ 1 = omega (arith, c.requires.can.some, c.requires.ready.2) in
    few_cells g.R.Semiring.plus_of s.lists.run g.row.N (slice_index s.lists.bases.now c.args.cell) s.lists.offsets.now s.from.digits.now s.from.exponents.now c.plus_of_cells.result.digits c.plus_of_cells.result.exponent
    one c.requires.ready.3 c.requires.ready.1 c.plus_of_cells.ensures
