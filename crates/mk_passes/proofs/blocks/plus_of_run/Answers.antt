use Rattle.std.proofs.Common.{◌+◌, subst}
use Rattle.mk_cell.specs.Cell.{StandsAt}
use Rattle.mk_cell.specs.Passes.{plus_below}
use Rattle.mk_passes.proofs.Summed.{slice_cells, slice_long, slice_stand, plus_side_by_side}
use Rattle.mk_passes.proofs.blocks.plus_of_run.Goals as goal

pub over-requires : goal.over-requires
over-requires g c = slice_cells c.args.digits.now c.args.exponents.now c.args.first c.args.run c.requires.within c.requires.cells

pub returns : goal.returns
returns g c = λ k f n h.
    let R = g.R.Semiring in let first = c.args.first in let run = c.args.run in
    let made = c.over.ensures k (λ i. f (first + i)) n (slice_stand k c.args.digits.now c.args.exponents.now f n first run c.requires.within h) in
    let same = subst (λ m. StandsAt k c.over.result.digits c.over.result.exponent (plus_below R.plus_of m (λ i. f (first + i))) (n + m)) (slice_long c.args.digits.now first run c.requires.within) made in
    subst (λ v. StandsAt k c.over.result.digits c.over.result.exponent v (n + run)) (plus_side_by_side R.plus_of g.met.R.Semiring.lawful f first run) same
