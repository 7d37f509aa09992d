use Rattle.std.proofs.Common.{ℕ, ◌+◌, ◌≤◌, arith, subst, sym}
use Rattle.mk_cell.specs.Cell.{StandsAt}
use Rattle.mk_cell.specs.Passes.{plus_below}
use Rattle.mk_passes.proofs.OnesSum.{last_cells, last_stand, last_long, set_long}
use Rattle.mk_passes.proofs.blank.plus_of_blocks.Goals as goal

few : (blocks : ℕ) → blocks ≤ 64 → blocks + 1 ≤ 65
few blocks h = omega (arith, h)

pub slice_bounds-digits-end : goal.slice_bounds-digits-end
slice_bounds-digits-end g c = set_long c.args.full 65 0 0 0 0 (few c.args.full c.requires.few) c.args.block.digits c.args.rest.digits

pub slice_bounds-over-end : goal.slice_bounds-over-end
slice_bounds-over-end g c = sym (last_long c.args.full 65 0 0 0 0 (few c.args.full c.requires.few) c.args.block.digits c.args.rest.digits)

pub slice_bounds-exponents-end : goal.slice_bounds-exponents-end
slice_bounds-exponents-end g c = set_long c.args.full 65 0 0 0 0 (few c.args.full c.requires.few) c.args.block.exponent c.args.rest.exponent

pub slice_bounds-over-end-2 : goal.slice_bounds-over-end-2
slice_bounds-over-end-2 g c = sym (last_long c.args.full 65 0 0 0 0 (few c.args.full c.requires.few) c.args.block.exponent c.args.rest.exponent)

pub over-requires : goal.over-requires
over-requires g c =
    let block = c.args.block in let rest = c.args.rest in
    last_cells c.args.full 65 block.digits block.exponent rest.digits rest.exponent (few c.args.full c.requires.few) c.requires.block c.requires.rest

pub returns : goal.returns
returns g c = λ k f n h t.
    let R = g.R.Semiring in let block = c.args.block in let rest = c.args.rest in
    subst (λ m. StandsAt k c.over.result.digits c.over.result.exponent (plus_below R.plus_of m f) (n + m)) (last_long c.args.full 65 block.digits block.exponent rest.digits rest.exponent (few c.args.full c.requires.few) block.digits rest.digits)
    (c.over.ensures k f n (last_stand c.args.full 65 block.digits block.exponent rest.digits rest.exponent (few c.args.full c.requires.few) k f n h t))
