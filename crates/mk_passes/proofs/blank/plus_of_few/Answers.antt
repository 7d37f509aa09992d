use Rattle.std.proofs.Common.{ℕ, ◌<◌, slice_index, arith}
use Rattle.mk_cell.specs.Cell.{IsCell, StandsAt}
use Rattle.mk_passes.proofs.OnesSum.{one_cell, first_cells, first_stand, first_long, few_ones}
use Rattle.mk_passes.proofs.blank.plus_of_few.Goals as goal

pub over-requires : goal.over-requires
over-requires g c =
    let one = c.one-one.result in
    let cell : IsCell one.digits one.exponent = rw (c.one-one.ensures.digits, c.one-one.ensures.exponent) one_cell in
    first_cells c.args.count g.row.N one.digits one.exponent c.requires.few cell

pub returns : goal.returns
returns g c = λ xs l k f n a.
    let R = g.R.Semiring in let one = c.one-one.result in let count = c.args.count in
    let stand : (i : ℕ) → i < count → StandsAt k one.digits one.exponent (f (slice_index xs i)) n = rw (c.one-one.ensures.digits, c.one-one.ensures.exponent) (λ i p. a i 0 (omega (arith, p, l))) in
    few_ones R.plus_of g.met.R.Semiring.lawful xs count _ k _ _ f n (first_long count g.row.N one.digits one.exponent c.requires.few one.digits) l
    (c.over.ensures k (λ i. f (slice_index xs i)) n (first_stand count g.row.N one.digits one.exponent c.requires.few k (λ i. f (slice_index xs i)) n stand))
