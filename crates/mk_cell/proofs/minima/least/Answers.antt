use Rattle.std.proofs.Common.{refl, slice_index, length, arith}
use Rattle.std.proofs.lemmas.Grind.{and_numeral}
use Rattle.mk_cell.proofs.LeastCells.{no_cell_stands, least_stands}
use Rattle.mk_cell.proofs.minima.least.Goals as goal

pub returns-then-exponent : goal.returns-then-exponent
returns-then-exponent c = λ k f n h.
    let l = c.least_rank-rank.ensures.least in
    let t = c.if-exponent.true in
    no_cell_stands (length c.args.digits.now) (slice_index c.args.digits.now) (slice_index c.args.exponents.now) f k n c.least_rank-rank.result c.requires.each h.each l (omega arith)

pub returns : goal.returns
returns c = λ k f n h.
    let l = c.least_rank-rank.ensures.least in
    let t = c.if-exponent.false in
    let d = and_numeral c.least_rank-rank.result 18446744073709551614 refl in
    least_stands (length c.args.digits.now) (slice_index c.args.digits.now) (slice_index c.args.exponents.now) f k n _ _ c.least_rank-rank.result c.requires.each h.each l (omega arith) (omega arith) (omega arith)
