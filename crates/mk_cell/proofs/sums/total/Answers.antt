use Rattle.std.proofs.Common.{◌+◌, ◌-◌, ◌/◌, ◌^◌, sym, slice_index, arith}
use Rattle.mk_cell.specs.Passes.{folded-zero}
use Rattle.mk_cell.proofs.Added.{added_next}
use Rattle.mk_cell.proofs.sums.total.Goals as goal

pub loop-c-init : goal.loop-c-init
loop-c-init c = (sym (folded-zero ◌+◌ 0 (λ i. slice_index c.args.digits.now i / 2 ^ (c.args.top - slice_index c.args.exponents.now i))), omega arith)

pub loop-c-preserved : goal.loop-c-preserved
loop-c-preserved c =
    let i = c.loop-c.invariant.0 in
    let j = c.loop-c.invariant.1 in
    (added_next c.loop-c.c c.loop-c.total c.cut.result (λ i. slice_index c.args.digits.now i / 2 ^ (c.args.top - slice_index c.args.exponents.now i)) i c.cut.ensures, omega arith)
