use Rattle.std.proofs.Common.{◌≡◌, max, sym, rules, slice_index}
use Rattle.mk_cell.specs.Passes.{folded-zero}
use Rattle.mk_cell.proofs.GreatestOf.{greatest_next}
use Rattle.mk_cell.proofs.sums.greatest.Goals as goal

pub loop-c-init : goal.loop-c-init
loop-c-init c = sym (folded-zero max 0 (slice_index c.args.exponents.now))

pub loop-c-preserved : goal.loop-c-preserved
loop-c-preserved c =
    let m : c.max-top.result ≡ max c.loop-c.top (slice_index c.args.exponents.now c.loop-c.c) = search rules in
    greatest_next c.loop-c.c c.loop-c.top c.max-top.result (slice_index c.args.exponents.now) c.loop-c.invariant m
