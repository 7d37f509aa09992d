use Rattle.std.proofs.Common.{◌≡◌, min, rules, slice_index, arith}
use Rattle.mk_cell.proofs.LeastOf.{adds_from, least_next}
use Rattle.mk_cell.proofs.minima.lowest.Goals as goal

pub loop-c-preserved : goal.loop-c-preserved
loop-c-preserved c =
    let m : c.min-lowest.result ≡ min c.loop-c.lowest c.from.result = search rules in
    least_next c.loop-c.c _ 4294967295 (slice_index c.args.exponents.now) c.loop-c.lowest c.from.result c.min-lowest.result c.loop-c.invariant
    (adds_from c.args.low 4294967295 (slice_index c.args.exponents.now c.loop-c.c) (slice_index c.args.exponents.now c.loop-c.c) c.from.result c.from.ensures.from (λ h. let y = c.from.ensures.below h in omega arith)) m
