use Rattle.std.proofs.Common.{◌≡◌, ◌*◌, ◌^◌, min, rules, slice_index, arith}
use Rattle.mk_cell.proofs.LeastOf.{adds_from, least_next, none_yet}
use Rattle.mk_cell.proofs.LeastCells.{ranks}
use Rattle.mk_cell.proofs.minima.least_rank.Goals as goal

pub loop-c-init : goal.loop-c-init
loop-c-init c = (none_yet _ _ _, omega arith)

pub loop-c-preserved : goal.loop-c-preserved
loop-c-preserved c =
    let m : c.min-least.result ≡ min c.loop-c.least c.rank.result = search rules in
    let i = c.loop-c.invariant.0 in
    let j = c.loop-c.invariant.1 in (
      least_next c.loop-c.c _ (4294967295 * 2 ^ 64) (ranks (slice_index c.args.digits.now) (slice_index c.args.exponents.now)) c.loop-c.least c.rank.result c.min-least.result i
          (adds_from 1 (4294967295 * 2 ^ 64) (slice_index c.args.exponents.now c.loop-c.c) _ c.rank.result c.rank.ensures.there (λ h. let y = c.rank.ensures.absent h in omega arith)) m,
      omega arith,
    )
