use Rattle.std.proofs.Common.{◌≡◌, ◌-◌, ◌*◌, ◌^◌, min, refl, rules, slice_index, length, arith}
use Rattle.mk_cell.proofs.LeastOf.{least_next}
use Rattle.mk_cell.proofs.LeastProducts.{adds_near, least_uncapped}
use Rattle.mk_cell.proofs.minima.least_places.Goals as goal

pub loop-c-preserved : goal.loop-c-preserved
loop-c-preserved c =
    let m : c.min-least.result ≡ min c.loop-c.least c.near.result = search rules in
    least_next c.loop-c.c _ 18446744073709551615 _ c.loop-c.least c.near.result c.min-least.result c.loop-c.invariant
    (adds_near (slice_index c.args.exponents.now c.loop-c.c) c.args.lowest 18446744073709551615 (slice_index c.args.places.now c.loop-c.c) c.near.result _
    (c.requires.small c.loop-c.c (omega arith)) c.requires.lowest_at_most refl c.near.ensures.fits c.near.ensures.over c.near.ensures.far)
    m

pub returns : goal.returns
returns c =
    let e : c.loop-c.c ≡ length c.args.places.now = omega arith in
    least_uncapped (length c.args.places.now) _ 18446744073709551615 (λ i. slice_index c.args.places.now i * 2 ^ (slice_index c.args.exponents.now i - c.args.lowest)) c.loop-c.least
    (rw e at c.loop-c.invariant)
