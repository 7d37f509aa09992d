use Rattle.std.proofs.Common.{◌+◌, ◌*◌, max, length, slice_index, arith, refl}
use Rattle.mk_cell.specs.inner.Laws.{stands_with_more}
use Rattle.mk_cell.specs.Passes.{plus_below}
use Rattle.mk_cell.proofs.Standing.{absent_stands}
use Rattle.mk_cell.proofs.GreaterCells.{one_more}
use Rattle.mk_cell.proofs.GreaterProducts.{place_stands}
use Rattle.mk_cell.proofs.maxima.greatest_of_products.Goals as goal

pub loop-c-init : goal.loop-c-init
loop-c-init c = λ a e b d u j k f g n p h. absent_stands (j + k) 0 _ refl

pub loop-c-preserved : goal.loop-c-preserved
loop-c-preserved c = λ a e b d u j k f g n p h.
    let i = c.loop-c.c in
    let count = length c.args.places.now in
    let l = c.loop-c-test.true in
    rw (one_more i (λ c. f c * g c))
    (c.greater-most.ensures (j + k) (plus_below max i (λ c. f c * g c)) (f i * g i)
    (n + p + 2 * count + 1) (c.loop-c.invariant a e b d u j k f g n p h)
    (stands_with_more (j + k) c.rounded.result.digits c.rounded.result.exponent (f i * g i)
    (n + p + 3) (n + p + 2 * count + 1) (omega (arith, l))
    (place_stands count a e b d (slice_index c.args.places.now) (slice_index c.args.exponents.now)
    f g
    j k n p c.rounded.result.digits c.rounded.result.exponent u.each h i (omega (arith, l))
    c.rounded.ensures.rounded)))
