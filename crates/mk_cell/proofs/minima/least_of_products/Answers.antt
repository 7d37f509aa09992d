use Rattle.std.proofs.Common.{◌+◌, ◌*◌, slice_index, length, arith}
use Rattle.mk_cell.proofs.LeastProducts.{no_product_stands, least_product_stands}
use Rattle.mk_cell.proofs.minima.least_of_products.Goals as goal

pub returns-then-exponent : goal.returns-then-exponent
returns-then-exponent c = λ a e b d u j k f g n p h.
    no_product_stands (length c.args.places.now) a e b d (slice_index c.args.places.now) (slice_index c.args.exponents.now) f g j k n p (n + p + 2 * length c.args.places.now + 1) c.lowest-exponent.result
    u.each h (rw u.same_length at c.lowest-exponent.ensures) c.if-exponent.true

pub returns : goal.returns
returns c = λ a e b d u j k f g n p h.
    least_product_stands (length c.args.places.now) a e b d (slice_index c.args.places.now) (slice_index c.args.exponents.now) f g j k n p c.rounded.result.digits c.rounded.result.exponent c.lowest-exponent.result c.least_places-least.result
    u.each h (rw u.same_length at c.lowest-exponent.ensures) (omega arith) c.least_places-least.ensures c.rounded.ensures.rounded
