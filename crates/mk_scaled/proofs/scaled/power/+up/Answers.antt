use Rattle.std.proofs.Common.{sym, arith, lt_of_le_of_lt}
use Rattle.std.proofs.Math.Nat.{one-le-mul}
use Rattle.mk_scaled.specs.ByRule.{rounded_up}
use Rattle.mk_scaled.specs.Near.{near_self}
use Rattle.mk_scaled.specs.Rules.{least_is, power_by-one}
use Rattle.mk_scaled.specs.inner.Closeness.{least_positive}
use Rattle.mk_scaled.proofs.Powers.{pow-at_one, half_below, square_in_range, odd_in_range, squared_above, odd_above, near_even_up, near_odd_up, by_rule_even, by_rule_odd}
use Rattle.mk_scaled.proofs.scaled.power.+up.Goals as goal

pub returns-then-n-eq1-clause-above : goal.returns-then-n-eq1-clause-above
returns-then-n-eq1-clause-above t c = let e = pow-at_one c.args.base.now c.args.n c.if-n-eq1.true in omega arith

pub returns-then-n-eq1-clause-near : goal.returns-then-n-eq1-clause-near
returns-then-n-eq1-clause-near t c = rw (pow-at_one c.args.base.now c.args.n c.if-n-eq1.true) (near_self _ _)

pub up-half-requires : goal.up-half-requires
up-half-requires t c =
    let l = half_below c.args.base.now c.args.n c.requires.base_positive in
    let p = c.requires.positive in
    let w = c.if-n-eq1.false in
    (omega arith, (omega arith, (omega arith, lt_of_le_of_lt l c.requires.range)))

pub product-requires : goal.product-requires
product-requires t c = square_in_range c.args.base.now c.args.n _ (omega arith) c.requires.base_positive c.requires.range c.up-half.ensures.near

pub product-requires-then-n-eq1-2 : goal.product-requires-then-n-eq1-2
product-requires-then-n-eq1-2 t c =
    let s = c.round_up-square.ensures _ c.product.ensures.exact in
    odd_in_range c.args.base.now c.args.n _ _ c.if-n-eq1-2.true (omega arith) c.up-half.ensures.positive c.requires.range c.up-half.ensures.near s

pub returns-then-n-eq1-2-clause-positive : goal.returns-then-n-eq1-2-clause-positive
returns-then-n-eq1-2-clause-positive t c = least_positive _ _ (c.round_up.ensures _ c.product-then-n-eq1-2.ensures.exact)

pub returns-else-n-eq1-2-clause-positive : goal.returns-else-n-eq1-2-clause-positive
returns-else-n-eq1-2-clause-positive t c = least_positive _ _ (c.round_up-square.ensures _ c.product.ensures.exact)

pub returns-then-n-eq1-2-clause-above : goal.returns-then-n-eq1-2-clause-above
returns-then-n-eq1-2-clause-above t c =
    let s = c.round_up-square.ensures _ c.product.ensures.exact in
    let r = c.round_up.ensures _ c.product-then-n-eq1-2.ensures.exact in
    odd_above c.args.base.now c.args.n _ _ _ c.if-n-eq1-2.true c.up-half.ensures.above s.above r.above

pub returns-then-n-eq1-2-clause-near : goal.returns-then-n-eq1-2-clause-near
returns-then-n-eq1-2-clause-near t c =
    let s = c.round_up-square.ensures _ c.product.ensures.exact in
    let r = c.round_up.ensures _ c.product-then-n-eq1-2.ensures.exact in
    near_odd_up c.args.base.now c.args.n _ _ _ c.if-n-eq1-2.true c.if-n-eq1.false c.up-half.ensures.positive (least_positive _ _ s) c.requires.base_positive c.up-half.ensures.near s r

pub returns-else-n-eq1-2-clause-above : goal.returns-else-n-eq1-2-clause-above
returns-else-n-eq1-2-clause-above t c =
    let s = c.round_up-square.ensures _ c.product.ensures.exact in
    squared_above c.args.base.now c.args.n _ _ c.if-n-eq1-2.false c.up-half.ensures.above s.above

pub returns-else-n-eq1-2-clause-near : goal.returns-else-n-eq1-2-clause-near
returns-else-n-eq1-2-clause-near t c =
    let s = c.round_up-square.ensures _ c.product.ensures.exact in
    near_even_up c.args.base.now c.args.n _ _ c.if-n-eq1-2.false c.if-n-eq1.false c.requires.positive c.up-half.ensures.positive c.up-half.ensures.near s

pub returns-then-n-eq1-clause-rule : goal.returns-then-n-eq1-clause-rule
returns-then-n-eq1-clause-rule t c = let e = c.if-n-eq1.true in sym (power_by-one rounded_up c.args.base.now c.args.n (omega arith))

pub returns-then-n-eq1-2-clause-rule : goal.returns-then-n-eq1-2-clause-rule
returns-then-n-eq1-2-clause-rule t c =
    let half = c.up-half.ensures.positive in
    let s = c.round_up-square.ensures _ c.product.ensures.exact in
    by_rule_odd rounded_up c.args.base.now c.args.n _ _ _ c.if-n-eq1-2.true c.if-n-eq1.false c.requires.positive c.up-half.ensures.rule
    (least_is _ _ (one-le-mul half half) s)
    (least_is _ _ (one-le-mul (least_positive _ _ s) c.requires.base_positive) (c.round_up.ensures _ c.product-then-n-eq1-2.ensures.exact))

pub returns-else-n-eq1-2-clause-rule : goal.returns-else-n-eq1-2-clause-rule
returns-else-n-eq1-2-clause-rule t c =
    let half = c.up-half.ensures.positive in
    by_rule_even rounded_up c.args.base.now c.args.n _ _ c.if-n-eq1-2.false c.if-n-eq1.false c.requires.positive c.up-half.ensures.rule
    (least_is _ _ (one-le-mul half half) (c.round_up-square.ensures _ c.product.ensures.exact))
