use Rattle.std.proofs.Common.{sym, arith, lt_of_le_of_lt, le_refl}
use Rattle.std.proofs.Math.Nat.{one-le-mul}
use Rattle.mk_scaled.specs.ByRule.{rounded_down}
use Rattle.mk_scaled.specs.Near.{near_self}
use Rattle.mk_scaled.specs.Rules.{greatest_is, power_by-one}
use Rattle.mk_scaled.specs.inner.Closeness.{greatest_positive}
use Rattle.mk_scaled.proofs.Powers.{pow-at_one, half_below, squared_below, odd_below, near_even_down, near_odd_down, by_rule_even, by_rule_odd}
use Rattle.mk_scaled.proofs.scaled.power.+down.Goals as goal

pub returns-then-n-eq1-clause-below : goal.returns-then-n-eq1-clause-below
returns-then-n-eq1-clause-below t c = let e = pow-at_one c.args.base.now c.args.n c.if-n-eq1.true in omega arith

pub returns-then-n-eq1-clause-near : goal.returns-then-n-eq1-clause-near
returns-then-n-eq1-clause-near t c = rw (pow-at_one c.args.base.now c.args.n c.if-n-eq1.true) (near_self _ _)

pub down-half-requires : goal.down-half-requires
down-half-requires t c =
    let l = half_below c.args.base.now c.args.n c.requires.base_positive in
    let p = c.requires.positive in
    let w = c.if-n-eq1.false in
    (omega arith, (omega arith, (omega arith, lt_of_le_of_lt l c.requires.range)))

pub mul_down-square-requires : goal.mul_down-square-requires
mul_down-square-requires t c =
    lt_of_le_of_lt (squared_below c.args.base.now c.args.n _ _ c.requires.base_positive c.down-half.ensures.below (le_refl _)) c.requires.range

pub mul_down-requires : goal.mul_down-requires
mul_down-requires t c =
    lt_of_le_of_lt (odd_below c.args.base.now c.args.n _ _ c.if-n-eq1-2.true c.down-half.ensures.below c.mul_down-square.ensures.below) c.requires.range

pub returns-then-n-eq1-2-clause-positive : goal.returns-then-n-eq1-2-clause-positive
returns-then-n-eq1-2-clause-positive t c = greatest_positive _ _ c.mul_down.ensures

pub returns-else-n-eq1-2-clause-positive : goal.returns-else-n-eq1-2-clause-positive
returns-else-n-eq1-2-clause-positive t c = greatest_positive _ _ c.mul_down-square.ensures

pub returns-then-n-eq1-2-clause-below : goal.returns-then-n-eq1-2-clause-below
returns-then-n-eq1-2-clause-below t c =
    let l = odd_below c.args.base.now c.args.n _ _ c.if-n-eq1-2.true c.down-half.ensures.below c.mul_down-square.ensures.below in
    let h = c.mul_down.ensures.below in omega arith

pub returns-then-n-eq1-2-clause-near : goal.returns-then-n-eq1-2-clause-near
returns-then-n-eq1-2-clause-near t c =
    near_odd_down c.args.base.now c.args.n _ _ _ c.if-n-eq1-2.true c.if-n-eq1.false c.down-half.ensures.positive
    (greatest_positive _ _ c.mul_down-square.ensures) c.requires.base_positive c.down-half.ensures.near c.mul_down-square.ensures c.mul_down.ensures

pub returns-else-n-eq1-2-clause-below : goal.returns-else-n-eq1-2-clause-below
returns-else-n-eq1-2-clause-below t c =
    squared_below c.args.base.now c.args.n _ _ c.requires.base_positive c.down-half.ensures.below c.mul_down-square.ensures.below

pub returns-else-n-eq1-2-clause-near : goal.returns-else-n-eq1-2-clause-near
returns-else-n-eq1-2-clause-near t c =
    near_even_down c.args.base.now c.args.n _ _ c.if-n-eq1-2.false c.if-n-eq1.false c.requires.positive c.down-half.ensures.positive c.down-half.ensures.near c.mul_down-square.ensures

pub returns-then-n-eq1-clause-rule : goal.returns-then-n-eq1-clause-rule
returns-then-n-eq1-clause-rule t c = let e = c.if-n-eq1.true in sym (power_by-one rounded_down c.args.base.now c.args.n (omega arith))

pub returns-then-n-eq1-2-clause-rule : goal.returns-then-n-eq1-2-clause-rule
returns-then-n-eq1-2-clause-rule t c =
    let half = c.down-half.ensures.positive in
    let square = greatest_positive _ _ c.mul_down-square.ensures in
    by_rule_odd rounded_down c.args.base.now c.args.n _ _ _ c.if-n-eq1-2.true c.if-n-eq1.false c.requires.positive c.down-half.ensures.rule
    (greatest_is _ _ (one-le-mul half half) c.mul_down-square.ensures)
    (greatest_is _ _ (one-le-mul square c.requires.base_positive) c.mul_down.ensures)

pub returns-else-n-eq1-2-clause-rule : goal.returns-else-n-eq1-2-clause-rule
returns-else-n-eq1-2-clause-rule t c =
    let half = c.down-half.ensures.positive in
    by_rule_even rounded_down c.args.base.now c.args.n _ _ c.if-n-eq1-2.false c.if-n-eq1.false c.requires.positive c.down-half.ensures.rule
    (greatest_is _ _ (one-le-mul half half) c.mul_down-square.ensures)
