use Rattle.std.proofs.Common.{◌+◌, ◌*◌, ◌^◌, ◌≤◌, arith}
use Rattle.std.proofs.Math.Nat.{one-le-pow}
use Rattle.mk_scaled.specs.Near.{IsNear, near_trans}
use Rattle.mk_scaled.specs.Range.{two_to-small, two_to}
use Rattle.mk_cash.proofs.Losses.{millions_below, millions_above, million_in_range, million_upper}
use Rattle.mk_cash.proofs.loss.initial_total.Goals as goal

pub pow-requires : goal.pow-requires
pow-requires c = millions_below c.args.variables c.if-variables-le3.true

pub exact-requires : goal.exact-requires
exact-requires c = let h : 1 ≤ 1000000 ^ c.args.variables = one-le-pow c.args.variables 1000000 (omega arith) in rw c.pow.ensures h

pub returns-then-variables-le3-clause-upper : goal.returns-then-variables-le3-clause-upper
returns-then-variables-le3-clause-upper c =
    let h : 2 ^ 64 ≤ two_to 6000 = two_to-small 6000 64 (omega arith) in
    let small = c.pow.type_inv in
    let same = c.exact.ensures.upper in
    omega arith

pub pow_down-requires-clause-range : goal.pow_down-requires-clause-range
pow_down-requires-clause-range c = rw c.of_whole-share.ensures (million_in_range c.args.variables c.requires.few)

pub pow_up-requires-clause-range : goal.pow_up-requires-clause-range
pow_up-requires-clause-range c = rw c.of_whole-share.ensures (million_in_range c.args.variables c.requires.few)

pub returns-clause-grade : goal.returns-clause-grade
returns-clause-grade c =
    let v = c.args.variables in
    let near : IsNear c.pow_down.result c.pow_up.result (2 * v + 2 * v) = near_trans c.pow_down.result (c.of_whole-share.result ^ v) c.pow_up.result (2 * v) (2 * v) c.pow_down.ensures.near c.pow_up.ensures.near in
    record { grade = 2 * v + 2 * v; small = omega (arith, c.requires.few); has = record { near = rw (c.between.ensures.lower, c.between.ensures.upper) near } }

pub returns-clause-exact : goal.returns-clause-exact
returns-clause-exact c = λ small. absurd (let more = millions_above c.args.variables (omega (arith, c.if-variables-le3.false)) in omega arith)

pub returns-clause-upper : goal.returns-clause-upper
returns-clause-upper c = rw c.between.ensures.upper (million_upper c.args.variables c.pow_up.result c.requires.few (rw c.of_whole-share.ensures at c.pow_up.ensures.near))
