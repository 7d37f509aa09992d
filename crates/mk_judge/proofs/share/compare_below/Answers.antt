use Rattle.std.proofs.Common.{rules, ◌*◌, ◌<◌, ◌≤◌, le_trans, lt_of_lt_of_le, lt_of_le_of_lt}
use Rattle.std.proofs.Math.Nat.{mul-le-mul_left, mul-le-mul_right}
use Rattle.mk_judge.proofs.Nearness.{near_below, not_both}
use Rattle.mk_judge.proofs.share.compare_below.Goals as goal

pub returns-then-reaches : goal.returns-then-reaches
returns-then-reaches c v w num den =
    let at : c.args.units * (c.args.den.now.hi * c.args.over) ≤ c.args.num.now.lo * c.args.times = search rules in
    le_trans (mul-le-mul_left c.args.units (mul-le-mul_right c.args.over den.upper)) (le_trans at (mul-le-mul_right c.args.times num.lower))

pub returns-then-reaches-2 : goal.returns-then-reaches-2
returns-then-reaches-2 c v w num den =
    let past : c.args.num.now.lo * c.args.times < c.args.units * (c.args.den.now.hi * c.args.over) = search rules in
    let within : c.args.units * (c.args.den.now.lo * c.args.over) ≤ c.args.num.now.hi * c.args.times = search rules in
    record {
      near = λ g h graded graded'.
          near_below c.args.num.now.lo c.args.num.now.hi c.args.den.now.lo c.args.den.now.hi v w c.args.units c.args.over c.args.times g h
          num.lower num.upper den.lower den.upper graded.near graded'.near past within;
      rounded = λ exact exact'. not_both c.args.units c.args.over c.args.times c.args.num.now.lo c.args.num.now.hi c.args.den.now.lo c.args.den.now.hi exact.same exact'.same past within;
    }

pub returns-else-reaches-2 : goal.returns-else-reaches-2
returns-else-reaches-2 c v w num den =
    let past : c.args.num.now.hi * c.args.times < c.args.units * (c.args.den.now.lo * c.args.over) = search rules in
    lt_of_le_of_lt (mul-le-mul_right c.args.times num.upper) (lt_of_lt_of_le past (mul-le-mul_left c.args.units (mul-le-mul_right c.args.over den.lower)))
