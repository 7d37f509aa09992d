use Rattle.std.proofs.Common.{rules, ◌*◌, ◌<◌, ◌≤◌, le_trans, lt_of_lt_of_le, lt_of_le_of_lt}
use Rattle.std.proofs.Math.Nat.{mul-le-mul_left, mul-le-mul_right}
use Rattle.mk_judge.proofs.Nearness.{near_above, not_either}
use Rattle.mk_judge.proofs.share.compare_above.Goals as goal

pub returns-then-covers : goal.returns-then-covers
returns-then-covers c v w num den =
    let at : c.args.num.now.hi * c.args.times ≤ c.args.units * (c.args.den.now.lo * c.args.over) = search rules in
    le_trans (mul-le-mul_right c.args.times num.upper) (le_trans at (mul-le-mul_left c.args.units (mul-le-mul_right c.args.over den.lower)))

pub returns-then-covers-2 : goal.returns-then-covers-2
returns-then-covers-2 c v w num den =
    let past : c.args.units * (c.args.den.now.lo * c.args.over) < c.args.num.now.hi * c.args.times = search rules in
    let within : c.args.num.now.lo * c.args.times ≤ c.args.units * (c.args.den.now.hi * c.args.over) = search rules in
    record {
      near = λ g h graded graded'.
          near_above c.args.num.now.lo c.args.num.now.hi c.args.den.now.lo c.args.den.now.hi v w c.args.units c.args.over c.args.times g h
          num.lower num.upper den.lower den.upper graded.near graded'.near within past;
      rounded = λ exact exact'. not_either c.args.units c.args.over c.args.times c.args.num.now.lo c.args.num.now.hi c.args.den.now.lo c.args.den.now.hi exact.same exact'.same past within;
    }

pub returns-else-covers-2 : goal.returns-else-covers-2
returns-else-covers-2 c v w num den =
    let past : c.args.units * (c.args.den.now.hi * c.args.over) < c.args.num.now.lo * c.args.times = search rules in
    lt_of_le_of_lt (mul-le-mul_left c.args.units (mul-le-mul_right c.args.over den.upper)) (lt_of_lt_of_le past (mul-le-mul_right c.args.times num.lower))
