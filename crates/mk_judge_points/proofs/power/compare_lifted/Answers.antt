use Rattle.std.proofs.Common.{rules, ◌*◌, ◌^◌, ◌<◌, ◌≤◌, arith, lt_of_lt_of_le, lt_of_le_of_lt}
use Rattle.std.proofs.Math.Nat.{mul-le-mul_right}
use Rattle.mk_judge.proofs.Nearness.{overlap, times_near}
use Rattle.mk_judge_points.proofs.Lifting.{ends_agree}
use Rattle.mk_judge_points.proofs.power.compare_lifted.Goals as goal

pub returns-then-is_at_most-2 : goal.returns-then-is_at_most-2
returns-then-is_at_most-2 c a b left right =
    let x = 2 ^ c.args.bits in
    let y = 2 ^ c.args.more in
    let l = c.args.left.now in
    let r = c.args.right.now in
    let past : r.lo * 2 ^ c.args.more < l.hi * 2 ^ c.args.bits = search rules in
    let within : l.lo * 2 ^ c.args.bits ≤ r.hi * 2 ^ c.args.more = search rules in
    record {
      near = λ g h graded graded'.
          overlap (l.lo * x) (l.hi * x) (r.lo * y) (r.hi * y) (a * x) (b * y) g h
          (mul-le-mul_right x left.lower) (mul-le-mul_right x left.upper) (mul-le-mul_right y right.lower) (mul-le-mul_right y right.upper)
          (times_near x l.lo l.hi g graded.near) (times_near y r.lo r.hi h graded'.near) (omega (arith, past)) within;
      rounded = λ exact exact'. ends_agree x y l.lo l.hi r.lo r.hi exact.same exact'.same past within;
    }

pub returns-else-is_at_most-2 : goal.returns-else-is_at_most-2
returns-else-is_at_most-2 c a b left right =
    let l = c.args.left.now in
    let r = c.args.right.now in
    let past : r.hi * 2 ^ c.args.more < l.lo * 2 ^ c.args.bits = search rules in
    lt_of_le_of_lt (mul-le-mul_right (2 ^ c.args.more) right.upper) (lt_of_lt_of_le past (mul-le-mul_right (2 ^ c.args.bits) left.lower))
