use Rattle.std.proofs.Common.{◌≤◌, ◌<◌, rules, arith}
use Rattle.mk_judge.proofs.Nearness.{overlap}
use Rattle.mk_judge.proofs.comparing.compare.Goals as goal

pub returns-else-lt : goal.returns-else-lt
returns-else-lt c a b left right =
    let past : c.args.right.now.lo < c.args.left.now.hi = search rules in
    let down : c.args.left.now.lo ≤ c.args.right.now.hi = search rules in
    record {
      near = λ g h graded graded'.
          overlap c.args.left.now.lo c.args.left.now.hi c.args.right.now.lo c.args.right.now.hi a b g h left.lower left.upper right.lower right.upper graded.near graded'.near
          (omega (arith, past)) down;
      rounded = λ exact exact'. omega (arith, past, down, exact.same, exact'.same);
    }
