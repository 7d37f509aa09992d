use Rattle.std.proofs.Common.{◌*◌, sym}
use Rattle.std.proofs.Math.Nat.{one-le-mul}
use Rattle.mk_judge.proofs.Quotients.{floor_reaches}
use Rattle.mk_judge.proofs.share.reaches.Goals as goal

pub returns-in-Some : goal.returns-in-Some
returns-in-Some c =
    floor_reaches c.args.units (c.args.num.now * c.args.times) (c.args.den.now * c.args.over) _ (one-le-mul c.requires.positive c.requires.over_positive) (sym c.in-Some.ensures.1)
