use Rattle.std.proofs.Common.{◌*◌, sym}
use Rattle.std.proofs.Math.Nat.{one-le-mul}
use Rattle.mk_judge.proofs.Quotients.{ceiling_covers, past_ceiling}
use Rattle.mk_judge.proofs.share.covers.Goals as goal

pub returns-in-Some : goal.returns-in-Some
returns-in-Some c =
    ceiling_covers c.args.units (c.args.num.now * c.args.times) (c.args.den.now * c.args.over) _ (one-le-mul c.requires.positive c.requires.over_positive) (sym c.in-Some.ensures.1)

pub returns-in-None : goal.returns-in-None
returns-in-None c =
    past_ceiling c.args.units (c.args.num.now * c.args.times) (c.args.den.now * c.args.over) (one-le-mul c.requires.positive c.requires.over_positive) c.requires.few c.in-None.ensures
