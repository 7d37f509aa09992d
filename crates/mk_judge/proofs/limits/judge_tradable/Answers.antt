use Rattle.std.proofs.Common.{◌≡◌, inr, false, arith}
use Rattle.mk_exact.specs.Limits.{Side}
use Rattle.mk_quote.specs.declared.side.SideBounds.{SideBounds}
use Rattle.mk_judge.specs.Cash.{IsHeld}
use Rattle.mk_judge.specs.Units.{AreSideBounds}
use Rattle.mk_judge.proofs.Trading.{none_traded}
use Rattle.mk_judge.proofs.limits.judge_tradable.Goals as goal

held_of : (bounds : SideBounds) (side : Side) → AreSideBounds bounds false side → IsHeld bounds.factor side.least
held_of bounds side is = record { stands = is.bounds_of.least; idle = is.idle }

pub returns-in-Units-clause-unclear : goal.returns-in-Units-clause-unclear
returns-in-Units-clause-unclear c e side bounds n is =
    let own = c.in-Units.ensures.least side.least (held_of c.args.bounds.now side bounds) in
    let same : n ≡ c.in-Units.units = (let a = own.least n is.solvent in let b = is.least c.in-Units.units own.solvent in omega (arith, a, b)) in
    rw same (inr (rw e at (c.compare_shares.ensures side bounds.bounds_of own)))

pub returns-in-TooMany-clause-wrong : goal.returns-in-TooMany-clause-wrong
returns-in-TooMany-clause-wrong c e side bounds traded =
    none_traded side c.args.low c.args.high c.requires.in_order (c.in-TooMany.ensures.least side.least (held_of c.args.bounds.now side bounds)) traded
