use Rattle.mk_scaled.proofs.Quotients.{times_inside}
use Rattle.mk_scaled.proofs.scaled.Scaled.div_floor.Goals as goal

pub returns : goal.returns
returns c =
    rw (← c.self.view_is, ← c.den.view_is, ← times_inside c.self.inside.mantissa c.self.inside.exponent c.args.times, ← times_inside c.den.inside.mantissa c.den.inside.exponent c.args.over)
    c.floor.ensures
