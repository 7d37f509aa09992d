use Rattle.std.proofs.Common.{◌-◌, arith}
use Rattle.mk_scaled.specs.Near.{near_more}
use Rattle.mk_scaled.proofs.scaled.Scaled.pow_up.Goals as goal

pub returns-clause-near : goal.returns-clause-near
returns-clause-near c = near_more _ _ (c.args.n - 1) _ (omega arith) c.up.ensures.near
