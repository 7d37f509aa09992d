use Rattle.mk_quote.proofs.Reaching.{are_limits}
use Rattle.mk_quote.proofs.Rightness.{limits_are_right}
use Rattle.mk_quote.proofs.bounds.Bounds.limits.Goals as goal

pub returns-clause-value : goal.returns-clause-value
returns-clause-value c = are_limits c.args.self.now _ c.allowed.ensures.in_range c.allowed.ensures.limit

pub returns-clause-right : goal.returns-clause-right
returns-clause-right c = limits_are_right c.args.self.now _ c.allowed.ensures.in_range c.allowed.ensures.limit
