use Rattle.mk_quote.proofs.Reaching.{is_interval}
use Rattle.mk_quote.proofs.side.SideBounds.interval.Goals as goal

pub returns-clause-value : goal.returns-clause-value
returns-clause-value c = is_interval c.args.self.now _ c.served.ensures.in_range c.served.ensures.serves
