use Rattle.mk_exact.proofs.ExistMarkets.{some_possible}
use Rattle.mk_rules.proofs.laws.state_stays_possible.Goals as goal

pub returns : goal.returns
returns c = λ market H is_market stands. some_possible market.network H is_market.network stands.proper
