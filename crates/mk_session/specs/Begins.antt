-- What a run of a market rests on where it begins.
use Rattle.mk_exact.specs.Market.{Market, present}
use Rattle.mk_rules.specs.Bounded.{IsBounded}
use Rattle.mk_rules.specs.Standings.{IsMarket, IsReady}
use Rattle.mk_rules.specs.Transcript.{Standing}

-- a standing from which each line has an allowed reply, which has a text
pub record CanBegin (market : Market) (standing : Standing) : Type 0 where
  pub is_market : IsMarket market
  pub ready : IsReady (present market standing.history) standing
  pub bounded : IsBounded market standing.history
