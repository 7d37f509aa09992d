-- What clauses of this crate cite of the crates below it.
pub use Rattle.mk_answers.specs.{Below.Entry, Below.GivenTree, Below.IsNetwork, Below.Meaning}
pub use Rattle.mk_answers.specs.{Below.sizes, Below.weights_of, Open.CanBeAnswered}
pub use Rattle.mk_answers.specs.{Open.CanBeSpreadHere, Open.holding_of, Open.IsOpen}
pub use Rattle.mk_answers.specs.{Results.AreSidesFor, Results.AreSpreadSidesFor}
pub use Rattle.mk_engine.specs.Meaning.{RatioOf, with_factor}
pub use Rattle.mk_exact.specs.{Sides.ratio_in, Weight.cannot_come}
pub use Rattle.mk_net.specs.Asked.{IsUnits}
pub use Rattle.mk_quote.specs.{Quotes.IsFor, Spreads.IsSpreadFor, Spreads.sides_of}
pub use Rattle.mk_record.specs.{Below.asked_of, Below.first_of, Below.home, Below.IsQuestionOf}
pub use Rattle.mk_record.specs.{Below.max_values, Below.pairs_asked, Below.revision}
pub use Rattle.mk_record.specs.{Below.spread_in, Below.Trade, Below.trade_ratio, Below.Variable}
pub use Rattle.mk_record.specs.{Members.names_of, Members.quotes_of, Refused.CanBeResolved}
pub use Rattle.mk_spread.specs.{Laws.AreOfValues, Spreads.spread_ratio}
pub use Rattle.mk_states.specs.Events.{has, holds}
