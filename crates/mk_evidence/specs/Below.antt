-- What clauses of this crate cite of the crates below it.
pub use Rattle.mk_answers.specs.{Below.always, Below.GivenTree, Below.Meaning, Below.sizes}
pub use Rattle.mk_answers.specs.{Below.spread_in, Below.Variable, Evidence.AreSureFactors}
pub use Rattle.mk_answers.specs.{Evidence.IsLeastFactorOf}
pub use Rattle.mk_asking.specs.{Below.CanBeSpreadHere, Below.first_of, Below.names_of}
pub use Rattle.mk_asking.specs.{Quoting.IsSpreadQuoteOf, Stopped.CanRefuseSpread}
pub use Rattle.mk_asking.specs.{Stopped.IsDecidedBy}
pub use Rattle.mk_exact.specs.Existing.{HasOutcome}
pub use Rattle.mk_market.specs.Trading.{IsOnlyAsked}
pub use Rattle.mk_record.specs.{Below.market_of, Below.users, Refused.refusal_in}
pub use Rattle.mk_rules.specs.Refusals.{first_refusal, refusals_by_record}
