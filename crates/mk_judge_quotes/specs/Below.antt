-- What clauses of this crate cite of the crates below it.
pub use Rattle.mk_exact.specs.{History.Entry, Limits.Inside, Market.Market}
pub use Rattle.mk_judge.specs.{Below.AllZip, Below.max_share, Below.sides_in}
pub use Rattle.mk_judge.specs.{Distributions.HaveTradeRange, Judged.Judges, Units.HasTradeRange}
pub use Rattle.mk_reply.specs.Refusals.{given_in}
pub use Rattle.mk_rules.specs.{Answers.IsBounds, Answers.IsJudged, Answers.IsJudgedAfresh}
pub use Rattle.mk_rules.specs.{Answers.IsLimits, Answers.IsSpreadJudged}
pub use Rattle.mk_rules.specs.{Answers.IsSpreadJudgedAfresh, Answers.IsSpreadTrade, Answers.IsTrade}
pub use Rattle.mk_rules.specs.{Refusals.user_number}
pub use Rattle.mk_spread.specs.Bounds.{InsideEach}
