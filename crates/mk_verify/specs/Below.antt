-- What clauses of this crate cite of the crates below it.
pub use Rattle.std.specs.List.{AllZip}
pub use Rattle.mk_addition.specs.Adds.{IsAddText}
pub use Rattle.mk_answers.specs.{Below.Asked, Below.asked_of, Below.Entry, Below.IsSmall}
pub use Rattle.mk_answers.specs.{Below.IsSound, Below.max_points_per_bit, Below.sharpness}
pub use Rattle.mk_answers.specs.{Below.with_target, Evidence.AreBoundsOfPrice}
pub use Rattle.mk_answers.specs.{Evidence.IsSureFactor}
pub use Rattle.mk_evidence.specs.{Below.first_refusal, Below.HasOutcome, Below.IsOnlyAsked}
pub use Rattle.mk_evidence.specs.{Grades.evidence_grade}
pub use Rattle.mk_exact.specs.{Market.Market, Prices.CoversPrice, Prices.exact_price}
pub use Rattle.mk_judge.specs.{Judged.Judges, Powers.HasCashRange, Prices.HavePriceRange}
pub use Rattle.mk_judge_quotes.specs.Small.{TellsSmall}
pub use Rattle.mk_known.specs.{Below.command_of, Below.IsAllowed, Below.IsReply, Below.revision}
pub use Rattle.mk_known.specs.{Below.users, Known.IsKnown}
pub use Rattle.mk_restore.specs.Restoring.{IsListed}
pub use Rattle.mk_rules.specs.{Answers.settled_by_rule, Standings.Stands}
pub use Rattle.mk_spread.specs.{Spreads.SpreadAsked, Told.ArePricesOf, Told.IsPositionOf}
pub use Rattle.mk_spread.specs.{Told.IsSureOf}
pub use Rattle.mk_text.specs.Numbers.{AreEnds}
