-- What clauses of this crate cite of the crates below it.
pub use Rattle.mk_command.specs.Commands.{command_text, HasShortNumbers}
pub use Rattle.mk_exact.specs.History.{additions, revision}
pub use Rattle.mk_file.specs.File.{max_file_bytes}
pub use Rattle.mk_journal.specs.{Keepers.IsHeld, Keepers.IsReady, Market.IsFront}
pub use Rattle.mk_journal.specs.{Moments.LeavesOnly, Opening.contents, Store.begun}
pub use Rattle.mk_journal.specs.{Store.IsUnstarted, Store.StandsFor}
pub use Rattle.mk_market.specs.Suited.{SuitsNext}
pub use Rattle.mk_names.specs.declared.limits.TheConstants.{MAX_RECORD_BYTES}
pub use Rattle.mk_reply.specs.Replies.{reply_text}
pub use Rattle.mk_session.specs.{Below.file_of, Below.HasCause, Below.IsAt, Below.IsMarket}
pub use Rattle.mk_session.specs.{Below.IsTreeOf, Below.Market, Below.market_of, Below.opening}
pub use Rattle.mk_session.specs.{Below.Rose, Complete.AreWithin, Opening.IsReadWithin, Outcome.Adds}
pub use Rattle.mk_session.specs.{Outcome.HasCauses, Outcome.HasKeepCauses, Outcome.IsTurnedAway}
pub use Rattle.mk_session.specs.{Outcome.Refuses}
