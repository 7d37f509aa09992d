-- What clauses of this crate cite of the crates below it.
pub use Rattle.mk_command.specs.Commands.{IsCommand}
pub use Rattle.mk_io.specs.Stream.{is_not_blank, StreamLine}
pub use Rattle.mk_known.specs.Known.{IsKnown}
pub use Rattle.mk_reply.specs.Replies.{IsReply}
pub use Rattle.mk_rules.specs.Transcript.{OfCommand}
pub use Rattle.mk_session.specs.{Below.command_of, Below.file_of, Below.fresh, Below.GoesOn}
pub use Rattle.mk_session.specs.{Below.IsAt, Below.IsMarket, Below.IsTreeOf, Below.Market}
pub use Rattle.mk_session.specs.{Below.market_of, Below.max_stream_lines, Below.opening, Below.Rose}
pub use Rattle.mk_session.specs.{Below.text, Complete.AreWithin, Outcome.Adds, Outcome.HasCauses}
pub use Rattle.mk_session.specs.{Outcome.IsFrontOf, Outcome.IsTurnedAway, Transcript.Asks}
