-- What clauses of this crate cite of the crates below it.
pub use Rattle.std.specs.Cmp.Lexicographic.{pointwise}
pub use Rattle.mk_command.specs.Commands.{command_of}
pub use Rattle.mk_judge_quotes.specs.Below.{Entry, given_in}
pub use Rattle.mk_market.specs.Suited.{SuitsNext}
pub use Rattle.mk_record.specs.Below.{names_in, no_variable, pairs_of, question_named, revision}
pub use Rattle.mk_record.specs.Below.{spread_in, spread_named, twice, users}
pub use Rattle.mk_reply.specs.Replies.{IsReply}
pub use Rattle.mk_rules.specs.{Answers.entry_of, Answers.IsAllowed, Answers.next_history}
pub use Rattle.mk_rules.specs.{Answers.next_quotes, Answers.with_bounds, Answers.with_limits}
pub use Rattle.mk_rules.specs.{Quotes.current_bounds, Quotes.current_limits, Quotes.Quotes}
pub use Rattle.mk_rules.specs.{Quotes.same_pair, Quotes.same_question, Quotes.same_spread}
pub use Rattle.mk_rules.specs.{Refusals.no_user, Refusals.unknown, Transcript.market_after}
pub use Rattle.mk_rules.specs.{Transcript.OfCommand, Transcript.with_entries}
pub use Rattle.mk_small.specs.Below.{IsProper, IsSmall}
