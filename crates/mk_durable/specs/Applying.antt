-- A durable market, and what a call leaves of it and of its store.
use Rattle.std.specs.Prelude.{List, ℕ, Bool}
use Rattle.mk_command.specs.declared.command.Command.{Command}
use Rattle.mk_reply.specs.declared.reply.Reply.{Reply}
use Rattle.mk_rules.specs.Transcript.{OfCommand}
use Rattle.mk_restore.specs.Restoring.{change_of}
use Rattle.mk_journal.specs.Keepers.{StoreOf}
use Rattle.mk_market.specs.Trading.{Trading, IsAnswered}
use Rattle.mk_session.specs.Left.{records_of}

-- a market, by what its users own, its store, and whether a call of the disk failed
pub record DurableOf (Own : Type 0) : Type 0 where
  pub trading : Trading Own
  pub store : StoreOf
  pub closed : Bool

-- the record of a command and its reply, where the command appends an entry
abbrev pub records_made : {Own : Type 0} → Trading Own → Command → Reply → List (List ℕ)
records_made old command reply =
    records_of (change_of old.market old.standing.history (OfCommand command) reply)

-- the market answers a command by some reply, of which P holds
pub record IsApplied {Own : Type 0} (old new : Trading Own) (command : Command)
    (P : Reply → Type 0) : Type 0 where
  pub reply : Reply
  pub answered : IsAnswered old new command reply
  pub holds : P reply
