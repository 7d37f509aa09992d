-- How a change is taken back.
use Rattle.std.specs.Prelude.{◌≡◌, Result, Ok, Err}
use Rattle.mk_command.specs.declared.command.Command.{Command}
use Rattle.mk_reply.specs.declared.refusal.Refusal.{Refusal}
use Rattle.mk_reply.specs.declared.reply.Reply.{Reply}
use Rattle.mk_rules.specs.Transcript.{OfCommand, after, market_after}
use Rattle.mk_restore.specs.Restoring.{IsFit}
use Rattle.mk_market.specs.declared.restoring.RestoreFault.{RestoreFault}
use Rattle.mk_market.specs.declared.restoring.RestoreFault.TheVariants.{Unfit, Memory}
use Rattle.mk_market.specs.Points.{ArePaidBy}
use Rattle.mk_market.specs.Trading.{Trading}

module _ {Own : Type 0} where
  -- a change that fits is taken back: its entry is appended, with what it adds, and its payments
  -- are booked
  pub record IsTakenBack (old new : Trading Own) (command : Command) (reply : Reply) : Type 0 where
    pub market : new.market ≡ market_after old.market old.standing (OfCommand command) reply
    pub fits : IsFit old.market old.standing.history command reply
    pub next : new.standing ≡ after old.market old.standing (OfCommand command) reply
    pub paid : ArePaidBy reply old.accounts new.accounts

  -- one that does not leaves the market as it was
  pub record IsLeft (old new : Trading Own) (command : Command) (reply : Reply) : Type 0 where
    pub same : new ≡ old
    pub unfit : IsFit old.market old.standing.history command reply → ⊥

  -- what a command finds is taken back by the reply that tells it, and one that is refused fits
  -- with no reply
  abbrev pub IsFoundAgain : {F : Type 0} → Trading Own → Trading Own → Command → Result F Refusal
      → (F → Reply) → Type 0
  IsFoundAgain old new command (Ok found) tell = IsTakenBack old new command (tell found)
  IsFoundAgain old new command (Err why) tell = (reply : Reply) → IsLeft old new command reply

  -- what a change leaves, and why
  abbrev pub IsTried : Trading Own → Trading Own → Command → Reply → Result Unit RestoreFault
      → Type 0
  IsTried old new command reply (Ok done) = IsTakenBack old new command reply
  IsTried old new command reply (Err Unfit) = IsLeft old new command reply
  IsTried old new command reply (Err Memory) = new ≡ old
