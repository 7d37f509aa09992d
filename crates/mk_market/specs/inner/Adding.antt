-- How a market takes a question that is added to it.
use Rattle.std.specs.Prelude.{◌≡◌, ◌+◌, length}
use Rattle.mk_exact.specs.History.{users, revision}
use Rattle.mk_addition.specs.declared.add.AddText.{AddText}
use Rattle.mk_command.specs.declared.command.Command.TheVariants.{Add}
use Rattle.mk_reply.specs.declared.reply.Reply.TheVariants.{Added}
use Rattle.mk_rules.specs.Transcript.{OfCommand, after, market_after}
use Rattle.mk_market.specs.Trading.{Trading}

-- a market has the question, by the next change, nothing was paid, and each user owns something
module _ {Own : Type 0} where
  pub record HasGrown (old new : Trading Own) (add : AddText) : Type 0 where
    pub market : new.market ≡ market_after old.market old.standing (OfCommand (Add add))
        (Added add.variable (revision old.standing.history + 1))
    pub next : new.standing ≡ after old.market old.standing (OfCommand (Add add))
        (Added add.variable (revision old.standing.history + 1))
    pub accounts : new.accounts ≡ old.accounts
    pub one_each : length new.assets ≡ length (users new.standing.history)
