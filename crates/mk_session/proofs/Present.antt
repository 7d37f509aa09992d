-- A market in use is the file's with what its history added, and moves on with it.
use Rattle.std.proofs.Common.{◌≡◌, sym, ap, subst, ◌∙◌}
use Rattle.mk_exact.specs.Market.{Market, present}
use Rattle.mk_exact.specs.Sound.{IsSound}
use Rattle.mk_grown.proofs.Present.{present_at_first}
use Rattle.mk_command.specs.declared.command.Command.{Command}
use Rattle.mk_reply.specs.declared.reply.Reply.{Reply}
use Rattle.mk_rules.specs.Transcript.{Standing, opening, OfCommand, IsAllowedFor, after}
use Rattle.mk_rules.specs.Transcript.{market_after}
use Rattle.mk_rules.proofs.Keeps.{present_next}
use Rattle.mk_market.specs.Trading.{Trading, IsAt, IsAnswered}
use Rattle.mk_session.specs.inner.Progress.{IsSoundAt}

-- at the opening both are one
pub at_first : {Own : Type 0} (trading : Trading Own) → trading.standing ≡ opening
    → IsAt trading.market trading
at_first trading begins = sym (ap (λ (s : Standing). present trading.market s.history) begins
    ∙ present_at_first trading.market)

module _ {Own : Type 0} (start : Market) (old new : Trading Own) (command : Command) (reply : Reply)
    (here : IsAt start old) (answered : IsAnswered old new command reply) where
  -- a command that it answered is answered by the rules of the file's market with what was added
  pub allowed_at : IsSoundAt start old.standing
      → IsAllowedFor (present start old.standing.history) old.standing (OfCommand command) reply
  allowed_at = subst (λ (m : Market). IsSound m.network old.standing.history
      → IsAllowedFor m old.standing (OfCommand command) reply) here answered.allowed

  pub next_at : new.standing
      ≡ after (present start old.standing.history) old.standing (OfCommand command) reply
  next_at = answered.next
      ∙ ap (λ (m : Market). after m old.standing (OfCommand command) reply) here

  -- and it stays that market
  pub at_next : IsAt start new
  at_next = answered.market
      ∙ ap (λ (m : Market). market_after m old.standing (OfCommand command) reply) here
      ∙ sym (present_next start old.standing (OfCommand command) reply)
      ∙ ap (λ (s : Standing). present start s.history) (sym next_at)
