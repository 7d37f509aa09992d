-- A market moves on by a change that is taken back: it stays its file's with what was added.
use Rattle.std.proofs.Common.{◌≡◌, Result, Ok, Err, OnOk, OnErr, sym, ap, subst, ◌∙◌}
use Rattle.mk_exact.specs.Market.{Market, present}
use Rattle.mk_command.specs.declared.command.Command.{Command}
use Rattle.mk_reply.specs.declared.reply.Reply.{Reply}
use Rattle.mk_rules.specs.Transcript.{Standing, OfCommand, after, market_after}
use Rattle.mk_rules.proofs.Keeps.{present_next}
use Rattle.mk_market.specs.Trading.{Trading, IsAt}

module _ {Own : Type 0} (start : Market) (old new : Trading Own) (command : Command) (reply : Reply)
  where
    moves_on : IsAt start old
        → new.market ≡ market_after old.market old.standing (OfCommand command) reply
        → new.standing ≡ after old.market old.standing (OfCommand command) reply → IsAt start new
    moves_on here market next =
        let line = OfCommand command in
        market ∙ ap (λ (m : Market). market_after m old.standing line reply) here
        ∙ sym (present_next start old.standing line reply)
        ∙ ap (λ (m : Market). present start (after m old.standing line reply).history) (sym here)
        ∙ ap (λ (s : Standing). present start s.history) (sym next)

    -- and where it is not taken back, nothing moved
    pub at_tried : {T E : Type 0} (result : Result T E)
        → OnOk result (new.market ≡ market_after old.market old.standing (OfCommand command) reply)
        → OnOk result (new.standing ≡ after old.market old.standing (OfCommand command) reply)
        → OnErr result (new ≡ old) → IsAt start old → IsAt start new
    at_tried (Ok value) market next same here = moves_on here market next
    at_tried (Err fault) market next same here =
        subst (λ (t : Trading Own). IsAt start t) (sym same) here
