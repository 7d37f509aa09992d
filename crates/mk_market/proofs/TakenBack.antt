-- Changes that are taken back, and those that are not.
use Rattle.std.specs.Prelude.{◌≡◌, Bool, true, false, Result, Ok, Err, Some, None, IsErrAnd}
use Rattle.std.proofs.Common.{refl, sym, subst, ◌∙◌}
use Rattle.mk_net.specs.Firsts.{first_of}
use Rattle.mk_command.specs.declared.command.Command.{Command}
use Rattle.mk_reply.specs.declared.refusal.Refusal.{Refusal}
use Rattle.mk_reply.specs.declared.reply.Reply.{Reply}
use Rattle.mk_restore.specs.Restoring.{Agrees, refusals_again}
use Rattle.mk_rules.specs.Transcript.{OfCommand, after, market_after}
use Rattle.mk_market.specs.declared.restoring.RestoreFault.{RestoreFault}
use Rattle.mk_market.specs.declared.restoring.RestoreFault.TheVariants.{Unfit, Memory}
use Rattle.mk_market.specs.Trading.{Trading}
use Rattle.mk_market.specs.Points.{ArePaidBy}
use Rattle.mk_market.specs.inner.Restored.{IsLeft, IsTakenBack, IsFoundAgain, IsTried}

-- a reply that does not agree, and a refusal that applies again
pub left_by_reply : {Own : Type 0} → (now : Trading Own) (command : Command) (reply : Reply)
    → (Agrees now.market now.standing.history command reply → ⊥) → IsLeft now now command reply
left_by_reply now command reply other = record { same = refl; unfit = λ fit. other fit.agrees }

-- so is one whose reply the journal does not tell
pub left_untold : {Own : Type 0} → (now : Trading Own) (command : Command) (reply : Reply)
    {tells : Bool} → (Agrees now.market now.standing.history command reply → tells ≡ true)
    → tells ≡ false → IsLeft now now command reply
left_untold now command reply told untold =
    left_by_reply now command reply (λ agrees. let yes = told agrees in
    let no = untold in absurd (cc))

pub left_by_refusal : {Own : Type 0} → (now : Trading Own) (command : Command) (reply : Reply)
    (why : Refusal)
    → Some why ≡ first_of (refusals_again now.market now.standing.history command)
    → IsLeft now now command reply
left_by_refusal now command reply why refused = record {
  same = refl;
  unfit = λ fit. let none : Some why ≡ None = refused ∙ fit.unrefused in absurd (cc);
}

-- what is left is told as unfit
pub tried_unfit : {Own : Type 0} → (old new : Trading Own) (command : Command) (reply : Reply)
    (result : Result Unit RestoreFault) → IsErrAnd result (λ e. e ≡ Unfit)
    → IsLeft old new command reply → IsTried old new command reply result
tried_unfit old new command reply (Ok done) told left = absurd told
tried_unfit old new command reply (Err Unfit) told left = left
tried_unfit old new command reply (Err Memory) told left = absurd (cc)

-- a command that is refused fits with no reply
pub refused_again : {Own F : Type 0} → (tell : F → Reply) (now : Trading Own) (command : Command)
    (why : Refusal) (result : Result F Refusal) → IsErrAnd result (λ e. e ≡ why)
    → Some why ≡ first_of (refusals_again now.market now.standing.history command)
    → IsFoundAgain now now command result tell
refused_again tell now command why (Ok found) told refused = absurd told
refused_again tell now command why (Err found) told refused =
    λ reply. left_by_refusal now command reply why refused

-- a reply that tells what was found is taken back as what was found
pub as_found : {Own : Type 0} → (old new : Trading Own) (command : Command) (reply given : Reply)
    → reply ≡ given → IsTakenBack old new command given → IsTakenBack old new command reply
as_found old new command reply given told back =
    subst (λ (r : Reply). IsTakenBack old new command r) (sym told) back

-- a change is taken back as its command does it, with the reply that its command gives
pub taken_back : {Own : Type 0} → (old new : Trading Own) (command : Command)
    (reply given : Reply) → reply ≡ given
    → new.market ≡ market_after old.market old.standing (OfCommand command) given
    → None ≡ first_of (refusals_again old.market old.standing.history command)
    → Agrees old.market old.standing.history command given
    → new.standing ≡ after old.market old.standing (OfCommand command) given
    → ArePaidBy given old.accounts new.accounts → IsTakenBack old new command reply
taken_back old new command reply given told market none agrees next paid =
    subst (λ (r : Reply). IsTakenBack old new command r) (sym told) (record {
      market = market;
      fits = record { unrefused = sym none; agrees = agrees };
      next = next;
      paid = paid;
    })
