-- What the settlement paid a user is told.
use Rattle.std.specs.Prelude.{◌≡◌, ℕ, List, None}
use Rattle.std.proofs.Common.{refl, ap, ap₂, ◌∙◌, arith}
use Rattle.mk_exact.specs.History.{payment_to}
use Rattle.mk_cash.specs.Accounts.{account_of}
use Rattle.mk_command.specs.declared.command.Command.TheVariants.{Paid}
use Rattle.mk_reply.specs.declared.reply.Reply.{Reply}
use Rattle.mk_reply.specs.declared.reply.Reply.TheVariants.{Paid as Told}
use Rattle.mk_rules.specs.Answers.{told_payment}
use Rattle.mk_rules.specs.Refusals.{first_refusal, user_number}
use Rattle.mk_record.specs.Refused.{IsUser}
use Rattle.mk_market.specs.Points.{IsAccount, AreAccounts}
use Rattle.mk_market.specs.Trading.{Trading, IsAnswered}
use Rattle.mk_market.proofs.Apart.{EachOwns, left_alone}
use Rattle.mk_market.proofs.Replies.{answer_allowed, none_appended, nothing_added}

-- the reply with these two ends
abbrev pub told_ends : List ℕ → ℕ → ℕ → Reply
told_ends name low high = Told (record { user = name; low = low; high = high; paid = low })

-- the user's account holds both ends of the user's payment
pub paid_answered : {Own : Type 0} → (now : Trading Own) (name : List ℕ) (user low high : ℕ)
    → AreAccounts now.market now.standing.history now.accounts → EachOwns now
    → IsUser now.standing.history name user
    → None ≡ first_refusal now.market now.standing.history (Paid name)
    → low ≡ (account_of now.accounts user).paid → high ≡ (account_of now.accounts user).high
    → IsAnswered now now (Paid name) (told_ends name low high)
paid_answered now name user low high accounts owns is_user none low_is high_is = record {
  market = nothing_added now.market now.standing (Paid name) (told_ends name low high) tt;
  allowed = λ sound.
      answer_allowed now.market now.standing (Paid name) (told_ends name low high) none told;
  next = none_appended now.market now.standing (Paid name) (told_ends name low high) refl refl;
  paid = λ u. refl;
  one_each = owns;
  others = left_alone now now (Paid name) refl;
}
  where
    account : IsAccount now.market now.standing.history user (account_of now.accounts user)
    account = accounts.each user (omega (arith, is_user.within, accounts.one_each))

    low_end : low ≡ (payment_to now.standing.history (user_number now.standing.history name)).0
    low_end = low_is ∙ account.paid_to.0
        ∙ ap (λ (n : ℕ). (payment_to now.standing.history n).0) is_user.number

    high_end : high ≡ (payment_to now.standing.history (user_number now.standing.history name)).1
    high_end = high_is ∙ account.paid_to.1
        ∙ ap (λ (n : ℕ). (payment_to now.standing.history n).1) is_user.number

    told : told_ends name low high
        ≡ Told (told_payment name (payment_to now.standing.history (user_number now.standing.history name)))
    told = ap₂ (told_ends name) low_end high_end
