-- A market is settled by payments that are listed.
use Rattle.std.specs.Prelude.{◌≡◌, ℕ, List, map, length, All}
use Rattle.std.specs.List.{AllByRecursion}
use Rattle.std.proofs.Common.{sym, ap, ◌∙◌, subst}
use Rattle.std.proofs.lemmas.List.{length-map}
use Rattle.mk_exact.specs.History.{Entry, users}
use Rattle.mk_file.specs.declared.market_file.MarketFile.{MarketFile}
use Rattle.mk_file.specs.MarketOf.{market_of}
use Rattle.mk_cash.specs.declared.ledger.Account.{Account}
use Rattle.mk_reply.specs.declared.payments.Payment.{Payment}
use Rattle.mk_reply.specs.declared.reply.Reply.TheVariants.{Settled}
use Rattle.mk_rules.specs.Answers.{ends_of}
use Rattle.mk_rules.specs.Bounded.{FitPayment}
use Rattle.mk_record.specs.Refused.{CanBeSettled}
use Rattle.mk_restore.specs.Laws.{IsSafe}
use Rattle.mk_settling.specs.Paying.{ArePaid, CanBeEntered}
use Rattle.mk_market.specs.Points.{AreAccounts, ArePaidBy}
use Rattle.mk_market.proofs.Settlement.{enters, listed_paid}

module _ (file : MarketFile) {H : List Entry} {accounts : List Account}
    (are : AreAccounts (market_of file) H accounts) (can : CanBeSettled file.net H)
    (pays : List Payment) (in_order : map (λ (p : Payment). p.user) pays ≡ users H)
    {paid : List (ℕ × ℕ)} (ends_are : paid ≡ map ends_of pays) where
  as_many : length pays ≡ length (users H)
  as_many =
      sym (length-map pays (λ (p : Payment). p.user))
      ∙ ap (λ (names : List (List ℕ)). length names) in_order

  -- payments to each user, which can be printed, can be entered
  pub listed_enters : IsSafe (market_of file) H → AllByRecursion FitPayment paid
      → CanBeEntered H accounts paid
  listed_enters safe fit =
      enters file H accounts safe are can paid
      (ap (λ (ps : List (ℕ × ℕ)). length ps) ends_are ∙ length-map pays ends_of ∙ as_many) fit

  -- and each user was paid then what the list prints
  pub listed_is_paid : (new : List Account) → ArePaid accounts new paid
      → All (λ p. p.paid ≡ p.low) pays → (at : ℕ) → ArePaidBy (Settled at pays) accounts new
  listed_is_paid new entered lows at =
      listed_paid (market_of file) H accounts new at pays can.unsettled are
      (subst (ArePaid accounts new) ends_are entered) (as_many ∙ sym are.one_each) lows
