-- A market is settled by rule.
use Rattle.std.specs.Prelude.{◌≡◌, ℕ, ◌<◌, List, [], ◌∷◌, ◌++◌, length}
use Rattle.std.specs.List.{AllByRecursion}
use Rattle.std.proofs.Common.{refl, sym, ap, ◌∙◌, subst}
use Rattle.mk_net.specs.Bounds.{number_limit}
use Rattle.mk_states.specs.States.{numbers_below}
use Rattle.mk_exact.specs.History.{Entry, Settle as Settles, users}
use Rattle.mk_exact.specs.ByRule.{outcome, payments_by_rule, paid_in_all}
use Rattle.mk_exact.proofs.After.{users_kept}
use Rattle.mk_file.specs.declared.market_file.MarketFile.{MarketFile}
use Rattle.mk_file.specs.MarketOf.{market_of}
use Rattle.mk_cash.specs.declared.ledger.Account.{Account}
use Rattle.mk_cash.proofs.Sums.{payments_by_rule_fit}
use Rattle.mk_rules.specs.Bounded.{FitPayment}
use Rattle.mk_rules.proofs.Bounds.{limits_of}
use Rattle.mk_rules.proofs.Follows.{rule_ends_fit}
use Rattle.mk_record.specs.Refused.{CanBeSettled}
use Rattle.mk_restore.specs.Laws.{IsSafe}
use Rattle.mk_replay.specs.Tills.{TillOf}
use Rattle.mk_settling.specs.Paying.{CanBeEntered}
use Rattle.mk_market.specs.Points.{AreAccounts}
use Rattle.mk_market.proofs.Fitting.{rule_count}
use Rattle.mk_market.proofs.Settlement.{enters}

-- tills that are the same have the same payments
pub same_payments : {t u : TillOf} → t ≡ u → t.payments ≡ u.payments
same_payments same = ap (λ (t : TillOf). t.payments) same

module _ (file : MarketFile) {H : List Entry} (safe : IsSafe (market_of file) H)
    {paid : List (ℕ × ℕ)} (by_rule : paid ≡ payments_by_rule file.net H file.points_per_bit) where
  -- payments by rule can be summed, and they can be printed
  pub rule_sum_fits : paid_in_all paid < number_limit
  rule_sum_fits =
      subst (λ (ps : List (ℕ × ℕ)). paid_in_all ps < number_limit) (sym by_rule)
      (payments_by_rule_fit file.net H file.points_per_bit safe.bounded.within
      safe.legal.few_points)

  pub rule_fits : AllByRecursion FitPayment paid
  rule_fits =
      subst (AllByRecursion FitPayment) (sym by_rule)
      (rule_ends_fit (market_of file) H (limits_of (market_of file) safe.legal) safe.bounded
      (outcome file.net H) (numbers_below (length (users H))))

  -- and entered
  pub rule_enters : {accounts : List Account} → AreAccounts (market_of file) H accounts
      → CanBeSettled file.net H → CanBeEntered H accounts paid
  rule_enters {accounts} are can =
      enters file H accounts safe are can paid
      (ap (λ (ps : List (ℕ × ℕ)). length ps) by_rule
      ∙ rule_count file.net H file.points_per_bit) rule_fits

-- as many users joined as before
pub as_many_joined : (H K : List Entry) (paid : List (ℕ × ℕ)) → K ≡ H ++ Settles paid ∷ []
    → length (users K) ≡ length (users H)
as_many_joined H K paid history =
    ap (λ (all : List Entry). length (users all)) history
    ∙ ap (λ (names : List (List ℕ)). length names) (users_kept H (Settles paid) refl)
