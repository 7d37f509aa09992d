-- Payments by rule that are told are what the rules allow.
use Rattle.std.specs.Prelude.{◌≡◌, ℕ, ◌+◌, List, [], ◌∷◌, length, map}
use Rattle.std.specs.List.{AllByRecursion, AllZip, enumerate_from, range_with_len}
use Rattle.std.proofs.Common.{sym, ap, subst}
use Rattle.mk_net.specs.Bounds.{sharpness}
use Rattle.mk_net.specs.Network.{IsNetwork}
use Rattle.mk_states.specs.Events.{always}
use Rattle.mk_exact.specs.Cash.{CoversCash}
use Rattle.mk_exact.specs.Factors.{HoldsNoTrade, factor}
use Rattle.mk_exact.specs.Sound.{IsSound}
use Rattle.mk_exact.specs.History.{Entry, users}
use Rattle.mk_exact.specs.ByRule.{payment_by_rule, payments_by_rule, first_state}
use Rattle.mk_exact.specs.Weight.{IsSmall, possible_states}
use Rattle.mk_cash.proofs.Payments.{payment_by_rule_covers}
use Rattle.mk_file.specs.declared.market_file.MarketFile.{MarketFile}
use Rattle.mk_file.specs.MarketOf.{market_of}
use Rattle.mk_reply.specs.declared.payments.Payment.{Payment}
use Rattle.mk_rules.specs.Answers.{IsPayment, ends_of}
use Rattle.mk_restore.specs.Laws.{IsSafe}

-- payments in the order of names, with the ends that a rule gives each place
told_each : (R : ℕ × List ℕ → Payment → Type 0) (rule : ℕ → ℕ × ℕ)
    → ((u : ℕ) (name : List ℕ) (p : Payment) → p.user ≡ name → ends_of p ≡ rule u
    → p.paid ≡ p.low → R (u, name) p)
    → (names : List (List ℕ)) (pays : List Payment) (m : ℕ)
    → map (λ (p : Payment). p.user) pays ≡ names
    → map ends_of pays ≡ map rule (range_with_len m (length names))
    → AllByRecursion (λ (p : Payment). p.paid ≡ p.low) pays
    → AllZip R (enumerate_from m names) pays
told_each R rule each [] [] m in_order same lows = tt
told_each R rule each [] (p ∷ pays) m in_order same lows = absurd (cc)
told_each R rule each (name ∷ names) [] m in_order same lows = absurd (cc)
told_each R rule each (name ∷ names) (p ∷ pays) m in_order same lows =
    let first : p.user ≡ name = cc in
    let later : map (λ (p : Payment). p.user) pays ≡ names = cc in
    let own : ends_of p ≡ rule m = cc in
    let others : map ends_of pays ≡ map rule (range_with_len (m + 1) (length names)) = cc in (
      each m name p first own lows.0,
      told_each R rule each names pays (m + 1) later others lows.1,
    )

-- in the one possible state the payments by rule are what users are paid
pub rule_pays : (file : MarketFile) (H : List Entry) → IsNetwork file.net
    → IsSafe (market_of file) H → IsSound file.net H → (state : List ℕ)
    → possible_states file.net H always ≡ state ∷ [] → (pays : List Payment)
    → map (λ (p : Payment). p.user) pays ≡ users H
    → map ends_of pays ≡ payments_by_rule file.net H file.points_per_bit
    → AllByRecursion (λ (p : Payment). p.paid ≡ p.low) pays
    → AllZip (IsPayment file.net H file.max_trades file.points_per_bit state)
    (enumerate_from 0 (users H)) pays
rule_pays file H legal safe sound state one pays in_order same lows =
    told_each (IsPayment file.net H file.max_trades file.points_per_bit state)
    (payment_by_rule H file.points_per_bit state) each (users H) pays 0 in_order
    (subst (λ (s : List ℕ). map ends_of pays
    ≡ map (payment_by_rule H file.points_per_bit s) (range_with_len 0 (length (users H))))
    (ap first_state one) same)
    lows
  where
    covers : (u : ℕ) → CoversCash (IsSmall file.net H) (HoldsNoTrade H u)
        (sharpness file.max_trades) (factor H u state) file.points_per_bit
        (payment_by_rule H file.points_per_bit state u).0
        (payment_by_rule H file.points_per_bit state u).1
    covers u =
        payment_by_rule_covers file.net H file.max_trades file.points_per_bit state u legal
        safe.proper sound safe.bounded.within safe.bounded.few_trades safe.legal.some_points
        safe.legal.few_points one

    each : (u : ℕ) (name : List ℕ) (p : Payment) → p.user ≡ name
        → ends_of p ≡ payment_by_rule H file.points_per_bit state u → p.paid ≡ p.low
        → IsPayment file.net H file.max_trades file.points_per_bit state (u, name) p
    each u name p named ends_are low = record {
      name = named;
      covers = subst (λ (both : ℕ × ℕ). CoversCash (IsSmall file.net H) (HoldsNoTrade H u)
          (sharpness file.max_trades) (factor H u state) file.points_per_bit both.0 both.1)
          (sym ends_are) (covers u);
      low_end = low;
    }
