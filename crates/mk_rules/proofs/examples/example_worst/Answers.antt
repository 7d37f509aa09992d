use Rattle.std.proofs.Common.{ℕ, ◌^◌, refl, sym, ap, subst, arith}
use Rattle.mk_exact.specs.Factors.{Fraction, HoldsNoTrade, factor_with}
use Rattle.mk_exact.specs.Cash.{IsCash, AreNearCash, CoversCash}
use Rattle.mk_exact.specs.Weight.{IsSmall}
use Rattle.mk_exact.specs.Examples.{coin, heads_taken}
use Rattle.mk_reply.specs.declared.reply.Reply.{Reply}
use Rattle.mk_reply.specs.declared.reply.Reply.TheVariants.{Worst as Worsted}
use Rattle.mk_rules.specs.Answers.{IsWorst}
use Rattle.mk_rules.proofs.examples.example_worst.Goals as goal

least : Fraction
least = factor_with heads_taken 0 879609302220

abbrev Small : Type 0
Small = IsSmall coin heads_taken

abbrev Idle : Type 0
Idle = HoldsNoTrade heads_taken 0

near : AreNearCash (2 ^ 42) least 100 67 67
unfolding least
near = record { low_near = omega arith; high_near = omega arith }

nearer : AreNearCash (2 ^ 59) least 100 67 67
unfolding least
nearer = record { low_near = omega arith; high_near = omega arith }

covers : IsCash least 100 67 → CoversCash Small Idle (2 ^ 42) least 100 67 67
covers h = record {
  cash = 67;
  is_cash = h;
  above = omega arith;
  below = omega arith;
  near = near;
  nearer = λ s. nearer;
  exact = λ e. (refl, refl);
}

low_far : (high : ℕ) → AreNearCash (2 ^ 42) least 100 66 high → ⊥
unfolding least
low_far high h = omega (arith, h.low_near)

high_far : (low : ℕ) → AreNearCash (2 ^ 42) least 100 low 68 → ⊥
unfolding least
high_far low h = omega (arith, h.high_near)

worst : IsCash least 100 67 → IsWorst Small Idle (2 ^ 42) least 100 (Worsted 67 67)
worst h = record { low = 67; high = 67; printed = refl; covers = covers h }

low_in : Reply → ℕ
low_in (Worsted low high) = low
low_in _ = 0

high_in : Reply → ℕ
high_in (Worsted low high) = high
high_in _ = 0

-- the interval that a reply prints is the one that covers
covered : (low high : ℕ) → (h : IsWorst Small Idle (2 ^ 42) least 100 (Worsted low high))
    → CoversCash Small Idle (2 ^ 42) least 100 low high
unfolding low_in high_in
covered low high h = subst (λ (n : ℕ). CoversCash Small Idle (2 ^ 42) least 100 low n)
    (sym (ap high_in h.printed))
    (subst (λ (n : ℕ). CoversCash Small Idle (2 ^ 42) least 100 n h.high)
    (sym (ap low_in h.printed))
    h.covers)

pub returns : goal.returns
unfolding least
returns c =
    let cash = c.example_cash.ensures.tails_cash in
    record {
      allowed = worst cash;
      not_less = λ h. low_far 67 (covered 66 67 h).near;
      not_more = λ h. high_far 67 (covered 67 68 h).near;
      not_above = λ h. high_far 68 (covered 68 68 h).near;
      not_wide = λ h. low_far 68 (covered 66 68 h).near;
      appended = refl;
    }
