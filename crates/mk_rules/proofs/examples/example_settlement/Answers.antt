use Rattle.std.proofs.Common.{◌≡◌, ℕ, ◌^◌, List, [], ◌∷◌, get_or, refl, sym, ap, subst, arith}
use Rattle.std.specs.List.{AllZip, enumerate_from}
use Rattle.mk_exact.specs.History.{users}
use Rattle.mk_exact.specs.Weight.{IsSmall}
use Rattle.mk_exact.specs.Factors.{HoldsNoTrade, factor}
use Rattle.mk_exact.specs.Cash.{IsCash, CoversCash}
use Rattle.mk_exact.specs.Examples.{coin, alice, heads_taken}
use Rattle.mk_reply.specs.declared.payments.Payment.{Payment}
use Rattle.mk_reply.specs.declared.reply.Reply.{Reply}
use Rattle.mk_reply.specs.declared.reply.Reply.TheVariants.{Settled, Paid as PaidOut}
use Rattle.mk_rules.specs.Answers.{IsPayment, IsSettlement}
use Rattle.mk_rules.specs.Examples.{bob, heads_up, paying, settled_with}
use Rattle.mk_rules.proofs.Cashed.{no_more}
use Rattle.mk_rules.proofs.examples.example_settlement.Goals as goal
use Rattle.mk_rules.specs.Answers.{IsSettling}
use Rattle.mk_rules.specs.Examples.{coin_market}

abbrev Small : Type 0
Small = IsSmall coin heads_up

alice_covers : IsCash (factor heads_taken 0 (0 ∷ [])) 100 126
    → CoversCash Small (HoldsNoTrade heads_up 0) (2 ^ 42) (factor heads_up 0 (0 ∷ [])) 100 126 126
alice_covers h = record {
  cash = 126;
  is_cash = h;
  above = omega arith;
  below = omega arith;
  near = record { low_near = omega arith; high_near = omega arith };
  nearer = λ s. record { low_near = omega arith; high_near = omega arith };
  exact = λ e. (refl, refl);
}

bob_covers : CoversCash Small (HoldsNoTrade heads_up 1) (2 ^ 42) (factor heads_up 1 (0 ∷ []))
    100 0 0
bob_covers = record {
  cash = 0;
  is_cash = record { covered = omega arith; greatest = omega arith };
  above = omega arith;
  below = omega arith;
  near = record { low_near = omega arith; high_near = omega arith };
  nearer = λ s. record { low_near = omega arith; high_near = omega arith };
  exact = λ e. (refl, refl);
}

listed : IsCash (factor heads_taken 0 (0 ∷ [])) 100 126
    → IsSettlement coin heads_up 1000 100 (settled_with
    (paying alice 126 126 126 ∷ paying bob 0 0 0 ∷ []))
listed h = record {
  state = 0 ∷ [];
  one_state = refl;
  payments = paying alice 126 126 126 ∷ paying bob 0 0 0 ∷ [];
  printed = refl;
  paid = (
    record { name = refl; covers = alice_covers h; low_end = refl },
    (record { name = refl; covers = bob_covers; low_end = refl }, tt),
  );
}

settlement : IsCash (factor heads_taken 0 (0 ∷ [])) 100 126
    → IsSettling coin_market heads_up (settled_with
    (paying alice 126 126 126 ∷ paying bob 0 0 0 ∷ []))
settlement h = record { listed = λ few. listed h; summed = λ many. absurd (omega arith) }

high_told : Reply → ℕ
high_told (PaidOut payment) = payment.high
high_told _ = 0

payments_in : Reply → List Payment
payments_in (Settled at payments) = payments
payments_in _ = []

-- what the payments of an allowed settlement are
are_paid : (payments : List Payment) → IsSettling coin_market heads_up (settled_with payments)
    → AllZip (IsPayment coin heads_up 1000 100 (0 ∷ [])) (enumerate_from 0 (users heads_up))
    payments
unfolding payments_in
are_paid payments settling =
    let h = settling.listed (omega arith) in
    let state : h.state ≡ 0 ∷ [] = ap (λ (states : List (List ℕ)). get_or states 0 []) (sym h.one_state) in
    subst (λ (s : List ℕ). AllZip (IsPayment coin heads_up 1000 100 s)
    (enumerate_from 0 (users heads_up)) payments) state
    (subst (λ (ps : List Payment). AllZip (IsPayment coin heads_up 1000 100 h.state)
    (enumerate_from 0 (users heads_up)) ps) (sym (ap payments_in h.printed)) h.paid)

pub returns : goal.returns
unfolding high_told
returns c = record {
  allowed = settlement c.example_cash.ensures.heads_cash;
  not_wide = λ h. omega (arith, (are_paid _ h).0.covers.near.high_near);
  not_less = λ h. omega (arith, (are_paid _ h).0.covers.near.low_near);
  not_idle = λ h. omega (arith, (are_paid _ h).1.0.covers.near.high_near);
  not_high = λ h. omega (arith, (are_paid _ h).0.low_end);
  not_above = λ h. let covers = (are_paid _ h).0.covers in
      omega (arith, no_more (factor heads_up 0 (0 ∷ [])) 100 126 covers.cash c.example_cash.ensures.heads_cash covers.is_cash, covers.above);
  not_one = λ h. (are_paid _ h).1;
  appended = refl;
  in_order = λ h. omega (arith, ap (λ (name : List ℕ). get_or name 0 0) (are_paid _ h).0.name);
  not_summed = λ h. let e = (h.listed (omega arith)).printed in cc;
  told_alice = refl;
  told_bob = refl;
  not_told = λ h. let e = ap high_told h in omega arith;
}
