-- Payments are booked, one after another.
use Rattle.std.specs.Prelude.{◌≡◌, ℕ, ◌+◌, ◌<◌, ◌≤◌, List, length, Some, slice_get, slice_set}
use Rattle.std.specs.Prelude.{◌⊎◌}
use Rattle.std.proofs.Common.{refl, sym, ap, ◌∙◌, subst, inl, inr, arith}
use Rattle.std.proofs.lemmas.Bool.{cases_eq}
use Rattle.std.proofs.lemmas.List.{length-set, get_or-set_same, get_or-set_other}
use Rattle.mk_exact.specs.History.{or_nothing}
use Rattle.mk_cash.specs.declared.ledger.Account.{Account}
use Rattle.mk_cash.specs.Accounts.{account_of, empty_account}
use Rattle.mk_settling.specs.Paying.{IsPaid}

-- those before a place are booked, and none from there on
pub record AreBookedBefore (accounts : List Account) (paid : List (ℕ × ℕ)) (n : ℕ)
    (booked : List Account) : Type 0 where
  pub count : length booked ≡ length accounts
  pub behind : (u : ℕ) → u < n → IsPaid (account_of accounts u) (account_of booked u) (or_nothing (slice_get paid u))
  pub before : (u : ℕ) → n ≤ u → account_of booked u ≡ account_of accounts u

pub none_booked : (accounts : List Account) (paid : List (ℕ × ℕ))
    → AreBookedBefore accounts paid 0 accounts
none_booked accounts paid = record {
  count = refl;
  behind = λ u earlier. absurd (omega arith);
  before = λ u later. refl;
}

-- an account that a payment was entered into
abbrev entered_account : Account → ℕ × ℕ → Account
entered_account account payment = record account { paid = account.paid + payment.0; high = payment.1 }

pub one_booked : (accounts : List Account) (paid : List (ℕ × ℕ)) (n : ℕ)
    (booked new : List Account) (payment : ℕ × ℕ) → n < length accounts
    → slice_get paid n ≡ Some payment
    → AreBookedBefore accounts paid n booked
    → new ≡ slice_set booked n (entered_account (account_of booked n) payment)
    → AreBookedBefore accounts paid (n + 1) new
one_booked accounts paid n booked new payment within its so_far entered = record {
  count = ap (λ (xs : List Account). length xs) entered ∙ length-set booked n entry ∙ so_far.count;
  behind = λ u earlier. now_behind u earlier (cases_eq u n);
  before = λ u later. other u (λ same. absurd (omega (arith, same, later))) ∙ so_far.before u (omega (arith, later));
}
  where
    entry : Account
    entry = entered_account (account_of booked n) payment

    place : n < length booked
    place = omega (arith, within, so_far.count)

    here : account_of new n ≡ entry
    here = ap (λ (xs : List Account). account_of xs n) entered ∙ get_or-set_same booked n entry empty_account place

    other : (u : ℕ) → (u ≡ n → ⊥) → account_of new u ≡ account_of booked u
    other u differs = ap (λ (xs : List Account). account_of xs u) entered
        ∙ get_or-set_other booked n u entry empty_account differs

    own : IsPaid (account_of accounts n) entry payment
    own =
        let was = so_far.before n (omega arith) in
        subst (λ (a : Account). IsPaid a entry payment) was
        (record { paid = refl; high = refl; paid_in = refl; taken_out = refl })

    now_behind : (u : ℕ) → u < n + 1 → (u ≡ n) ⊎ (u ≡ n → ⊥)
        → IsPaid (account_of accounts u) (account_of new u) (or_nothing (slice_get paid u))
    now_behind u earlier (inl e) =
        subst (λ (k : ℕ). IsPaid (account_of accounts k) (account_of new k) (or_nothing (slice_get paid k))) (sym e)
        (subst (λ (a : Account). IsPaid (account_of accounts n) a (or_nothing (slice_get paid n))) (sym here)
        (subst (λ (ends : ℕ × ℕ). IsPaid (account_of accounts n) entry ends) (sym (ap or_nothing its)) own))
    now_behind u earlier (inr differs) =
        subst (λ (a : Account). IsPaid (account_of accounts u) a (or_nothing (slice_get paid u))) (sym (other u differs))
        (so_far.behind u (omega (arith, earlier, differs)))
