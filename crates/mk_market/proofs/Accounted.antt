-- The accounts of a market's users after one more entry.
use Rattle.std.specs.Prelude.{◌≡◌, ℕ, ◌+◌, ◌*◌, ◌<◌, zero, suc, List, [], ◌∷◌, ◌++◌, length}
use Rattle.std.specs.Prelude.{false, None, slice_get, slice_set, ◌⊎◌}
use Rattle.std.specs.List.{AllByRecursion}
use Rattle.std.proofs.Common.{inl, inr, refl, sym, ap, ◌∙◌, subst, arith, eq-eqb, ne_eqb}
use Rattle.std.proofs.lemmas.Bool.{cases_eq}
use Rattle.std.proofs.lemmas.List.{length_push, length-set, get_or-set_same, get_or-set_other}
use Rattle.std.proofs.lemmas.List.{get_or_append_left, get_or_push}
use Rattle.mk_exact.specs.History.{Entry, Join, Deposit, Withdraw, Trade, Resolve, Settle, Add}
use Rattle.mk_exact.specs.History.{users, deposited, withdrawn, bits_in, bits_out}
use Rattle.mk_exact.specs.History.{join_in, is_settlement, is_settled, payments_in, or_nothing}
use Rattle.mk_exact.specs.History.{payment_to}
use Rattle.mk_exact.specs.Market.{Market}
use Rattle.mk_exact.proofs.After.{deposited_more, withdrawn_more, users_kept, users_more}
use Rattle.mk_exact.proofs.After.{payments_kept, payments_before}
use Rattle.mk_rules.specs.Bounded.{FitsTransfer}
use Rattle.mk_cash.specs.declared.ledger.Account.{Account}
use Rattle.mk_cash.specs.Accounts.{account_of, empty_account}
use Rattle.mk_market.specs.Points.{IsAccount, AreAccounts}
use Rattle.mk_parts.proofs.Moved.{none_moved}

-- an account that is set to one that was paid the same leaves what was paid, and so does one that
-- is opened
pub paid_set : (accounts : List Account) (user : ℕ) (new : Account) → user < length accounts
    → new.paid ≡ (account_of accounts user).paid
    → (u : ℕ) → (account_of (slice_set accounts user new) u).paid ≡ (account_of accounts u).paid
paid_set accounts user new within same u = at (cases_eq u user)
  where
    at : (u ≡ user) ⊎ (u ≡ user → ⊥)
        → (account_of (slice_set accounts user new) u).paid ≡ (account_of accounts u).paid
    at (inl e) =
        ap (λ (k : ℕ). (account_of (slice_set accounts user new) k).paid) e ∙ ap
        (λ (a : Account). a.paid) (get_or-set_same accounts user new empty_account within) ∙
        same
        ∙ ap (λ (k : ℕ). (account_of accounts k).paid) (sym e)
    at (inr other) = ap (λ (a : Account). a.paid)
        (get_or-set_other accounts user u new empty_account other)

pub paid_opened : (accounts : List Account) (u : ℕ)
    → (account_of (accounts ++ empty_account ∷ []) u).paid ≡ (account_of accounts u).paid
paid_opened [] zero = refl
paid_opened [] (suc u) = refl
paid_opened (a ∷ accounts) zero = refl
paid_opened (a ∷ accounts) (suc u) = paid_opened accounts u

-- an account with more points paid in, or taken out
abbrev pub with_deposited : Account → ℕ → Account
with_deposited before points = record before { deposited = before.deposited + points }

abbrev pub with_withdrawn : Account → ℕ → Account
with_withdrawn before points = record before { withdrawn = before.withdrawn + points }

-- what some payments pay a user
abbrev paid_in : ℕ → List (ℕ × ℕ) → ℕ × ℕ
paid_in u payments = or_nothing (slice_get payments u)

pays_nothing : (e : Entry) → is_settlement e ≡ false → payments_in e ≡ []
pays_nothing (Join name) h = refl
pays_nothing (Deposit user bits) h = refl
pays_nothing (Withdraw user bits) h = refl
pays_nothing (Trade user ratio) h = refl
pays_nothing (Resolve pair) h = refl
pays_nothing (Settle payments) h = absurd (cc)
pays_nothing (Add addition) h = refl

-- an entry that is no settlement leaves what a user is paid
pub payment_kept : (H : List Entry) (e : Entry) (u : ℕ) → is_settlement e ≡ false
    → payment_to H u ≡ payment_to (H ++ e ∷ []) u
payment_kept H e u other = ap (paid_in u) (sym (payments_kept H e (pays_nothing e other)))

module _ (market : Market) (H : List Entry) (unsettled : is_settled H ≡ false) where
  -- before the settlement nothing is paid
  nothing_paid : (u : ℕ) → (0, 0) ≡ payment_to H u
  nothing_paid u = ap (paid_in u) (sym (payments_before H unsettled))

  -- an entry that is no settlement pays nothing more
  paid_still : (e : Entry) (u : ℕ) (a b : Account) → is_settlement e ≡ false
      → IsAccount market H u a → b.paid ≡ a.paid → b.high ≡ a.high
      → (b.paid ≡ (payment_to (H ++ e ∷ []) u).0) × (b.high ≡ (payment_to (H ++ e ∷ []) u).1)
  paid_still e u a b other old low high =
      let still = payment_kept H e u other in (
        low ∙ old.paid_to.0 ∙ ap (λ (p : ℕ × ℕ). p.0) still,
        high ∙ old.paid_to.1 ∙ ap (λ (p : ℕ × ℕ). p.1) still,
      )

  -- an account to which the points of the user's bits are added
  account_moved : (e : Entry) (u : ℕ) (a b : Account) → is_settlement e ≡ false
      → IsAccount market H u a → b.paid ≡ a.paid → b.high ≡ a.high
      → (ins outs : ℕ) → bits_in u e ≡ ins → bits_out u e ≡ outs
      → b.deposited ≡ a.deposited + market.points_per_bit * ins
      → b.withdrawn ≡ a.withdrawn + market.points_per_bit * outs
      → IsAccount market (H ++ e ∷ []) u b
  account_moved e u a b other old low high ins outs ins_are outs_are paid taken =
      let d : deposited (H ++ e ∷ []) u ≡ deposited H u + ins
      = deposited_more H e u ∙ ap (λ (n : ℕ). deposited H u + n) ins_are in
      let w : withdrawn (H ++ e ∷ []) u ≡ withdrawn H u + outs
      = withdrawn_more H e u ∙ ap (λ (n : ℕ). withdrawn H u + n) outs_are in
      record {
        paid_in = rw (paid, d, old.paid_in) (omega arith);
        taken_out = rw (taken, w, old.taken_out) (omega arith);
        paid_to = paid_still e u a b other old low high;
      }

  no_points : (points : ℕ) → points ≡ points + market.points_per_bit * 0
  no_points points = omega arith

  -- an entry that moves none of the user's bits
  account_kept : (e : Entry) (u : ℕ) (a : Account) → is_settlement e ≡ false → bits_in u e ≡ 0 → bits_out u e ≡ 0 → IsAccount market H u a → IsAccount market (H ++ e ∷ []) u a
  account_kept e u a other ins outs old =
      account_moved e u a a other old refl refl 0 0 ins outs (no_points a.deposited)
      (no_points a.withdrawn)

  -- one account changes, and the entry moves nobody else's bits
  pub accounts_set : (e : Entry) (accounts : List Account) (user : ℕ) (new : Account) → is_settlement e ≡ false → join_in e ≡ None → user < length (users H)
      → ((u : ℕ) → (u ≡ user → ⊥) → (bits_in u e ≡ 0) × (bits_out u e ≡ 0))
      → IsAccount market (H ++ e ∷ []) user new → AreAccounts market H accounts → AreAccounts market (H ++ e ∷ []) (slice_set accounts user new)
  accounts_set e accounts user new other joins within others own old = record {
    one_each = length-set accounts user new ∙ old.one_each ∙ sym (ap (λ (names : List (List ℕ)). length names) (users_kept H e joins));
    each = λ u h. at u (rw (length-set accounts user new) at h) (cases_eq u user);
  }
    where
      at : (u : ℕ) → u < length accounts → ((u ≡ user) ⊎ (u ≡ user → ⊥)) → IsAccount market (H ++ e ∷ []) u (account_of (slice_set accounts user new) u)
      at u h (inl same) = subst (λ (v : ℕ). IsAccount market (H ++ e ∷ []) v (account_of (slice_set accounts user new) v)) (sym same)
          (subst (IsAccount market (H ++ e ∷ []) user) (sym (get_or-set_same accounts user new empty_account (omega (arith, within, old.one_each)))) own)
      at u h (inr apart) = subst (IsAccount market (H ++ e ∷ []) u) (sym (get_or-set_other accounts user u new empty_account apart))
          (let none = others u apart in account_kept e u (account_of accounts u) other (none.0) (none.1) (old.each u h))

  -- none does
  pub accounts_kept : (e : Entry) (accounts : List Account) → is_settlement e ≡ false → join_in e ≡ None → ((u : ℕ) → (bits_in u e ≡ 0) × (bits_out u e ≡ 0))
      → AreAccounts market H accounts → AreAccounts market (H ++ e ∷ []) accounts
  accounts_kept e accounts other joins others old = record {
    one_each = old.one_each ∙ sym (ap (λ (names : List (List ℕ)). length names) (users_kept H e joins));
    each = λ u h. let none = others u in account_kept e u (account_of accounts u) other (none.0) (none.1) (old.each u h);
  }

  -- bits are paid in
  pub accounts_deposited : (accounts : List Account) (user bits points : ℕ) → user < length (users H) → points ≡ market.points_per_bit * bits → AreAccounts market H accounts
      → AreAccounts market (H ++ Deposit user bits ∷ [])
      (slice_set accounts user (with_deposited (account_of accounts user) points))
  accounts_deposited accounts user bits points within worth old =
      accounts_set (Deposit user bits) accounts user _ refl refl within
      (λ u other. (rw (ne_eqb user u (λ same. other (sym same))) refl, refl))
      (account_moved (Deposit user bits) user (account_of accounts user)
      (with_deposited (account_of accounts user) points) refl
      (old.each user (omega (arith, within, old.one_each))) refl refl
      bits 0 (rw (eq-eqb user user refl) refl) refl
      (ap (λ (n : ℕ). (account_of accounts user).deposited + n) worth)
      (no_points (account_of accounts user).withdrawn))
      old

  -- or taken out
  pub accounts_withdrawn : (accounts : List Account) (user bits points : ℕ) → user < length (users H) → points ≡ market.points_per_bit * bits → AreAccounts market H accounts
      → AreAccounts market (H ++ Withdraw user bits ∷ [])
      (slice_set accounts user (with_withdrawn (account_of accounts user) points))
  accounts_withdrawn accounts user bits points within worth old =
      accounts_set (Withdraw user bits) accounts user _ refl refl within
      (λ u other. (refl, rw (ne_eqb user u (λ same. other (sym same))) refl))
      (account_moved (Withdraw user bits) user (account_of accounts user)
      (with_withdrawn (account_of accounts user) points) refl
      (old.each user (omega (arith, within, old.one_each))) refl refl
      0 bits refl (rw (eq-eqb user user refl) refl) (no_points (account_of accounts user).deposited)
      (ap (λ (n : ℕ). (account_of accounts user).withdrawn + n) worth))
      old

  -- a user joins
  pub accounts_joined : (accounts : List Account) (name : List ℕ) → AllByRecursion (FitsTransfer (length (users H))) H → AreAccounts market H accounts
      → AreAccounts market (H ++ Join name ∷ []) (accounts ++ empty_account ∷ [])
  accounts_joined accounts name fits old = record {
    one_each = length_push accounts empty_account ∙ ap (λ (n : ℕ). n + 1) old.one_each ∙ sym (ap (λ (names : List (List ℕ)). length names) (users_more H name) ∙ length_push (users H) name);
    each = λ u h. at u (rw (length_push accounts empty_account) at h) (cases_eq u (length accounts));
  }
    where
      moved : (deposited H (length (users H)) ≡ 0) × (withdrawn H (length (users H)) ≡ 0)
      moved = none_moved (length (users H)) H fits

      newcomer : IsAccount market H (length (users H)) empty_account
      newcomer = record {
        paid_in = rw (moved.0) (omega arith);
        taken_out = rw (moved.1) (omega arith);
        paid_to = (
          ap (λ (p : ℕ × ℕ). p.0) (nothing_paid (length (users H))),
          ap (λ (p : ℕ × ℕ). p.1) (nothing_paid (length (users H))),
        );
      }

      at : (u : ℕ) → u < length accounts + 1 → ((u ≡ length accounts) ⊎ (u ≡ length accounts → ⊥)) → IsAccount market (H ++ Join name ∷ []) u (account_of (accounts ++ empty_account ∷ []) u)
      at u h (inl same) = subst (IsAccount market (H ++ Join name ∷ []) u) (sym (get_or_push accounts empty_account empty_account u (sym same)))
          (account_kept (Join name) u empty_account refl refl refl (subst (λ (v : ℕ). IsAccount market H v empty_account) (sym (same ∙ old.one_each)) newcomer))
      at u h (inr other) = subst (IsAccount market (H ++ Join name ∷ []) u) (sym (get_or_append_left accounts (empty_account ∷ []) empty_account u (omega (arith, h, other))))
          (account_kept (Join name) u (account_of accounts u) refl refl refl (old.each u (omega (arith, h, other))))
