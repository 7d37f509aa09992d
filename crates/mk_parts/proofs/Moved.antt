-- How many bits users moved.
use Rattle.std.specs.Prelude.{◌≡◌, ℕ, ◌*◌, ◌≤◌, List, [], ◌∷◌, Bool}
use Rattle.std.specs.Prelude.{true, false, ◌==◌, cond}
use Rattle.std.specs.List.{AllByRecursion, count_by}
use Rattle.std.proofs.Common.{refl, arith, ne_eqb}
use Rattle.std.proofs.lemmas.List.Sums.{sum_by-cons}
use Rattle.mk_exact.specs.History.{Entry, Join, Deposit, Withdraw, Trade, Resolve, Settle, Add}
use Rattle.mk_exact.specs.History.{deposited, withdrawn, bits_in, bits_out, is_transfer}
use Rattle.mk_rules.specs.Bounded.{FitsTransfer}
use Rattle.mk_rules.proofs.Bounds.{count_first}

-- a user who has not joined moved no bits, and nobody moved more than 1,000 at once
module _ (n : ℕ) where
  bits_none : (e : Entry) → FitsTransfer n e → (bits_in n e ≡ 0) × (bits_out n e ≡ 0)
  bits_none (Join name) h = (refl, refl)
  bits_none (Deposit user bits) h = (rw (ne_eqb user n (λ same. absurd (omega (arith, same, h.user)))) refl, refl)
  bits_none (Withdraw user bits) h = (refl, rw (ne_eqb user n (λ same. absurd (omega (arith, same, h.user)))) refl)
  bits_none (Trade user ratio) h = (refl, refl)
  bits_none (Resolve pair) h = (refl, refl)
  bits_none (Settle payments) h = (refl, refl)
  bits_none (Add addition) h = (refl, refl)

  pub none_moved : (H : List Entry) → AllByRecursion (FitsTransfer n) H → (deposited H n ≡ 0) × (withdrawn H n ≡ 0)
  none_moved [] h = (refl, refl)
  none_moved (e ∷ H) h =
      let first = bits_none e (h.0) in let rest = none_moved H (h.1) in
      (omega (arith, sum_by-cons (bits_in n) e H, first.0, rest.0), omega (arith, sum_by-cons (bits_out n) e H, first.1, rest.1))

  bits_few : (u : ℕ) (e : Entry) → FitsTransfer n e → (bits_in u e ≤ 1000 * cond (is_transfer e) 1 0) × (bits_out u e ≤ 1000 * cond (is_transfer e) 1 0)
  bits_few u (Join name) h = (omega arith, omega arith)
  bits_few u (Deposit user bits) h = (at (user == u), omega arith)
    where
      at : (b : Bool) → cond b bits 0 ≤ 1000 * 1
      at true = omega (arith, h.few)
      at false = omega arith
  bits_few u (Withdraw user bits) h = (omega arith, at (user == u))
    where
      at : (b : Bool) → cond b bits 0 ≤ 1000 * 1
      at true = omega (arith, h.few)
      at false = omega arith
  bits_few u (Trade user ratio) h = (omega arith, omega arith)
  bits_few u (Resolve pair) h = (omega arith, omega arith)
  bits_few u (Settle payments) h = (omega arith, omega arith)
  bits_few u (Add addition) h = (omega arith, omega arith)

  pub few_moved : (u : ℕ) (H : List Entry) → AllByRecursion (FitsTransfer n) H → (deposited H u ≤ 1000 * count_by is_transfer H) × (withdrawn H u ≤ 1000 * count_by is_transfer H)
  few_moved u [] h = (omega arith, omega arith)
  few_moved u (e ∷ H) h =
      let first = bits_few u e (h.0) in let rest = few_moved u H (h.1) in let count = count_first is_transfer e H in
      (omega (arith, sum_by-cons (bits_in u) e H, first.0, rest.0, count), omega (arith, sum_by-cons (bits_out u) e H, first.1, rest.1, count))
