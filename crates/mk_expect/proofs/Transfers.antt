-- How many bits a user can deposit and withdraw.
use Rattle.std.proofs.Common.{ℕ, ◌*◌, ◌≤◌, Bool, true, false, cond, List, [], ◌∷◌, eqb, sum_by}
use Rattle.std.proofs.Common.{length, arith}
use Rattle.std.specs.List.{AllByRecursion}
use Rattle.std.proofs.lemmas.List.Sums.{sum_by-cons}
use Rattle.mk_net.specs.Bounds.{max_transfers, max_transfer_bits}
use Rattle.mk_exact.specs.History.{Entry, Join, Deposit, Withdraw, Trade, Resolve, Settle, Add}
use Rattle.mk_exact.specs.History.{bits_in, bits_out, is_transfer, users}
use Rattle.mk_rules.specs.Bounded.{FitsTransfer}
use Rattle.mk_expect.specs.Expectation.{BoundedHasFewBits}

own_bits : (b : Bool) (n : ℕ) → n ≤ max_transfer_bits → cond b n 0 ≤ max_transfer_bits * 1
own_bits true n l = omega (arith, l)
own_bits false n l = omega arith

module _ (joined u : ℕ) where
  -- what one entry deposits, and what it withdraws
  one : (e : Entry) → FitsTransfer joined e
      → (bits_in u e ≤ max_transfer_bits * cond (is_transfer e) 1 0)
      × (bits_out u e ≤ max_transfer_bits * cond (is_transfer e) 1 0)
  one (Join name) h = (omega arith, omega arith)
  one (Deposit v n) h = (own_bits (eqb v u) n h.few, omega arith)
  one (Withdraw v n) h = (omega arith, own_bits (eqb v u) n h.few)
  one (Trade v r) h = (omega arith, omega arith)
  one (Resolve p) h = (omega arith, omega arith)
  one (Settle payments) h = (omega arith, omega arith)
  one (Add a) h = (omega arith, omega arith)

  all_at_most : (m : Entry → ℕ)
      → ((e : Entry) → FitsTransfer joined e → m e ≤ max_transfer_bits * cond (is_transfer e) 1 0)
      → (H : List Entry) → AllByRecursion (FitsTransfer joined) H
      → sum_by m H ≤ max_transfer_bits * sum_by (λ e. cond (is_transfer e) 1 0) H
  all_at_most m each [] h = omega arith
  all_at_most m each (e ∷ H) h =
      let a = sum_by-cons m e H in let b = sum_by-cons (λ e. cond (is_transfer e) 1 0) e H in
      let c = each e h.0 in let d = all_at_most m each H h.1 in
      omega (arith, a, b, c, d)

pub bounded_has_few_bits : BoundedHasFewBits
bounded_has_few_bits market H u bounded =
    let few : sum_by (λ e. cond (is_transfer e) 1 0) H ≤ max_transfers =
    bounded.within.few_transfers in
    let joined = length (users H) in
    let ins = all_at_most joined u (bits_in u) (λ e h. (one joined u e h).0) H
    bounded.transfers_fit in
    let outs = all_at_most joined u (bits_out u) (λ e h. (one joined u e h).1) H
    bounded.transfers_fit in
    record {
      few_deposited = omega (arith, few, ins);
      few_withdrawn = omega (arith, few, outs);
    }
