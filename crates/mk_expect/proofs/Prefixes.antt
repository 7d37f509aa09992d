-- The first entries of a history, and one of them.
use Rattle.std.proofs.Common.{◌≡◌, ℕ, ◌+◌, ◌*◌, ◌^◌, ◌≤◌, List, [], ◌∷◌, ◌++◌, length}
use Rattle.std.proofs.Common.{take, drop, eqb, sum_by, sym, ap, subst, arith}
use Rattle.std.specs.List.{AllByRecursion}
use Rattle.std.proofs.lemmas.List.Sums.{sum_by-append, sum_by-cons, sum_by-take-le}
use Rattle.std.proofs.lemmas.List.Sums.{length-filter, count_by-le-length}
use Rattle.mk_net.specs.Bounds.{max_market_trades}
use Rattle.mk_net.specs.Network.{Variable}
use Rattle.mk_exact.specs.Factors.{trade_count}
use Rattle.mk_exact.specs.History as history
use Rattle.mk_exact.specs.History.{bits_in, bits_out, trades, trades_of, deposited, withdrawn}
use Rattle.mk_exact.specs.History.{UserTrade}
use Rattle.mk_expect.specs.Expectation.{HasFewBits}
use Rattle.mk_expect.specs.declared.tally.Tally.{Tally}
use Rattle.mk_expect.specs.inner.Added.{AddsEntry, AddsEntries}
use Rattle.mk_expect.specs.inner.Parts.{own_trade}
use Rattle.mk_expect.specs.inner.Tallies.{IsWithin, tally_sum}
use Rattle.mk_best.proofs.Replayed.{around, all_back}
use Rattle.mk_expect.proofs.Added.{adds_more}
use Rattle.mk_expect.proofs.Histories.{own_trades}

-- what holds of each change holds of one
pub each_at : (P : history.Entry → Type 0) (H : List history.Entry) (e : history.Entry) (i : ℕ)
    → take (i + 1) H ≡ take i H ++ e ∷ [] → AllByRecursion P H → P e
each_at P H e i next h =
    (all_back P (take i H) (e ∷ drop (i + 1) H)
    (subst (λ (H : List history.Entry). AllByRecursion P H) (around H e i next) h)).0

module _ (f : history.Entry → ℕ) where
  -- what one adds is at most the sum over all
  one_at_most : (H : List history.Entry) (e : history.Entry) (i : ℕ)
      → take (i + 1) H ≡ take i H ++ e ∷ [] → f e ≤ sum_by f H
  one_at_most H e i next =
      let whole = ap (sum_by f) (around H e i next) in
      let parts = sum_by-append f (take i H) (e ∷ drop (i + 1) H) in
      let one = sum_by-cons f e (drop (i + 1) H) in
      omega (arith, whole, parts, one)

own_are_fewer : (H : List history.Entry) (u : ℕ) → trade_count H u ≤ length (trades H)
own_are_fewer H u =
    let own = λ (t : UserTrade). eqb t.user u in
    let e = length-filter own (trades H) in let l = count_by-le-length own (trades H) in
    omega (arith, e, l)

-- what is within the bits and trades of a whole history has room
pub has_room : (H : List history.Entry) (u : ℕ) (t : Tally) (ins outs n : ℕ) → HasFewBits H u
    → length (trades H) ≤ max_market_trades
    → ins ≤ deposited H u → outs ≤ withdrawn H u → n ≤ sum_by (own_trade u) H
    → IsWithin t (2 ^ 54 * ins + 2 ^ 65 * n) (2 ^ 54 * outs + 2 ^ 65 * n)
    → IsWithin t (2 ^ 86) (2 ^ 86)
has_room H u t ins outs n few some a b c h =
    let own = own_trades u H in
    let fewer = own_are_fewer H u in
    record {
      gained_in_order = h.gained_in_order;
      owed_in_order = h.owed_in_order;
      few_gained = omega (arith, h.few_gained, few.few_deposited, some, a, c, own, fewer);
      few_owed = omega (arith, h.few_owed, few.few_withdrawn, some, b, c, own, fewer);
    }

more_room : (t : Tally) → IsWithin t (2 ^ 86) (2 ^ 86) → IsWithin t (2 ^ 100) (2 ^ 100)
more_room t h = record {
  gained_in_order = h.gained_in_order;
  owed_in_order = h.owed_in_order;
  few_gained = omega (arith, h.few_gained);
  few_owed = omega (arith, h.few_owed);
}

module _ (network : List Variable) (H : List history.Entry) (bits : ℕ → ℕ) (u : ℕ) where
  pub first_have_room : (i : ℕ) (t : Tally) → HasFewBits H u
      → length (trades H) ≤ max_market_trades → AddsEntries network H bits u (take i H) t
      → IsWithin t (2 ^ 100) (2 ^ 100)
  first_have_room i t few some h =
      more_room t (has_room H u t (deposited (take i H) u)
      (withdrawn (take i H) u) (sum_by (own_trade u) (take i H)) few some
      (sum_by-take-le (bits_in u) H i) (sum_by-take-le (bits_out u) H i)
      (sum_by-take-le (own_trade u) H i) h.within)

  module _ (e : history.Entry) (i : ℕ) (next : take (i + 1) H ≡ take i H ++ e ∷ []) where
    pub one_has_room : (t : Tally) → HasFewBits H u → length (trades H) ≤ max_market_trades
        → AddsEntry network H bits u e t → IsWithin t (2 ^ 100) (2 ^ 100)
    one_has_room t few some h =
        more_room t (has_room H u t (bits_in u e) (bits_out u e) (own_trade u e) few some
        (one_at_most (bits_in u) H e i next) (one_at_most (bits_out u) H e i next)
        (one_at_most (own_trade u) H e i next) h.within)

    pub one_more : (a b : Tally) → AddsEntries network H bits u (take i H) a
        → AddsEntry network H bits u e b
        → AddsEntries network H bits u (take (i + 1) H) (tally_sum a b)
    one_more a b h k =
        subst (λ (P : List history.Entry). AddsEntries network H bits u P (tally_sum a b))
        (sym next) (adds_more network H bits u (take i H) e a b h k)

  pub all_have_room : (t : Tally) → HasFewBits H u → length (trades H) ≤ max_market_trades
      → AddsEntries network H bits u H t → IsWithin t (2 ^ 86) (2 ^ 86)
  all_have_room t few some h =
      has_room H u t (deposited H u) (withdrawn H u) (sum_by (own_trade u) H) few some
      (omega arith) (omega arith) (omega arith) h.within
