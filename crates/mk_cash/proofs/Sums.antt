-- What all users are paid by rule, together.
use Rattle.std.proofs.Common.{◌≡◌, ℕ, zero, suc, ◌+◌, ◌*◌, ◌<◌, ◌≤◌, Bool, true, false, cond, eqb}
use Rattle.std.proofs.Common.{List, [], ◌∷◌, length, map, filter, sum_by, refl, sym, ap, ◌∙◌}
use Rattle.std.proofs.Common.{◌⊎◌, inl, inr, arith, le_trans}
use Rattle.std.specs.List.{AllByRecursion, count_by, range_with_len}
use Rattle.std.proofs.Math.Nat.{mul-le-mul_left}
use Rattle.std.proofs.lemmas.Bool.{cases_eq, eq-eqb, ne_eqb}
use Rattle.std.proofs.lemmas.List.Sums.{sum_by-cons, sum_by-le-sum_by, sum-map}
use Rattle.mk_net.specs.Bounds.{max_transfer_bits, number_limit, million}
use Rattle.mk_net.specs.Network.{Variable}
use Rattle.mk_scaled.specs.ByRule.{rounded_down}
use Rattle.mk_states.specs.States.{numbers_below}
use Rattle.mk_states.proofs.Sums.{sum_by-plus, sum_by-times}
use Rattle.mk_exact.specs.History.{Entry, UserTrade, Join, Deposit, Withdraw, Trade, Resolve}
use Rattle.mk_exact.specs.History.{Settle, Add, bits_in, is_transfer, users, trades, deposited}
use Rattle.mk_exact.specs.Factors.{trade_count}
use Rattle.mk_exact.specs.Existing.{IsWithinBounds}
use Rattle.mk_exact.specs.ByRule.{points_by, payment_by_rule, payments_by_rule, paid_in_all}
use Rattle.mk_exact.specs.ByRule.{outcome}
use Rattle.mk_cash.proofs.ByRule.{down_bounded}
use Rattle.mk_cash.proofs.Payments.{points_most, points_within}

-- ---- sums over users

none_in_all : (us : List ℕ) → sum_by (λ (u : ℕ). 0) us ≡ 0
none_in_all [] = refl
none_in_all (u ∷ us) = sum_by-cons (λ (v : ℕ). 0) u us ∙ ap (λ n. 0 + n) (none_in_all us)

sum_of_parts : (f g h : ℕ → ℕ) (us : List ℕ) → ((u : ℕ) → f u ≤ g u + h u)
    → sum_by f us ≤ sum_by g us + sum_by h us
sum_of_parts f g h us each = rw (sum_by-plus g h us) at (sum_by-le-sum_by f (λ u. g u + h u) us
    each)

sum_by-map : {X : Type 0} (f : X → ℕ) (g : ℕ → X) (us : List ℕ)
    → sum_by f (map g us) ≡ sum_by (λ u. f (g u)) us
sum_by-map f g [] = refl
sum_by-map f g (u ∷ us) = sum_by-cons f (g u) (map g us) ∙ ap (λ n. f (g u) + n) (sum_by-map f g us)
    ∙ sym (sum_by-cons (λ v. f (g v)) u us)

-- what counts for one user counts for none behind that one
none_behind : (v c n a : ℕ) → v < a → sum_by (λ u. cond (eqb v u) c 0) (range_with_len a n) ≡ 0
none_behind v c zero a h = refl
none_behind v c (suc n) a h =
    sum_by-cons (λ u. cond (eqb v u) c 0) a (range_with_len (a + 1) n)
    ∙ ap (λ d. cond d c 0 + sum_by (λ u. cond (eqb v u) c 0) (range_with_len (a + 1) n))
    (ne_eqb v a (λ e. omega arith))
    ∙ ap (λ n. 0 + n) (none_behind v c n (a + 1) (omega arith))

-- and at most once in all
at_most_once : (v c n a : ℕ) → sum_by (λ u. cond (eqb v u) c 0) (range_with_len a n) ≤ c
at_most_once v c zero a = omega arith
at_most_once v c (suc n) a = at (cases_eq v a) (at_most_once v c n (a + 1))
  where
    at : ((v ≡ a) ⊎ (v ≡ a → ⊥)) → sum_by (λ u. cond (eqb v u) c 0) (range_with_len (a + 1) n) ≤ c
        → sum_by (λ u. cond (eqb v u) c 0) (range_with_len a (suc n)) ≤ c
    at (inl e) rest =
        let one : cond (eqb v a) c 0 ≡ c = ap (λ d. cond d c 0) (eq-eqb v a e) in
        let none = none_behind v c n (a + 1) (omega arith) in
        omega (arith, sum_by-cons (λ u. cond (eqb v u) c 0) a (range_with_len (a + 1) n))
    at (inr d) rest =
        let none : cond (eqb v a) c 0 ≡ 0 = ap (λ d. cond d c 0) (ne_eqb v a d) in
        omega (arith, sum_by-cons (λ u. cond (eqb v u) c 0) a (range_with_len (a + 1) n))

-- each trade is of at most one user
trades_in_all : (n : ℕ) (ts : List UserTrade)
    → sum_by (λ u. length (filter (λ (t : UserTrade). eqb t.user u) ts)) (numbers_below n) ≤ length
    ts
trades_in_all n [] = omega (arith, none_in_all (numbers_below n))
trades_in_all n (t ∷ ts) =
    let parts = sum_of_parts (λ u. length (filter (λ (x : UserTrade). eqb x.user u) (t ∷ ts)))
    (λ u. cond (eqb t.user u) 1 0) (λ u. length (filter (λ (x : UserTrade). eqb x.user u) ts))
    (numbers_below n)
    (λ u. one_more (eqb t.user u) (filter (λ (x : UserTrade). eqb x.user u) ts)) in
    let once = at_most_once t.user 1 n 0 in
    let rest = trades_in_all n ts in
    omega arith
  where
    one_more : (d : Bool) (xs : List UserTrade) → length (cond d (t ∷ xs) xs) ≤ cond d 1 0 + length
        xs
    one_more true xs = omega arith
    one_more false xs = omega arith

-- and each deposit
bits_of_entry : (n : ℕ) (e : Entry) → ((v : ℕ) → bits_in v e ≤ max_transfer_bits)
    → sum_by (λ u. bits_in u e) (numbers_below n) ≤ 1000 * cond (is_transfer e) 1 0
bits_of_entry n (Join name) h = omega (arith, none_in_all (numbers_below n))
bits_of_entry n (Deposit v bits) h =
    let own : bits ≤ max_transfer_bits = rw (eq-eqb v v refl) at (h v) in
    omega (arith, at_most_once v bits n 0)
bits_of_entry n (Withdraw v bits) h = omega (arith, none_in_all (numbers_below n))
bits_of_entry n (Trade v r) h = omega (arith, none_in_all (numbers_below n))
bits_of_entry n (Resolve p) h = omega (arith, none_in_all (numbers_below n))
bits_of_entry n (Settle payments) h = omega (arith, none_in_all (numbers_below n))
bits_of_entry n (Add a) h = omega (arith, none_in_all (numbers_below n))

deposits_in_all : (n : ℕ) (H : List Entry) → AllByRecursion (λ e. (v : ℕ)
    → bits_in v e ≤ max_transfer_bits) H → sum_by (deposited H) (numbers_below n) ≤ 1000 * count_by
    is_transfer H
deposits_in_all n [] h = omega (arith, none_in_all (numbers_below n))
deposits_in_all n (e ∷ H) h =
    let parts = sum_of_parts (deposited (e ∷ H)) (λ u. bits_in u e) (deposited H) (numbers_below n)
    (λ u. omega (arith, sum_by-cons (bits_in u) e H)) in
    let one = bits_of_entry n e h.0 in
    let rest = deposits_in_all n H h.1 in
    omega (arith, sum_by-cons (λ x. cond (is_transfer x) 1 0) e H)

-- ---- what is paid in all

module _ (H : List Entry) (b : ℕ) (s : List ℕ) (us : List ℕ) where
  paid_is : paid_in_all (map (payment_by_rule H b s) us) ≡ sum_by (λ u. points_by rounded_down H b u
      s) us
  paid_is = sum-map (λ (p : ℕ × ℕ). p.0) (map (payment_by_rule H b s) us)
      ∙ sum_by-map (λ (p : ℕ × ℕ). p.0) (payment_by_rule H b s) us

  paid_most : IsWithinBounds H → paid_in_all (map (payment_by_rule H b s) us) ≤ (b + 1)
      * (63 * sum_by (trade_count H) us) + b * sum_by (deposited H) us
  paid_most bounds =
      let parts = sum_of_parts (λ u. points_by rounded_down H b u s)
      (λ u. (b + 1) * (63 * trade_count H u)) (λ u. b * deposited H u) us
      (λ u. points_most H b s u bounds rounded_down down_bounded) in
      rw (
        paid_is,
        ← sum_by-times 63 (trade_count H) us,
        ← sum_by-times (b + 1)
            (λ u. 63 * trade_count H u) us,
        ← sum_by-times b (deposited H) us,
      ) parts

pub payments_by_rule_fit : (network : List Variable) (H : List Entry) (b : ℕ) → IsWithinBounds H
    → b ≤ million
    → paid_in_all (payments_by_rule network H b) < number_limit
payments_by_rule_fit network H b bounds few =
    let us : List ℕ = numbers_below (length (users H)) in
    points_within b (sum_by (trade_count H) us) (sum_by (deposited H) us)
    (paid_in_all (payments_by_rule network H b)) few
    (le_trans (trades_in_all (length (users H)) (trades H)) bounds.few_trades)
    (le_trans (deposits_in_all (length (users H)) H bounds.few_bits)
    (mul-le-mul_left 1000 bounds.few_transfers))
    (paid_most H b (outcome network H) us bounds)
