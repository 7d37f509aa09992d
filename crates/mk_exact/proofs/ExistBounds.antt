-- The numbers that a market prints of a user's factor are below 2^63.
use Rattle.std.proofs.Common.{◌≡◌, ℕ, zero, suc, ◌+◌, ◌*◌, ◌^◌, ◌<◌, ◌≤◌, Bool, true, false, cond, eqb, List, [], ◌∷◌, ◌++◌, length, filter, slice_index, sum_by, Some, None, refl, arith, length-append, le_refl, le_trans, le_of_lt}
use Rattle.std.specs.List.{AllByRecursion, count_by}
use Rattle.std.proofs.Math.Nat.{mul-le-mul, mul-le-mul_left, le-mul_of_pos_right, one-le-mul, one-le-pow, pow-zero}
use Rattle.std.proofs.lemmas.Nat.{pow-add}
use Rattle.std.proofs.lemmas.List.Sums.{sum_by-cons, sum_by_push}
use Rattle.mk_net.specs.Bounds.{max_transfers, max_transfer_bits, number_limit, million, sharpness}
use Rattle.mk_net.specs.Network.{Variable, sizes}
use Rattle.mk_net.specs.Asked.{Asked, TradeRatio}
use Rattle.mk_states.specs.States.{numbers_below, product_by}
use Rattle.mk_states.specs.InitialWeight.{value_at}
use Rattle.mk_states.specs.Events.{holds}
use Rattle.mk_states.specs.Ratios.{unit, ratio_at}
use Rattle.mk_exact.specs.History.{Entry, UserTrade, Join, Deposit, Withdraw, Trade, Resolve, Settle, Add, bits_in, is_transfer, trade_in, trades, trades_of, deposited, withdrawn}
use Rattle.mk_exact.specs.Weight.{possible_states}
use Rattle.mk_exact.specs.Factors.{gain, trade_count, factor, factor_with, least_gain}
use Rattle.mk_exact.specs.Cash.{CoversCash}
use Rattle.mk_exact.specs.Sides.{ratio_in, IsFairPair}
use Rattle.mk_exact.specs.Existing.{IsWithinBounds, HasRoom}
use Rattle.mk_states.proofs.Sums.{sum_by-times, each_always, each_weaker, each-append, each-map}
use Rattle.mk_exact.proofs.After.{trades_kept, trades_more}
use Rattle.mk_exact.proofs.ExistNumbers.{cash_is_bounded, cash_is_narrow}
use Rattle.mk_exact.proofs.ExistMarkets.{of_least}

-- ---- lists

sum_by_at_most : {X : Type 0} (f g : X → ℕ) (xs : List X) → AllByRecursion (λ x. f x ≤ g x) xs → sum_by f xs ≤ sum_by g xs
sum_by_at_most f g [] h = le_refl 0
sum_by_at_most f g (x ∷ xs) h = omega (arith, h.0, sum_by_at_most f g xs h.1, sum_by-cons f x xs, sum_by-cons g x xs)

-- a product of numbers below 2^63
product_at_most : {X : Type 0} (f : X → ℕ) (xs : List X) → AllByRecursion (λ x. f x < number_limit) xs → product_by f xs ≤ 2 ^ (63 * length xs)
product_at_most f [] h = omega (arith, pow-zero 2)
product_at_most {X} f (x ∷ xs) h = one_more (product_at_most f xs h.1)
  where
    one_more : product_by f xs ≤ 2 ^ (63 * length xs) → f x * product_by f xs ≤ 2 ^ (63 * suc (length xs))
    one_more rest =
        let e : 63 + 63 * length xs ≡ 63 * suc (length xs) = omega arith in
        rw (← e, pow-add 2 63 (63 * length xs)) (mul-le-mul (le_of_lt h.0) rest)

kept : {X : Type 0} (p : X → Bool) (P : X → Type 0) (xs : List X) → AllByRecursion P xs → AllByRecursion P (filter p xs) × (length (filter p xs) ≤ length xs)
kept p P [] h = (tt, le_refl 0)
kept {X} p P (x ∷ xs) h = at (p x) (kept p P xs h.1)
  where
    at : (b : Bool) → AllByRecursion P (filter p xs) × (length (filter p xs) ≤ length xs)
        → AllByRecursion P (cond b (x ∷ filter p xs) (filter p xs)) × (length (cond b (x ∷ filter p xs) (filter p xs)) ≤ length (x ∷ xs))
    at true rest = ((h.0, rest.0), omega (arith, rest.1))
    at false rest = (rest.0, omega (arith, rest.1))

-- ---- a user's factor

-- each ratio of a trade whose units fit does
units_below : (factors : List ℕ) (k : ℕ) → AllByRecursion (λ n. n < number_limit) factors → slice_index factors k < number_limit
units_below [] k h = omega arith
units_below (n ∷ factors) zero h = h.0
units_below (n ∷ factors) (suc k) h = units_below factors k h.1

ratio_below : (r : TradeRatio) (s : List ℕ) → AllByRecursion (λ n. n < number_limit) r.factors → ratio_at r s < number_limit
ratio_below r s h = either (holds r.condition s) (units_below r.factors (value_at s r.variable) h)
  where
    either : (b : Bool) {n : ℕ} → n < number_limit → cond b n unit < number_limit
    either true p = p
    either false p = omega arith

module _ (H : List Entry) (bounds : IsWithinBounds H) (u : ℕ) where
  own_trades : AllByRecursion (λ (t : UserTrade). AllByRecursion (λ n. n < number_limit) t.ratio.factors) (trades_of H u) × (length (trades_of H u) ≤ length (trades H))
  own_trades = kept (λ (t : UserTrade). eqb t.user u) (λ (t : UserTrade). AllByRecursion (λ n. n < number_limit) t.ratio.factors) (trades H) bounds.units_fit

  gain_at_most : (s : List ℕ) → gain H u s ≤ 2 ^ (63 * trade_count H u)
  gain_at_most s = product_at_most (λ (t : UserTrade). ratio_at t.ratio s) (trades_of H u)
      (each_weaker (λ (t : UserTrade). AllByRecursion (λ n. n < number_limit) t.ratio.factors) (λ (t : UserTrade). ratio_at t.ratio s < number_limit) (λ t h. ratio_below t.ratio s h) (trades_of H u) (own_trades.0))

  deposited_at_most : deposited H u ≤ 1000 * count_by is_transfer H
  deposited_at_most = le_trans (sum_by_at_most (bits_in u) (λ e. 1000 * cond (is_transfer e) 1 0) H (each_weaker (λ e. (v : ℕ) → bits_in v e ≤ max_transfer_bits) (λ e. bits_in u e ≤ 1000 * cond (is_transfer e) 1 0) at H bounds.few_bits)) same
    where
      at : (e : Entry) → ((v : ℕ) → bits_in v e ≤ max_transfer_bits) → bits_in u e ≤ 1000 * cond (is_transfer e) 1 0
      at (Join name) h = omega arith
      at (Deposit v bits) h = h u
      at (Withdraw v bits) h = omega arith
      at (Trade v r) h = omega arith
      at (Resolve p) h = omega arith
      at (Settle payments) h = omega arith
      at (Add a) h = omega arith

      same : sum_by (λ e. 1000 * cond (is_transfer e) 1 0) H ≤ 1000 * count_by is_transfer H
      same = omega (arith, sum_by-times 1000 (λ e. cond (is_transfer e) 1 0) H)

  -- the factor of a gain that is at most 2 to the 63 times the trades
  factor_at_most : (g : ℕ) → g ≤ 2 ^ (63 * trade_count H u)
      → (factor_with H u g).num ≤ 2 ^ (deposited H u + 63 * trade_count H u) * (factor_with H u g).den
  factor_at_most g h = le_trans num_at_most (le-mul_of_pos_right (2 ^ (deposited H u + 63 * trade_count H u)) (divides H))
    where
      num_at_most : 2 ^ deposited H u * g ≤ 2 ^ (deposited H u + 63 * trade_count H u)
      num_at_most = rw (pow-add 2 (deposited H u) (63 * trade_count H u)) (mul-le-mul_left (2 ^ deposited H u) h)

      divides : (H : List Entry) → 1 ≤ 2 ^ withdrawn H u * unit ^ trade_count H u
      divides H = one-le-mul (one-le-pow (withdrawn H u) 2 (omega arith)) (one-le-pow (trade_count H u) unit (omega arith))

  cash_below : (small idle : Type 0) (most_trades g b low high : ℕ) → g ≤ 2 ^ (63 * trade_count H u)
      → b ≤ million → CoversCash small idle (sharpness most_trades) (factor_with H u g) b low high
      → high < number_limit
  cash_below small idle most_trades g b low high h few covers =
      let cash : covers.cash ≤ (deposited H u + 63 * trade_count H u) * b
      = cash_is_bounded (factor_with H u g) b (deposited H u + 63 * trade_count H u) covers.cash divides (factor_at_most g h) covers.is_cash in
      let most : (deposited H u + 63 * trade_count H u) * b
      ≤ (1000 * 1000000 + 63 * 1000000) * 1000000 = mul-le-mul sum few in
      omega (
        arith,
        cash_is_narrow small idle most_trades (factor_with H u g) b low high few covers,
        covers.above,
      )
    where
      divides : 1 ≤ 2 ^ withdrawn H u * unit ^ trade_count H u
      divides = one-le-mul (one-le-pow (withdrawn H u) 2 (omega arith)) (one-le-pow (trade_count H u) unit (omega arith))

      sum : deposited H u + 63 * trade_count H u ≤ 1000 * 1000000 + 63 * 1000000
      sum = omega (arith, deposited_at_most, own_trades.1, bounds.few_trades, bounds.few_transfers)

pub cash_fits : (small idle : Type 0) (H : List Entry) (most_trades u : ℕ) (s : List ℕ)
    (b low high : ℕ) → IsWithinBounds H → b ≤ million
    → CoversCash small idle (sharpness most_trades) (factor H u s) b low high → high < number_limit
cash_fits small idle H most_trades u s b low high bounds few covers =
    cash_below H bounds u small idle most_trades (gain H u s) b low high (gain_at_most H bounds u s) few covers

-- a least gain is below 2^63 for each trade of its user
pub least_gain_at_most : (network : List Variable) (H : List Entry) → IsWithinBounds H → (u : ℕ)
    (test : List ℕ → Bool) (least : ℕ) → least_gain network H u test ≡ Some least
    → least ≤ 2 ^ (63 * trade_count H u)
least_gain_at_most network H bounds u test least is_least =
    rw is_least at (of_least (gain H u) (λ g. g ≤ 2 ^ (63 * trade_count H u))
    (possible_states network H test)
    (each_always (λ s. gain H u s ≤ 2 ^ (63 * trade_count H u)) (gain_at_most H bounds u)
    (possible_states network H test)))

pub least_cash_fits : (small idle : Type 0) (network : List Variable) (H : List Entry)
    (most_trades u : ℕ) (test : List ℕ → Bool) (least b low high : ℕ)
    → IsWithinBounds H → b ≤ million
    → least_gain network H u test ≡ Some least
    → CoversCash small idle (sharpness most_trades) (factor_with H u least) b low high
    → high < number_limit
least_cash_fits small idle network H most_trades u test least b low high bounds few is_least covers =
    cash_below H bounds u small idle most_trades least b low high
    (least_gain_at_most network H bounds u test least is_least) few covers

-- ---- the bounds of a history with one change more

none_kept : (H : List Entry) (e : Entry) → trade_in e ≡ None → ((v : ℕ) → bits_in v e ≤ max_transfer_bits) → count_by is_transfer H + cond (is_transfer e) 1 0 ≤ max_transfers → IsWithinBounds H
    → IsWithinBounds (H ++ e ∷ [])
none_kept H e none bits transfers bounds = record {
  few_trades = rw (trades_kept H e none) bounds.few_trades;
  units_fit = rw (trades_kept H e none) bounds.units_fit;
  few_transfers = omega (arith, sum_by_push (λ x. cond (is_transfer x) 1 0) H e);
  few_bits = each-append (λ x. (v : ℕ) → bits_in v x ≤ max_transfer_bits) H (e ∷ []) bounds.few_bits (bits, tt);
}

pub bounds_kept : (H : List Entry) (e : Entry) → IsWithinBounds H → HasRoom H e → IsWithinBounds (H ++ e ∷ [])
bounds_kept H (Join name) bounds room = none_kept H (Join name) refl (λ v. omega arith) (omega (arith, bounds.few_transfers)) bounds
bounds_kept H (Deposit u bits) bounds room = none_kept H (Deposit u bits) refl (λ v. own (eqb u v)) (omega (arith, room.0)) bounds
  where
    own : (b : Bool) → cond b bits 0 ≤ max_transfer_bits
    own true = room.1
    own false = omega arith
bounds_kept H (Withdraw u bits) bounds room = none_kept H (Withdraw u bits) refl (λ v. omega arith) (omega (arith, room)) bounds
bounds_kept H (Trade u r) bounds room = record {
  few_trades = rw (trades_more H u r) (omega (arith, length-append (trades H) (record { user = u; ratio = r } ∷ []), room.0));
  units_fit = rw (trades_more H u r) (each-append (λ (t : UserTrade). AllByRecursion (λ n. n < number_limit) t.ratio.factors) (trades H) (record { user = u; ratio = r } ∷ []) bounds.units_fit (room.1, tt));
  few_transfers = omega (arith, sum_by_push (λ x. cond (is_transfer x) 1 0) H (Trade u r), bounds.few_transfers);
  few_bits = each-append (λ x. (v : ℕ) → bits_in v x ≤ max_transfer_bits) H (Trade u r ∷ []) bounds.few_bits (λ v. omega arith, tt);
}
bounds_kept H (Resolve p) bounds room = none_kept H (Resolve p) refl (λ v. omega arith) (omega (arith, bounds.few_transfers)) bounds
bounds_kept H (Settle payments) bounds room = none_kept H (Settle payments) refl (λ v. omega arith) (omega (arith, bounds.few_transfers)) bounds
bounds_kept H (Add a) bounds room = none_kept H (Add a) refl (λ v. omega arith) (omega (arith, bounds.few_transfers)) bounds

pub fair_pair_fits : (network : List Variable) (H : List Entry) (u : ℕ) (asked : Asked) (X F_t F_n : ℕ) → IsFairPair network H u asked X F_t F_n
    → AllByRecursion (λ n. n < number_limit) (ratio_in network asked F_t F_n).factors
fair_pair_fits network H u asked X F_t F_n pair = each-map (λ n. n < number_limit) (λ value. cond (eqb value asked.target.value) F_t F_n) (numbers_below (slice_index (sizes network) asked.target.variable))
    (each_always (λ value. cond (eqb value asked.target.value) F_t F_n < number_limit) (λ value. either (eqb value asked.target.value)) (numbers_below (slice_index (sizes network) asked.target.variable)))
  where
    either : (b : Bool) → cond b F_t F_n < number_limit
    either true = pair.hit_units.fair.fits
    either false = pair.miss_units.fair.fits
