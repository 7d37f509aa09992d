-- A payment by rule covers the cash of its user, and fits.
use Rattle.std.proofs.Common.{◌≡◌, ℕ, zero, suc, ◌+◌, ◌-◌, ◌*◌, ◌^◌, ◌<◌, ◌≤◌, Bool, true, false}
use Rattle.std.proofs.Common.{cond, ◌&&◌, eqb, List, [], ◌∷◌, length, filter, slice_index, sum_by}
use Rattle.std.proofs.Common.{refl, sym, ap, ◌∙◌, arith, le_refl, le_trans}
use Rattle.std.specs.List.{AllByRecursion, count_by}
use Rattle.std.proofs.Math.Nat.{mul-le-mul, mul-le-mul_left, mul-le-mul_right, one-le-mul}
use Rattle.std.proofs.Math.Nat.{one-le-pow}
use Rattle.std.proofs.lemmas.List.Sums.{sum_by-cons}
use Rattle.std.proofs.lemmas.List.Elements.{recursion_from_All}
use Rattle.mk_net.specs.Asked.{TradeRatio}
use Rattle.mk_net.specs.Bounds.{max_market_trades, max_transfers, max_transfer_bits, number_limit}
use Rattle.mk_net.specs.Bounds.{million, sharpness}
use Rattle.mk_net.specs.Network.{Variable, sizes, IsNetwork}
use Rattle.mk_scaled.specs.ByRule.{rounded_down, rounded_up, power_by, whole_log}
use Rattle.mk_states.specs.States.{product_by, IsState}
use Rattle.mk_states.specs.InitialWeight.{all_states, initial_weight, value_at}
use Rattle.mk_states.specs.Events.{always, holds}
use Rattle.mk_states.specs.Ratios.{unit, ratio_at}
use Rattle.mk_states.proofs.Sums.{each_weaker, kept_each}
use Rattle.mk_states.proofs.Listed.{all_can}
use Rattle.mk_exact.specs.History.{Entry, UserTrade, Join, Deposit, Withdraw, Trade, Resolve}
use Rattle.mk_exact.specs.History.{Settle, Add, bits_in, is_transfer, users, trades, trades_of}
use Rattle.mk_exact.specs.History.{deposited, withdrawn}
use Rattle.mk_exact.specs.Weight.{weight, is_possible, possible_states, IsSmall}
use Rattle.mk_exact.specs.Factors.{HoldsNoTrade, IsAtLeastOne, gain, trade_count, factor}
use Rattle.mk_exact.specs.Cash.{IsCashBetween, CoversCash}
use Rattle.mk_exact.specs.Proper.{IsProper, IsTradeOf}
use Rattle.mk_exact.specs.Sound.{IsSound}
use Rattle.mk_exact.specs.Existing.{IsWithinBounds}
use Rattle.mk_exact.specs.ByRule.{gain_by, points_by, payment_by_rule}
use Rattle.mk_exact.proofs.Positive.{ratio_pos}
use Rattle.mk_cash.proofs.Covering.{ArePowerBits, IsRaised, raised_factor, cash_between}
use Rattle.mk_cash.proofs.Covering.{covers_cash}
use Rattle.mk_cash.proofs.Nearness.{wide_trades}
use Rattle.mk_cash.proofs.ByRule.{AreGains, gains_by_rule, bits_by_rule, down_exact, up_exact}
use Rattle.mk_cash.proofs.ByRule.{times_exact, times_none, IsBoundedBy, down_bounded, up_bounded}
use Rattle.mk_cash.proofs.ByRule.{bits_most, times_most}

-- ---- parts of a list

kept_each_of : {X : Type 0} (p : X → Bool) (P : X → Type 0) (xs : List X) → AllByRecursion P xs
    → AllByRecursion P (filter p xs)
kept_each_of p P [] h = tt
kept_each_of {X} p P (x ∷ xs) h = at (p x) (kept_each_of p P xs h.1)
  where
    at : (b : Bool) → AllByRecursion P (filter p xs)
        → AllByRecursion P (cond b (x ∷ filter p xs) (filter p xs))
    at true rest = (h.0, rest)
    at false rest = rest

pub kept_length : {X : Type 0} (p : X → Bool) (xs : List X) → length (filter p xs) ≤ length xs
kept_length p [] = le_refl 0
kept_length {X} p (x ∷ xs) = at (p x) (kept_length p xs)
  where
    at : (b : Bool) → length (filter p xs) ≤ length xs
        → length (cond b (x ∷ filter p xs) (filter p xs)) ≤ length (x ∷ xs)
    at true rest = omega arith
    at false rest = omega arith

kept_product : {X : Type 0} (p : X → Bool) (f : X → ℕ) (xs : List X)
    → AllByRecursion (λ x. 1 ≤ f x) xs → product_by f (filter p xs) ≤ product_by f xs
kept_product p f [] h = le_refl 1
kept_product {X} p f (x ∷ xs) h = at (p x) (kept_product p f xs h.1)
  where
    at : (b : Bool) → product_by f (filter p xs) ≤ product_by f xs
        → product_by f (cond b (x ∷ filter p xs) (filter p xs)) ≤ f x * product_by f xs
    at true rest = mul-le-mul_left (f x) rest
    at false rest = let m : 1 * product_by f xs ≤ f x * product_by f xs =
        mul-le-mul_right (product_by f xs) (h.0) in omega arith

kept_sum : {X : Type 0} (p : X → Bool) (f : X → ℕ) (xs : List X)
    → sum_by f (filter p xs) ≤ sum_by f xs
kept_sum p f [] = le_refl 0
kept_sum {X} p f (x ∷ xs) = at (p x) (kept_sum p f xs)
  where
    at : (b : Bool) → sum_by f (filter p xs) ≤ sum_by f xs
        → sum_by f (cond b (x ∷ filter p xs) (filter p xs)) ≤ sum_by f (x ∷ xs)
    at true rest = omega (arith, sum_by-cons f x (filter p xs), sum_by-cons f x xs)
    at false rest = omega (arith, sum_by-cons f x xs)

-- ---- the payment of a user

module _ (network : List Variable) (H : List Entry) (b : ℕ) (s : List ℕ) (u : ℕ)
    (proper : IsProper network H) (sound : IsSound network H)
    (some : 1 ≤ b) (one : possible_states network H always ≡ s ∷ []) where
  abbrev ratio : UserTrade → ℕ
  ratio t = ratio_at t.ratio s

  abbrev Good : List ℕ → Type 0
  Good t = IsState (sizes network) t × (1 ≤ initial_weight network t)

  possible_good : AllByRecursion Good (possible_states network H always)
  possible_good = recursion_from_All Good (possible_states network H always)
      (kept_each (λ t. is_possible H t && true) Good (all_states network)
      (each_weaker Good (λ t. (is_possible H t && true) ≡ true → Good t) (λ t good e. good)
      (all_states network) (all_can network)))

  good : Good s
  good = (rw one at possible_good).0

  ratios : AllByRecursion (λ (t : UserTrade). 1 ≤ ratio t) (trades H)
  ratios = each_weaker (IsTradeOf network (length (users H))) (λ (t : UserTrade). 1 ≤ ratio t)
      (ratio_pos network (length (users H)) s (good.0)) (trades H) proper.trades_fit

  own_ratios : AllByRecursion (λ (t : UserTrade). 1 ≤ ratio t) (trades_of H u)
  own_ratios = kept_each_of (λ (t : UserTrade). eqb t.user u) (λ (t : UserTrade). 1 ≤ ratio t)
      (trades H) ratios

  solvent : IsAtLeastOne (factor H u s)
  solvent = (rw one at (recursion_from_All (λ t. IsAtLeastOne (factor H u t))
      (possible_states network H always) (sound.solvent u))).0

  gain_small : IsSmall network H → gain H u s < 2 ^ 63
  gain_small small =
      let a : gain H u s ≤ product_by ratio (trades H) =
      kept_product (λ (t : UserTrade). eqb t.user u) ratio (trades H) ratios in
      let c : 1 * product_by ratio (trades H) ≤ weight network H s =
      mul-le-mul_right (product_by ratio (trades H)) (good.1) in
      let d : sum_by (weight network H) (possible_states network H always) ≤ sum_by
      (weight network H) (all_states network) = kept_sum (λ t. is_possible H t && true)
      (weight network H) (all_states network) in
      let e : sum_by (weight network H) (s ∷ []) ≤ sum_by (weight network H) (all_states network) =
      rw one at d in
      omega (arith, sum_by-cons (weight network H) s [])

  ends_same : IsSmall network H → gain_by rounded_down H u s ≡ gain_by rounded_up H u s
  ends_same small =
      let fits = gain_small small in
      let h : 1 * gain H u s < 2 ^ 64 = omega arith in
      times_exact rounded_down down_exact (trades_of H u) s 1 (le_refl 1) own_ratios h
      ∙ sym (times_exact rounded_up up_exact (trades_of H u) s 1 (le_refl 1) own_ratios h)

  -- the whole bits of both ends
  abbrev low_log : ℕ
  low_log = whole_log (power_by rounded_down (gain_by rounded_down H u s) b)

  abbrev high_log : ℕ
  high_log = whole_log (power_by rounded_up (gain_by rounded_up H u s) b)

  gains : AreGains (gain H u s) (gain_by rounded_down H u s) (gain_by rounded_up H u s)
      (2 * trade_count H u)
  gains = gains_by_rule (trades_of H u) s own_ratios

  factor_raised : IsRaised (factor H u s) b (gain H u s) (b * deposited H u)
      (b * (40 * trade_count H u + withdrawn H u)) (gain_by rounded_down H u s)
      (gain_by rounded_up H u s) (2 * trade_count H u)
  factor_raised = record {
    same = raised_factor (factor H u s).num (factor H u s).den (trade_count H u) (withdrawn H u)
        (deposited H u) (gain H u s) b refl;
    positive = one-le-mul (one-le-pow (withdrawn H u) 2 (omega arith))
        (one-le-pow (trade_count H u) unit (omega arith));
    at_least_one = solvent;
    between = gains.between;
  }

  logs : ArePowerBits (gain_by rounded_down H u s) (gain_by rounded_up H u s) b low_log high_log
  logs =
      let lower = gains.between.lower in
      let upper = gains.between.upper in
      bits_by_rule (gain_by rounded_down H u s) (gain_by rounded_up H u s) b gains.positive
      (le_trans gains.positive (le_trans lower upper)) some

  owed_same : (bits : ℕ) → bits + b * deposited H u - b * (withdrawn H u + 40 * trade_count H u)
      ≡ bits + b * deposited H u - b * (40 * trade_count H u + withdrawn H u)
  owed_same bits =
      let owed : withdrawn H u + 40 * trade_count H u ≡ 40 * trade_count H u + withdrawn H u =
      omega arith in
      ap (λ k. bits + b * deposited H u - b * k) owed

  payment_is_between : IsCashBetween (factor H u s) b (payment_by_rule H b s u).0
      (payment_by_rule H b s u).1
  payment_is_between =
      cash_between (factor H u s) b (gain H u s) (b * deposited H u)
      (b * (40 * trade_count H u + withdrawn H u))
      (gain_by rounded_down H u s) (gain_by rounded_up H u s) (2 * trade_count H u) low_log high_log
      factor_raised logs gains.positive _ _ (owed_same low_log) (owed_same high_log)

  payment_covers : IsWithinBounds H → (most_trades : ℕ) → length (trades H) ≤ most_trades
      → b ≤ million
      → CoversCash (IsSmall network H) (HoldsNoTrade H u) (sharpness most_trades) (factor H u s) b
      (payment_by_rule H b s u).0 (payment_by_rule H b s u).1
  payment_covers bounds most_trades fit few =
      let own : trade_count H u ≤ length (trades H) = kept_length (λ (t : UserTrade). eqb t.user u)
      (trades H) in
      let most = bounds.few_trades in
      let steps : 2 * trade_count H u < 2 ^ 59 = omega arith in
      covers_cash (factor H u s) b (gain H u s) (b * deposited H u)
      (b * (40 * trade_count H u + withdrawn H u))
      (gain_by rounded_down H u s) (gain_by rounded_up H u s) (2 * trade_count H u) low_log high_log
      factor_raised logs gains.positive few steps (sharpness most_trades)
      (wide_trades most_trades (trade_count H u) (le_trans own fit) (le_trans own most))
      (IsSmall network H) (HoldsNoTrade H u) _ _
      ends_same (times_none rounded_down (trades_of H u) s)
      (owed_same low_log) (owed_same high_log)

pub payment_by_rule_is_between : (network : List Variable) (H : List Entry) (b : ℕ) (s : List ℕ)
    (u : ℕ)
    → IsProper network H → IsSound network H → 1 ≤ b → possible_states network H always ≡ s ∷ []
    → IsCashBetween (factor H u s) b (payment_by_rule H b s u).0 (payment_by_rule H b s u).1
payment_by_rule_is_between network H b s u proper sound some one = payment_is_between network H b s
    u proper sound some one

pub payment_by_rule_covers : (network : List Variable) (H : List Entry) (most_trades b : ℕ)
    (s : List ℕ) (u : ℕ)
    → IsNetwork network → IsProper network H → IsSound network H → IsWithinBounds H
    → length (trades H) ≤ most_trades → 1 ≤ b → b ≤ million
    → possible_states network H always ≡ s ∷ []
    → CoversCash (IsSmall network H) (HoldsNoTrade H u) (sharpness most_trades) (factor H u s) b
    (payment_by_rule H b s u).0 (payment_by_rule H b s u).1
payment_by_rule_covers network H most_trades b s u net proper sound bounds fit some few one =
    payment_covers network H b s u proper sound some one bounds most_trades fit few

-- ---- payments fit

units_below : (factors : List ℕ) (k : ℕ) → AllByRecursion (λ n. n < number_limit) factors
    → slice_index factors k < number_limit
units_below [] k h = omega arith
units_below (n ∷ factors) zero h = h.0
units_below (n ∷ factors) (suc k) h = units_below factors k h.1

pub ratio_below : (r : TradeRatio) (s : List ℕ) → AllByRecursion (λ n. n < number_limit) r.factors
    → ratio_at r s < number_limit
ratio_below r s h = either (holds r.condition s) (units_below r.factors (value_at s r.variable) h)
  where
    either : (b : Bool) {n : ℕ} → n < number_limit → cond b n unit < number_limit
    either true p = p
    either false p = omega arith

pub bits_at_most : (u : ℕ) (H : List Entry) → AllByRecursion (λ e. (v : ℕ)
    → bits_in v e ≤ max_transfer_bits) H → deposited H u ≤ 1000 * count_by is_transfer H
bits_at_most u [] h = omega arith
bits_at_most u (e ∷ H) h = omega (
  arith,
  at e (h.0 u),
  bits_at_most u H h.1,
  sum_by-cons (bits_in u)
      e H,
  sum_by-cons (λ x. cond (is_transfer x) 1 0) e H,
)
  where
    at : (e : Entry) → bits_in u e ≤ max_transfer_bits → bits_in u e ≤ 1000 * cond (is_transfer e) 1
        0
    at (Join name) h = omega arith
    at (Deposit v bits) h = h
    at (Withdraw v bits) h = omega arith
    at (Trade v r) h = omega arith
    at (Resolve p) h = omega arith
    at (Settle payments) h = omega arith
    at (Add a) h = omega arith

-- so many trades and bits in are worth at most so many points
pub points_within : (b c d points : ℕ) → b ≤ million → c ≤ max_market_trades
    → d ≤ 1000 * max_transfers → points ≤ (b + 1) * (63 * c) + b * d → points < number_limit
points_within b c d points few trades moved most =
    let trades_most : 63 * c ≤ 63 * 1000000 = omega arith in
    let bits_most : d ≤ 1000000000 = omega arith in
    let more : b + 1 ≤ 1000001 = omega arith in
    let a : (b + 1) * (63 * c) ≤ 1000001 * (63 * 1000000) = mul-le-mul more trades_most in
    let e : b * d ≤ 1000000 * 1000000000 = mul-le-mul few bits_most in
    omega arith

module _ (H : List Entry) (b : ℕ) (s : List ℕ) (u : ℕ) (bounds : IsWithinBounds H) where
  fit : AllByRecursion (λ (t : UserTrade). ratio_at t.ratio s < number_limit) (trades_of H u)
  fit = kept_each_of (λ (t : UserTrade). eqb t.user u) (λ (t : UserTrade). ratio_at t.ratio
      s < number_limit) (trades H)
      (each_weaker (λ (t : UserTrade). AllByRecursion (λ n. n < number_limit) t.ratio.factors)
      (λ (t : UserTrade). ratio_at t.ratio s < number_limit) (λ t h. ratio_below t.ratio s h)
      (trades H) bounds.units_fit)

  -- at most 63 bits for each trade, of a power one above b, and the bits paid in
  pub points_most : (round : ℕ → ℕ) → IsBoundedBy round
      → points_by round H b u s ≤ (b + 1) * (63 * trade_count H u) + b * deposited H u
  points_most round bounded =
      let gain_most : gain_by round H u s ≤ 2 ^ (0 + 63 * trade_count H u) =
      times_most round bounded (trades_of H u) s 1 0 (omega arith) fit in
      let log_most : whole_log (power_by round (gain_by round H u s) b) ≤ (b + 1)
      * (0 + 63 * trade_count H u) = bits_most round bounded (gain_by round H u s) b
      (0 + 63 * trade_count H u) gain_most in
      let e : 0 + 63 * trade_count H u ≡ 63 * trade_count H u = omega arith in
      less (whole_log (power_by round (gain_by round H u s) b)) ((b + 1) * (63 * trade_count H u))
      (b * deposited H u) (b * (withdrawn H u + 40 * trade_count H u)) (rw e at log_most)
    where
      less : (x y z owed : ℕ) → x ≤ y → x + z - owed ≤ y + z
      less x y z owed h = omega arith

  points_fit : b ≤ million → (round : ℕ → ℕ) → IsBoundedBy round
      → points_by round H b u s < number_limit
  points_fit few round bounded =
      let own : trade_count H u ≤ length (trades H) = kept_length (λ (t : UserTrade). eqb t.user u)
      (trades H) in
      points_within b (trade_count H u) (deposited H u) (points_by round H b u s) few
      (le_trans own bounds.few_trades)
      (le_trans (bits_at_most u H bounds.few_bits) (mul-le-mul_left 1000 bounds.few_transfers))
      (points_most round bounded)

pub payment_by_rule_fits : (H : List Entry) (b : ℕ) (s : List ℕ) (u : ℕ) → IsWithinBounds H
    → b ≤ million
    → ((payment_by_rule H b s u).0 < number_limit) × ((payment_by_rule H b s u).1 < number_limit)
payment_by_rule_fits H b s u bounds few = (
  points_fit H b s u bounds few rounded_down down_bounded,
  points_fit H b s u bounds few rounded_up up_bounded,
)
