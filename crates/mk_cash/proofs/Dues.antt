-- What a user is due stays in range, and follows a history entry by entry.
use Rattle.std.proofs.Common.{◌≡◌, ℕ, ◌+◌, ◌*◌, ◌^◌, ◌<◌, ◌≤◌, Bool, true, false}
use Rattle.std.proofs.Common.{cond, eqb, List, [], ◌∷◌, ◌++◌, length, refl, ap, ap₂, ◌∙◌}
use Rattle.std.proofs.Common.{arith, le_refl, le_trans, lt_of_le_of_lt, add-zero, eq-eqb, length-append}
use Rattle.std.proofs.lemmas.Bool.{eqb-true}
use Rattle.std.proofs.Math.Nat.{mul-le-mul, mul-le-mul_right, one-le-mul}
use Rattle.mk_net.specs.Asked.{TradeRatio}
use Rattle.mk_net.specs.Bounds.{max_market_trades, max_points_per_bit, number_limit}
use Rattle.mk_scaled.specs.ByRule.{rounded_down, rounded_up}
use Rattle.mk_scaled.specs.Range.{two_to, IsInRange, two_to-lt, two_to_pos, whole_below}
use Rattle.mk_scaled.specs.Range.{mul_at_most, power_in_range, least_at_most}
use Rattle.mk_scaled.specs.Rounding.{IsGreatestBelow, IsLeastAbove}
use Rattle.mk_scaled.specs.Rules.{greatest_is, least_is}
use Rattle.mk_scaled.specs.inner.Closeness.{greatest_positive}
use Rattle.mk_states.specs.Ratios.{ratio_at}
use Rattle.mk_exact.specs.History.{Entry, UserTrade, Join, Deposit, Withdraw, Trade, Resolve}
use Rattle.mk_exact.specs.History.{Settle, Add, bits_in, bits_out, trades_of, deposited, withdrawn}
use Rattle.mk_exact.specs.ByRule.{times_by, payment_by_rule}
use Rattle.mk_exact.proofs.After.{trades_of_kept, trades_of_more, trades_of_other, deposited_more}
use Rattle.mk_exact.proofs.After.{withdrawn_more}
use Rattle.mk_cash.specs.Dues.{DueOf, IsDue, no_due, due_traded, due_deposited, due_withdrawn}
use Rattle.mk_cash.specs.Dues.{due_payment, due_of, due_after}

-- ---- range

-- a gain of 1, before any trade
pub due_none : IsDue no_due
due_none = record {
  positive = le_refl 1;
  ordered = le_refl 1;
  bounded = two_to_pos (63 * 0);
  few_trades = omega arith;
  few_in = omega arith;
  few_out = omega arith;
}

module _ (units : ℕ) (d : DueOf) (some : 1 ≤ units) (fit : units < number_limit)
    (room : d.trades < max_market_trades) (is : IsDue d) where
  units_bounded : units ≤ two_to 63
  units_bounded = let below = whole_below units 63 63 fit (le_refl 63) in omega arith

  high_bounded : d.high * units ≤ two_to (63 * d.trades + 63)
  high_bounded = mul_at_most d.high units (63 * d.trades) 63 is.bounded units_bounded

  small : two_to (63 * d.trades + 63) < two_to (2 ^ 50)
  small = two_to-lt (63 * d.trades + 63) (2 ^ 50) (omega arith)

  pub high_in_range : IsInRange (d.high * units)
  high_in_range = lt_of_le_of_lt high_bounded small

  pub low_in_range : IsInRange (d.low * units)
  low_in_range = lt_of_le_of_lt (mul-le-mul_right units is.ordered) high_in_range

  module _ (low high : ℕ) (down : IsGreatestBelow low (d.low * units))
      (up : IsLeastAbove high (d.high * units)) where
    abbrev after : DueOf
    after = record d { low = low; high = high; trades = d.trades + 1 }

    pub due_kept : IsDue after
    due_kept = record {
      positive = greatest_positive low _ down;
      ordered = le_trans down.below (le_trans (mul-le-mul_right units is.ordered) up.above);
      bounded =
          let e : 63 * (d.trades + 1) ≡ 63 * d.trades + 63 = omega arith in
          rw e (least_at_most high (d.high * units) (63 * d.trades + 63) up high_bounded);
      few_trades = omega arith;
      few_in = is.few_in;
      few_out = is.few_out;
    }

    pub due_is : after ≡ due_traded units d
    due_is =
        let positive = is.positive in
        let ordered = is.ordered in
        let a = greatest_is low (d.low * units) (one-le-mul positive some) down in
        let b = least_is high (d.high * units) (one-le-mul (le_trans positive ordered) some) up in
        ap₂ (λ (x y : ℕ). record d { low = x; high = y; trades = d.trades + 1 }) a b

module _ (b : ℕ) (d : DueOf) (few : b ≤ max_points_per_bit) (is : IsDue d) where
  exponent_small : 63 * d.trades * b < 2 ^ 50
  exponent_small =
      let trades : 63 * d.trades ≤ 63 * 1000000 = let most = is.few_trades in omega arith in
      let product : 63 * d.trades * b ≤ 63 * 1000000 * 1000000 = mul-le-mul trades few in
      omega arith

  pub high_power_in_range : IsInRange (d.high ^ b)
  high_power_in_range = power_in_range d.high (63 * d.trades) b is.bounded exponent_small

  pub low_power_in_range : IsInRange (d.low ^ b)
  low_power_in_range =
      power_in_range d.low (63 * d.trades) b (le_trans is.ordered is.bounded) exponent_small

-- ---- entries

-- one more trade is one more product
pub times_by_push : (round : ℕ → ℕ) (g : ℕ) (ts : List UserTrade) (t : UserTrade) (s : List ℕ)
    → times_by round g (ts ++ t ∷ []) s ≡ round (times_by round g ts s * ratio_at t.ratio s)
times_by_push round g [] t s = refl
times_by_push round g (first ∷ ts) t s =
    times_by_push round (round (g * ratio_at first.ratio s)) ts t s

-- what is due by the trades and the bits
abbrev due_with : List ℕ → List UserTrade → ℕ → ℕ → DueOf
due_with s ts ins outs = record {
  low = times_by rounded_down 1 ts s;
  high = times_by rounded_up 1 ts s;
  trades = length ts;
  deposited = ins;
  withdrawn = outs;
}

module _ (H : List Entry) (u : ℕ) (s : List ℕ) where
  -- an entry that is no trade of the user
  moved : (e : Entry) → trades_of (H ++ e ∷ []) u ≡ trades_of H u
      → due_of (H ++ e ∷ []) u s
      ≡ due_with s (trades_of H u) (deposited H u + bits_in u e) (withdrawn H u + bits_out u e)
  moved e same =
      ap (λ (ts : List UserTrade). due_with s ts (deposited (H ++ e ∷ []) u)
      (withdrawn (H ++ e ∷ []) u)) same
      ∙ ap₂ (due_with s (trades_of H u)) (deposited_more H e u) (withdrawn_more H e u)

  -- and that moves none of the user's bits
  idle : (e : Entry) → trades_of (H ++ e ∷ []) u ≡ trades_of H u → bits_in u e ≡ 0
      → bits_out u e ≡ 0 → due_of (H ++ e ∷ []) u s ≡ due_of H u s
  idle e same ins outs =
      moved e same
      ∙ ap₂ (λ (x y : ℕ). due_with s (trades_of H u) (deposited H u + x) (withdrawn H u + y)) ins
      outs
      ∙ ap₂ (due_with s (trades_of H u)) (add-zero (deposited H u)) (add-zero (withdrawn H u))

  own_trade : (user : ℕ) (ratio : TradeRatio) → user ≡ u
      → due_of (H ++ Trade user ratio ∷ []) u s ≡ due_traded (ratio_at ratio s) (due_of H u s)
  own_trade user ratio own =
      let t : UserTrade = record { user = user; ratio = ratio } in
      ap (λ (ts : List UserTrade). due_with s ts (deposited (H ++ Trade user ratio ∷ []) u)
      (withdrawn (H ++ Trade user ratio ∷ []) u)) (trades_of_more H user ratio u own)
      ∙ ap₂ (due_with s (trades_of H u ++ t ∷ []))
      (deposited_more H (Trade user ratio) u ∙ add-zero (deposited H u))
      (withdrawn_more H (Trade user ratio) u ∙ add-zero (withdrawn H u))
      ∙ more t
    where
      more : (t : UserTrade)
          → due_with s (trades_of H u ++ t ∷ []) (deposited H u) (withdrawn H u)
          ≡ due_traded (ratio_at t.ratio s) (due_of H u s)
      more t =
          let count : length (trades_of H u ++ t ∷ []) ≡ length (trades_of H u) + 1 =
          length-append (trades_of H u) (t ∷ []) in
          ap₂ (λ (x y : ℕ). record (due_of H u s) {
            low = x;
            high = y;
            trades = length (trades_of H u ++ t ∷ []);
          }) (times_by_push rounded_down 1 (trades_of H u) t s)
          (times_by_push rounded_up 1 (trades_of H u) t s)
          ∙ ap (λ (n : ℕ). record (due_of H u s) {
            low = rounded_down (times_by rounded_down 1 (trades_of H u) s * ratio_at t.ratio s);
            high = rounded_up (times_by rounded_up 1 (trades_of H u) s * ratio_at t.ratio s);
            trades = n;
          }) count

  -- what is due after one more entry
  pub dues_grow : (e : Entry) → due_of (H ++ e ∷ []) u s ≡ due_after u s e (due_of H u s)
  dues_grow (Join name) = idle (Join name) (trades_of_kept H (Join name) u refl) refl refl
  dues_grow (Deposit user bits) =
      moved (Deposit user bits) (trades_of_kept H (Deposit user bits) u refl) ∙ at (eqb user u)
    where
      at : (b : Bool)
          → due_with s (trades_of H u) (deposited H u + cond b bits 0) (withdrawn H u + 0)
          ≡ cond b (due_deposited bits (due_of H u s)) (due_of H u s)
      at true = ap (due_with s (trades_of H u) (deposited H u + bits)) (add-zero (withdrawn H u))
      at false = ap₂ (due_with s (trades_of H u)) (add-zero (deposited H u))
          (add-zero (withdrawn H u))
  dues_grow (Withdraw user bits) =
      moved (Withdraw user bits) (trades_of_kept H (Withdraw user bits) u refl) ∙ at (eqb user u)
    where
      at : (b : Bool)
          → due_with s (trades_of H u) (deposited H u + 0) (withdrawn H u + cond b bits 0)
          ≡ cond b (due_withdrawn bits (due_of H u s)) (due_of H u s)
      at true = ap (λ (n : ℕ). due_with s (trades_of H u) n (withdrawn H u + bits))
          (add-zero (deposited H u))
      at false = ap₂ (due_with s (trades_of H u)) (add-zero (deposited H u))
          (add-zero (withdrawn H u))
  dues_grow (Trade user ratio) = at (eqb user u) refl
    where
      at : (b : Bool) → eqb user u ≡ b → due_of (H ++ Trade user ratio ∷ []) u s
          ≡ cond b (due_traded (ratio_at ratio s) (due_of H u s)) (due_of H u s)
      at true own = own_trade user ratio (eqb-true user u own)
      at false other =
          idle (Trade user ratio)
          (trades_of_other H user ratio u (λ same. let e = eq-eqb user u same in cc)) refl refl
  dues_grow (Resolve pair) = idle (Resolve pair) (trades_of_kept H (Resolve pair) u refl) refl refl
  dues_grow (Settle payments) =
      idle (Settle payments) (trades_of_kept H (Settle payments) u refl) refl refl
  dues_grow (Add addition) = idle (Add addition) (trades_of_kept H (Add addition) u refl) refl refl

-- nothing is due before any entry
pub dues_before : (u : ℕ) (s : List ℕ) → due_of [] u s ≡ no_due
dues_before u s = refl

-- the payment by rule
pub due_is_by_rule : (H : List Entry) (b : ℕ) (s : List ℕ) (u : ℕ)
    → due_payment b (due_of H u s) ≡ payment_by_rule H b s u
due_is_by_rule H b s u = refl
