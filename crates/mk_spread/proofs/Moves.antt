-- A fair list takes the price of each value near its share.
use Rattle.std.proofs.Common.{◌≡◌, ℕ, zero, suc, ◌+◌, ◌-◌, ◌*◌, ◌^◌, ◌<◌, ◌≤◌, List, [], ◌∷◌, length, slice_index, sum, sym, arith, mul-le-mul_left, mul-le-mul_right}
use Rattle.std.proofs.lemmas.List.Sums.{sum_by-cons}
use Rattle.mk_net.specs.Bounds.{million}
use Rattle.mk_net.specs.Network.{Variable, sizes}
use Rattle.mk_states.specs.States.{plus_over, numbers_below}
use Rattle.mk_states.specs.Events.{holds, with_target}
use Rattle.mk_states.specs.Ratios.{unit}
use Rattle.mk_exact.specs.History.{Entry}
use Rattle.mk_exact.specs.Weight.{total}
use Rattle.mk_exact.specs.Prices.{exact_price}
use Rattle.mk_exact.specs.Laws.{IsNear}
use Rattle.mk_states.proofs.Sums.{sums_are_plus, plus_over-plus}
use Rattle.mk_exact.proofs.Totals.{total_condition, total_traded, traded_sum}
use Rattle.mk_spread.specs.Spreads.{SpreadAsked, asked_of, spread_ratio, spread_traded}
use Rattle.mk_spread.specs.Markets.{IsFairList}
use Rattle.mk_spread.proofs.Fair.{listed_fair, listed_lengths}
use Rattle.mk_spread.proofs.Summed.{part_of, total_by_value, traded_by_value, traded_value, sum_beyond}
use Rattle.mk_spread.proofs.Safe.{traded_within, within_million}

index_within_sum : (Xs : List ℕ) (k : ℕ) → slice_index Xs k ≤ sum Xs
index_within_sum [] k = omega arith
index_within_sum (X ∷ Xs) zero = rw (sum_by-cons (λ x. x) X Xs) (omega arith)
index_within_sum (X ∷ Xs) (suc k) =
    let rest = index_within_sum Xs k in
    rw (sum_by-cons (λ x. x) X Xs) (omega (arith, rest))

-- a list whose sum is not 0 has an element that is not
some_index : (Xs : List ℕ) → 1 ≤ sum Xs → (k : ℕ) × (k < length Xs) × (1 ≤ slice_index Xs k)
some_index [] h = absurd (omega arith)
some_index (zero ∷ Xs) h = later (some_index Xs (omega (arith, h, sum_by-cons (λ x. x) zero Xs)))
  where
    later : (k : ℕ) × (k < length Xs) × (1 ≤ slice_index Xs k) → (k : ℕ) × (k < length (zero ∷ Xs)) × (1 ≤ slice_index (zero ∷ Xs) k)
    later r = (suc (r.0), omega (arith, r.1), r.2)
some_index (suc X ∷ Xs) h = (0, omega arith, omega arith)

-- A and D are the new weights of a value and of the condition, and Z that of the condition before
near_value : (X A D part Z : ℕ) → X ≤ 10 ^ 6 → part ≤ Z → 1 ≤ Z → A * 10 ^ 6 ≤ X * unit * Z → X * unit * Z * (2 ^ 30 - 1) ≤ (A + part) * 10 ^ 6 * 2 ^ 30
    → D ≤ unit * Z → unit * Z * (2 ^ 30 - 1) ≤ (D + Z) * 2 ^ 30 → IsNear (record { num = A; den = D }) X
near_value X A D part Z share within weighs not_above close at_most nearly =
    let cut : X * Z ≤ 10 ^ 6 * Z = mul-le-mul_right Z share in
    let scaled : X * D ≤ X * (unit * Z) = mul-le-mul_left X at_most in
    let from_below : X * (unit * Z * (2 ^ 30 - 1)) ≤ X * ((D + Z) * 2 ^ 30) = mul-le-mul_left X nearly in
    record { above = omega arith; below = omega arith }

module _ (network : List Variable) (H : List Entry) (u : ℕ) (spread : SpreadAsked) (Xs Fs : List ℕ) (within : spread.variable < length network) (list : IsFairList network H u spread Xs Fs) (shares : sum Xs ≡ million) where
  abbrev before : ℕ
  before = total network H (holds spread.condition)

  abbrev after : ℕ
  after = traded_sum network H (spread_ratio spread Fs) (holds spread.condition)

  at_most : after ≤ unit * before
  at_most = within_million after (sum Xs) (unit * before) (traded_within network H u spread Xs Fs within list) (omega (arith, shares))

  both_sums : after + before ≡ plus_over ◌+◌ 0 (λ k. slice_index Fs k * part_of network H spread k + part_of network H spread k) (numbers_below (slice_index (sizes network) spread.variable))
  both_sums =
      rw (traded_by_value network H spread Fs within, total_by_value network H spread within)
      (sym (plus_over-plus ◌+◌ 0 sums_are_plus (λ k. slice_index Fs k * part_of network H spread k) (part_of network H spread) (numbers_below (slice_index (sizes network) spread.variable))))

  nearly : unit * before * (2 ^ 30 - 1) ≤ (after + before) * 2 ^ 30
  nearly =
      let l : sum Xs * (unit * before * (2 ^ 30 - 1)) ≤ (after + before) * (million * 2 ^ 30) = rw (both_sums, ← (listed_lengths network H u spread Xs Fs list).0)
      (sum_beyond (λ k. slice_index Fs k * part_of network H spread k + part_of network H spread k) (million * 2 ^ 30) (unit * before * (2 ^ 30 - 1)) Xs 0 each) in
      let m : million * (unit * before * (2 ^ 30 - 1)) ≤ (after + before) * (million * 2 ^ 30) = rw shares at l in
      omega (arith, m)
    where
      each : (k : ℕ) → k < length Xs → slice_index Xs k * (unit * before * (2 ^ 30 - 1))
          ≤ (slice_index Fs (0 + k) * part_of network H spread (0 + k) + part_of network H spread (0 + k)) * (million * 2 ^ 30)
      each k p =
          let same : 0 + k ≡ k = omega arith in
          let fair = (listed_fair network H u spread Xs Fs list k (omega (arith, (listed_lengths network H u spread Xs Fs list).0))).close in
          rw same (omega (arith, fair))

  -- some value has a share, and so weight
  weighs : 1 ≤ before
  weighs = at (some_index Xs (omega (arith, shares)))
    where
      at : (k : ℕ) × (k < length Xs) × (1 ≤ slice_index Xs k) → 1 ≤ before
      at r =
          let part = (listed_fair network H u spread Xs Fs list (r.0) (omega (arith, r.1, (listed_lengths network H u spread Xs Fs list).0))).weighs (r.2) in
          omega (arith, part, total_condition network H (asked_of spread (r.0)))

  pub spread_moves : (value : ℕ) → value < slice_index (sizes network) spread.variable
      → IsNear (exact_price network (spread_traded H u spread Fs) (asked_of spread value)) (slice_index Xs value)
  spread_moves value p =
      let fair = listed_fair network H u spread Xs Fs list value p in
      rw (total_traded network H u (spread_ratio spread Fs) (with_target (asked_of spread value)), traded_value network H spread Fs value, total_traded network H u (spread_ratio spread Fs) (holds spread.condition))
      (near_value (slice_index Xs value) (slice_index Fs value * part_of network H spread value) after (part_of network H spread value) before
      (omega (arith, index_within_sum Xs value, shares)) (omega (arith, total_condition network H (asked_of spread value))) weighs
      (omega (arith, fair.not_above)) (omega (arith, fair.close)) at_most nearly)
