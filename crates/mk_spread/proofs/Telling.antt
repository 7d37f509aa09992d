-- Prices and positions exist, fit, and prices make one.
use Rattle.std.proofs.Common.{◌≡◌, ℕ, zero, suc, ◌+◌, ◌*◌, ◌^◌, ◌<◌, ◌≤◌, ◌⊎◌, inl, inr}
use Rattle.std.proofs.Common.{Bool, true, false}
use Rattle.std.proofs.Common.{List, [], ◌∷◌, length, slice_index, Option, Some, None, All, sum_by}
use Rattle.std.proofs.Common.{refl, arith, mul-le-mul_right}
use Rattle.std.proofs.Math.Nat.{le_of_mul-le-mul_left}
use Rattle.std.specs.Bool.{⊤}
use Rattle.std.specs.List.{AllZip, AllByRecursion, range_with_len}
use Rattle.std.proofs.lemmas.Bool.{cases_lt}
use Rattle.std.proofs.lemmas.List.Elements.{All-from_recursion}
use Rattle.std.proofs.lemmas.List.Sums.{sum_by-cons}
use Rattle.mk_net.specs.Bounds.{million, sharpness}
use Rattle.mk_net.specs.Network.{Variable, IsNetwork, sizes}
use Rattle.mk_states.specs.States.{plus_over}
use Rattle.mk_states.specs.Events.{holds, with_target}
use Rattle.mk_exact.specs.History.{Entry}
use Rattle.mk_exact.specs.Weight.{total, IsSmall}
use Rattle.mk_exact.specs.Factors.{Fraction, factor_with, least_gain, HoldsNoTrade}
use Rattle.mk_exact.specs.Prices.{exact_price}
use Rattle.mk_exact.specs.Sound.{IsSound}
use Rattle.mk_exact.specs.Proper.{IsProper}
use Rattle.mk_exact.specs.Existing.{IsPortion, CanBeAsked, IsSafeFactor, IsWithinBounds}
use Rattle.mk_exact.proofs.Sharp.{sharp_enough}
use Rattle.mk_exact.proofs.ExistNumbers.{cash_is_covered, cash_in}
use Rattle.mk_exact.proofs.ExistMarkets.{total_positive, price_exists, least_where}
use Rattle.mk_exact.proofs.ExistBounds.{least_cash_fits}
use Rattle.mk_spread.specs.Spreads.{SpreadAsked, asked_of}
use Rattle.mk_spread.specs.Markets.{value_cannot_come}
use Rattle.mk_spread.specs.Laws.{AreOfValues}
use Rattle.mk_spread.specs.Told.{CanBeTold, CoversValue, ArePricesOf, CoversLeast, IsSureOf}
use Rattle.mk_spread.specs.Told.{IsPositionOf}
use Rattle.mk_spread.specs.Told.{AreUnits, AreNumbers, MakeOne}
use Rattle.mk_spread.proofs.Left.{no_side, can_come_is}
use Rattle.mk_spread.proofs.Listed.{range_of, ranged_length}
use Rattle.mk_spread.proofs.Summed.{part_of, total_by_value}
use Rattle.mk_spread.proofs.Fair.{of_values}

-- any thing
abbrev Anything : {X : Type 0} → X → Type 0
Anything x = ⊤

-- the low end of a price is no more than one
pub low_at_most_one : (price : Fraction) (low : ℕ) → IsPortion price →
    low * price.den ≤ 10 ^ 10 * price.num → low ≤ 10 ^ 10
low_at_most_one price low portion below = at (cases_lt (10 ^ 10) low)
  where
    at : (10 ^ 10 < low) ⊎ (low ≤ 10 ^ 10) → low ≤ 10 ^ 10
    at (inl more) =
        let next : 10 ^ 10 + 1 ≤ low = omega arith in
        let above : (10 ^ 10 + 1) * price.den ≤ low * price.den = mul-le-mul_right price.den next in
        absurd (omega (arith, below, portion.divides, portion.at_most_one))
    at (inr most) = most

-- what holds of each place of a list that goes with a range holds by recursion
each_of : {X : Type 0} (P : ℕ → X → Type 0) (Q : X → Type 0) (n a : ℕ) (xs : List X) →
    ((k : ℕ) (x : X) → a ≤ k → k < a + n → P k x → Q x) →
    AllZip P (range_with_len a n) xs → AllByRecursion Q xs
each_of P Q zero a [] f h = tt
each_of P Q zero a (x ∷ xs) f h = absurd h
each_of P Q (suc n) a [] f h = absurd h
each_of P Q (suc n) a (x ∷ xs) f h = (
  f a x (omega arith) (omega arith) h.0,
  each_of P Q n (a + 1) xs (λ k x p q. f k x (omega arith) (omega arith)) h.1,
)

-- sums of ends stay on the side on which each end does
low_sum : (g : ℕ → ℕ) (m c n a : ℕ) (xs : List (ℕ × ℕ)) →
    AllZip (λ k (ends : ℕ × ℕ). ends.0 * c ≤ m * g k) (range_with_len a n) xs →
    sum_by (λ (ends : ℕ × ℕ). ends.0) xs * c ≤ m * plus_over ◌+◌ 0 g (range_with_len a n)
low_sum g m c zero a [] h = omega arith
low_sum g m c zero a (x ∷ xs) h = absurd h
low_sum g m c (suc n) a [] h = absurd h
low_sum g m c (suc n) a (x ∷ xs) h =
    let first : x.0 * c ≤ m * g a = h.0 in
    let later = low_sum g m c n (a + 1) xs h.1 in
    rw (sum_by-cons (λ (ends : ℕ × ℕ). ends.0) x xs) (omega arith)

high_sum : (g : ℕ → ℕ) (m c n a : ℕ) (xs : List (ℕ × ℕ)) →
    AllZip (λ k (ends : ℕ × ℕ). m * g k ≤ ends.1 * c) (range_with_len a n) xs →
    m * plus_over ◌+◌ 0 g (range_with_len a n) ≤ sum_by (λ (ends : ℕ × ℕ). ends.1) xs * c
high_sum g m c zero a [] h = omega arith
high_sum g m c zero a (x ∷ xs) h = absurd h
high_sum g m c (suc n) a [] h = absurd h
high_sum g m c (suc n) a (x ∷ xs) h =
    let first : m * g a ≤ x.1 * c = h.0 in
    let later = high_sum g m c n (a + 1) xs h.1 in
    rw (sum_by-cons (λ (ends : ℕ × ℕ). ends.1) x xs) (omega arith)

cancelled : (a b c : ℕ) → 1 ≤ c → a * c ≤ b * c → a ≤ b
cancelled a b c some h = le_of_mul-le-mul_left {k = c} (omega (arith, h)) (omega (arith, some))

-- a weaker relation of a list to another
weaker_zip : {K X : Type 0} (P Q : K → X → Type 0) → ((k : K) (x : X) → P k x → Q k x) →
    (ks : List K) (xs : List X) → AllZip P ks xs → AllZip Q ks xs
weaker_zip P Q f [] [] h = tt
weaker_zip P Q f [] (x ∷ xs) h = absurd h
weaker_zip P Q f (k ∷ ks) [] h = absurd h
weaker_zip P Q f (k ∷ ks) (x ∷ xs) h = (f k x h.0, weaker_zip P Q f ks xs h.1)

module _ (network : List Variable) (H : List Entry) (most_trades : ℕ) (spread : SpreadAsked) where
  abbrev values : ℕ
  values = slice_index (sizes network) spread.variable

  abbrev whole : ℕ
  whole = total network H (holds spread.condition)

  -- each value can be asked about
  can_ask : CanBeTold network H spread → (k : ℕ) → k < values →
      CanBeAsked network H (asked_of spread k)
  can_ask told k below = record {
    in_order = record {
      in_range = record {
        target = record { variable = told.in_order.in_range.variable; value = below };
        condition = told.in_order.in_range.condition;
      };
      apart = told.in_order.apart;
      target_apart = told.in_order.variable_apart;
      unresolved = told.in_order.unresolved;
    };
    some_state = told.some_state;
  }

  pub prices_exist : IsNetwork network → IsProper network H → CanBeTold network H spread →
      (intervals : List (ℕ × ℕ)) × ArePricesOf network H most_trades spread intervals
  prices_exist net proper told = listed
      (range_of (CoversValue network H most_trades spread) Anything values 0
      (λ k p q. value k (omega arith)))
    where
      value : (k : ℕ) → k < values
          → (ends : ℕ × ℕ) × CoversValue network H most_trades spread k ends × ⊤
      value k below =
          let asked = can_ask told k below in
          let price = price_exists network H (sharpness most_trades) (asked_of spread k)
          (sharp_enough most_trades) net proper asked in
          ((price.low, price.high), price.covers, tt)

      listed :
          (xs : List (ℕ × ℕ)) × ArePricesOf network H most_trades spread xs
          × AllByRecursion Anything xs
          → (intervals : List (ℕ × ℕ)) × ArePricesOf network H most_trades spread intervals
      listed l = (l.0, l.1)

  pub prices_fit : (intervals : List (ℕ × ℕ)) → IsNetwork network → IsProper network H →
      CanBeTold network H spread → ArePricesOf network H most_trades spread intervals →
      AreOfValues intervals × All AreUnits intervals
  prices_fit intervals net proper told prices = (
    of_values network net spread intervals told.in_order.in_range.variable
        (ranged_length (CoversValue network H most_trades spread) values 0 intervals prices),
    All-from_recursion AreUnits intervals
        (each_of (CoversValue network H most_trades spread) AreUnits values 0 intervals
        (λ k ends p q. units k ends (omega arith)) prices),
  )
    where
      units : (k : ℕ) (ends : ℕ × ℕ) → k < values →
          CoversValue network H most_trades spread k ends → AreUnits ends
      units k ends below covers =
          let asked = can_ask told k below in
          let price = price_exists network H (sharpness most_trades) (asked_of spread k)
          (sharp_enough most_trades) net proper asked in
          let exact = exact_price network H (asked_of spread k) in
          (low_at_most_one exact (ends.0) price.exact covers.below, covers.at_most_one)

  pub prices_make_one : (intervals : List (ℕ × ℕ)) → IsNetwork network → IsProper network H →
      CanBeTold network H spread → ArePricesOf network H most_trades spread intervals
      → MakeOne intervals
  prices_make_one intervals net proper told prices = record {
    low = cancelled (sum_by (λ (ends : ℕ × ℕ). ends.0) intervals) (10 ^ 10) whole some lows;
    high = cancelled (10 ^ 10) (sum_by (λ (ends : ℕ × ℕ). ends.1) intervals) whole some highs;
  }
    where
      some : 1 ≤ whole
      some = total_positive network H net proper (holds spread.condition) told.some_state

      parts : whole ≡ plus_over ◌+◌ 0 (part_of network H spread) (range_with_len 0 values)
      parts = total_by_value network H spread told.in_order.in_range.variable

      lows : sum_by (λ (ends : ℕ × ℕ). ends.0) intervals * whole ≤ 10 ^ 10 * whole
      lows =
          let each = weaker_zip (CoversValue network H most_trades spread)
          (λ k (ends : ℕ × ℕ). ends.0 * whole ≤ 10 ^ 10 * part_of network H spread k)
          (λ k ends covers. covers.below) (range_with_len 0 values) intervals prices in
          let sums = low_sum (part_of network H spread) (10 ^ 10) (whole) values 0 intervals each in
          rw (← parts) at sums

      highs : 10 ^ 10 * whole ≤ sum_by (λ (ends : ℕ × ℕ). ends.1) intervals * whole
      highs =
          let each = weaker_zip (CoversValue network H most_trades spread)
          (λ k (ends : ℕ × ℕ). 10 ^ 10 * part_of network H spread k ≤ ends.1 * whole)
          (λ k ends covers. covers.above) (range_with_len 0 values) intervals prices in
          let parts_of = part_of network H spread in
          let sums = high_sum parts_of (10 ^ 10) whole values 0 intervals each in
          rw (← parts) at sums

module _ (network : List Variable) (H : List Entry) (most_trades u b : ℕ)
    (spread : SpreadAsked) where
  abbrev size : ℕ
  size = slice_index (sizes network) spread.variable

  abbrev comes : ℕ → List ℕ → Bool
  comes k = with_target (asked_of spread k)

  abbrev IsSure : ℕ → Option (ℕ × ℕ) → Type 0
  IsSure = IsSureOf network H most_trades u b spread

  abbrev IsPosition : List (Option (ℕ × ℕ)) → Type 0
  IsPosition = IsPositionOf network H most_trades u b spread

  abbrev HasSure : ℕ → Type 0
  HasSure k = (interval : Option (ℕ × ℕ)) × IsSure k interval × Anything interval

  -- what a user is sure of by a value, or that it cannot come
  sure_exists : IsSound network H → (k : ℕ) → HasSure k
  sure_exists sound k = at (value_cannot_come network H spread k) refl
    where
      covered : (g : ℕ) → least_gain network H u (comes k) ≡ Some g →
          IsSafeFactor (factor_with H u g) → HasSure k
      covered g e safe =
          let cash = cash_is_covered (sharpness most_trades) (factor_with H u g) b
          (sharp_enough most_trades) safe in (
            Some (cash.0, cash.1),
            rw e (cash_in (IsSmall network H) (HoldsNoTrade H u) (sharpness most_trades)
                (factor_with H u g) b cash.0 cash.1 cash.2),
            tt,
          )

      at : (gone : Bool) → value_cannot_come network H spread k ≡ gone → HasSure k
      at true e = (None, no_side network H spread u k e, tt)
      at false e =
          let some = can_come_is network H (comes k) e in
          let least = least_where network H u (comes k) some in
          covered (least.0) (least.1) (least.2 sound)

  pub position_exists : IsSound network H →
      (intervals : List (Option (ℕ × ℕ))) × IsPosition intervals
  position_exists sound =
      listed (range_of IsSure Anything size 0 (λ k p q. sure_exists sound k))
    where
      listed : (xs : List (Option (ℕ × ℕ))) × IsPosition xs × AllByRecursion Anything xs
          → (intervals : List (Option (ℕ × ℕ))) × IsPosition intervals
      listed l = (l.0, l.1)

  pub position_fits : (intervals : List (Option (ℕ × ℕ))) → IsNetwork network →
      spread.variable < length network → IsWithinBounds H → b ≤ million → IsPosition intervals →
      AreOfValues intervals × All AreNumbers intervals
  position_fits intervals net within bounds few position = (
    of_values network net spread intervals within (ranged_length IsSure size 0 intervals position),
    All-from_recursion AreNumbers intervals
        (each_of IsSure AreNumbers size 0 intervals (λ k sure p q. numbers k sure) position),
  )
    where
      fits : (k low high : ℕ) (o : Option ℕ) → least_gain network H u (comes k) ≡ o →
          CoversLeast network H most_trades u b (comes k) (low, high)
          → AreNumbers (Some (low, high))
      fits k low high None e covers = absurd (rw e at covers)
      fits k low high (Some g) e covers =
          let cash = rw e at covers in
          let most = least_cash_fits (IsSmall network H) (HoldsNoTrade H u) network H most_trades u
          (comes k) g
          b low high bounds few e cash in
          (omega (arith, most, cash.above, cash.below), most)

      numbers : (k : ℕ) (interval : Option (ℕ × ℕ)) → IsSure k interval → AreNumbers interval
      numbers k None sure = tt
      numbers k (Some (low, high)) sure =
          fits k low high (least_gain network H u (comes k)) refl sure
