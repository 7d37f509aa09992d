-- What a judge asks of factors and sides that count their user's trades and bits.
use Rattle.std.proofs.Common.{◌≡◌, ℕ, zero, suc, ◌+◌, ◌*◌, ◌^◌, ◌≤◌, Bool, List, [], ◌∷◌}
use Rattle.std.proofs.Common.{map, length, Option, Some, None, IfSome, sym, ap, subst, ◌∙◌}
use Rattle.std.proofs.Common.{arith}
use Rattle.std.specs.Prelude.{option_map, IsSomeAnd}
use Rattle.std.specs.List.{AllZip, AllByRecursion, range_with_len}
use Rattle.std.proofs.lemmas.Nat.{pow-add}
use Rattle.mk_net.specs.Asked.{Asked}
use Rattle.mk_net.specs.Bounds.{max_market_trades, max_points_per_bit, grade_room}
use Rattle.mk_net.specs.Network.{Variable}
use Rattle.mk_states.specs.Events.{with_target}
use Rattle.mk_exact.specs.Factors.{IsAtLeastOne, gain, least_by, factor_with}
use Rattle.mk_exact.specs.Factors.{least_gain, trade_count}
use Rattle.mk_exact.specs.History.{Entry, deposited, withdrawn}
use Rattle.mk_exact.specs.Limits.{Side}
use Rattle.mk_states.specs.Ratios.{unit}
use Rattle.mk_exact.specs.Sides.{IsSide}
use Rattle.mk_exact.specs.Sound.{IsSound}
use Rattle.mk_exact.specs.Weight.{IsSmall, possible_states}
use Rattle.mk_exact.proofs.ExistMarkets.{least_where}
use Rattle.mk_spread.specs.Spreads.{SpreadAsked, asked_of}
use Rattle.mk_spread.specs.Markets.{IsValueSide}
use Rattle.mk_enclose.specs.declared.factor.Factor.{Factor}
use Rattle.mk_enclose.specs.Enclosure.{widest_grade}
use Rattle.mk_enclose.specs.Factor.{paid_in, taken_out}
use Rattle.mk_quote.specs.declared.side.SideBounds.{SideBounds}
use Rattle.mk_quote.specs.declared.values.SpreadBounds.{SpreadBounds}
use Rattle.mk_quote.specs.declared.values.ValueBounds.{ValueBounds}
use Rattle.mk_quote.specs.Sides.{AreBoundsOf, AreGraded, AreExact}
use Rattle.mk_quote.specs.Values.{side_in, EncloseEach, AreEachGraded, AreEachExact}
use Rattle.mk_judge.specs.Powers.{HasCashRange}
use Rattle.mk_judge.specs.Cash.{IsHeld}
use Rattle.mk_answers.specs.Open.{IsFactorFor}
use Rattle.mk_answers.specs.Evidence.{IsFactorOf, IsLeastFactorOf, AreBoundsOfSide, IsBoundedValue}
use Rattle.mk_answers.specs.inner.Found.{IsCounted, IsValueCounted}
use Rattle.mk_answers.proofs.Bounding.{side_parts}
use Rattle.mk_answers.proofs.Regraded.{within_more}
use Rattle.mk_answers.proofs.Room.{room_at_most}
use Rattle.mk_answers.proofs.Told.{idle_least}

-- without a gain and without trades net bits are what was paid in over what was taken out
only_bits : (d w t p : ℕ) → p + w ≡ d + t → 2 ^ d * 1 * 2 ^ t ≡ 2 ^ p * (2 ^ w * 1)
only_bits d w t p e =
    let same : 2 ^ (p + w) ≡ 2 ^ (d + t) = ap (λ (n : ℕ). 2 ^ n) e in
    let left : 2 ^ (d + t) ≡ 2 ^ d * 2 ^ t = pow-add 2 d t in
    let right : 2 ^ (p + w) ≡ 2 ^ p * 2 ^ w = pow-add 2 p w in
    omega (arith, same, left, right)

module _ (network : List Variable) (H : List Entry) (u : ℕ) where
  -- where there is a least gain some state passes the test
  some_states : (test : List ℕ → Bool) (g : ℕ) → least_gain network H u test ≡ Some g
      → 1 ≤ length (possible_states network H test)
  some_states test g e = at (possible_states network H test) e
    where
      at : (ss : List (List ℕ)) → least_by (gain H u) ss ≡ Some g → 1 ≤ length ss
      at [] none = absurd (cc)
      at (s ∷ ss) is = omega arith

  module _ (test : List ℕ → Bool) (g : ℕ) (is : least_gain network H u test ≡ Some g) (f : Factor)
      (counted : IsCounted H u f) where
    -- without trades the factor is that of the bits alone
    idle_factor : f.trades ≡ 0
        → (2 ^ deposited H u * g) * 2 ^ taken_out f.net
        ≡ 2 ^ paid_in f.net * (2 ^ withdrawn H u * unit ^ trade_count H u)
    idle_factor nothing =
        let none : trade_count H u ≡ 0 = sym counted.trades ∙ nothing in
        let one : g ≡ 1 = subst (λ (o : Option ℕ). IfSome o (λ n. n ≡ 1)) is
        (idle_least network H u test none) in
        rw (one, none) (only_bits (deposited H u) (withdrawn H u) (taken_out f.net) (paid_in f.net)
        counted.net.same)

    at_least_one : IsSound network H → IsAtLeastOne (factor_with H u g)
    at_least_one sound =
        let found = least_where network H u test (some_states test g is) in
        let same : g ≡ found.0 = (let e = is in let d = found.1 in cc) in
        subst (λ (n : ℕ). IsAtLeastOne (factor_with H u n)) (sym same)
        (found.2 sound).at_least_one

    -- a factor of a least gain
    pub factor_of_gain : IsFactorFor f max_market_trades (IsSmall network H) (factor_with H u g)
        → ((b : ℕ) → b ≤ max_points_per_bit → HasCashRange f b)
        → IsFactorOf widest_grade network H u g f
    factor_of_gain for cash =
        let held : IsHeld f (factor_with H u g) = record { stands = for.stands; idle = idle_factor }
        in
        record {
          held = held;
          owned = λ sound. record { held = held; one = at_least_one sound };
          traded = counted.trades;
          exact = for.exact;
          graded = within_more f.gain (grade_room max_market_trades) widest_grade
              (room_at_most max_market_trades) for.graded;
          cash = cash;
          trade = counted.range;
        }

    pub least_factor : IsFactorFor f max_market_trades (IsSmall network H) (factor_with H u g)
        → ((b : ℕ) → b ≤ max_points_per_bit → HasCashRange f b)
        → IsLeastFactorOf widest_grade network H u test f
    least_factor for cash = subst (λ (o : Option ℕ). IsSomeAnd o
        (λ n. IsFactorOf widest_grade network H u n f)) (sym is) (factor_of_gain for cash)

  -- a side whose factor counts
  pub side_bounded : (asked : Asked) (test : List ℕ → Bool) (bounds : SideBounds) (side : Side)
      → IsSide network H u asked test side → IsCounted H u bounds.factor
      → AreBoundsOf bounds side → AreGraded bounds → (IsSmall network H → AreExact bounds)
      → AreBoundsOfSide widest_grade network H u bounds side
  side_bounded asked test bounds side its counted encloses graded exact = record {
    bounds_of = λ small is. record {
      bounds_of = encloses;
      idle = λ nothing.
          let parts = side_parts network H u asked test side its in
          subst (λ (s : Side). s.least.num * 2 ^ taken_out bounds.factor.net
          ≡ 2 ^ paid_in bounds.factor.net * s.least.den) (sym (parts.2))
          (idle_factor test (parts.0) (parts.1) bounds.factor counted nothing);
      exact = λ yes. exact (is yes);
    };
    range = counted.range;
    traded = counted.trades;
    graded = record { part = graded.part; whole = graded.whole; gain = graded.gain };
  }

  -- each value's side
  module _ (spread : SpreadAsked) (bounds : SpreadBounds) where
    one_bounded : (k : ℕ) (part : Option ValueBounds) (side : Option Side)
        → IsValueCounted H u part → IsValueSide network H u spread k side
        → EncloseEach (option_map (side_in bounds) part ∷ []) (side ∷ [])
        → AreEachGraded (option_map (side_in bounds) part ∷ [])
        → (IsSmall network H → AreEachExact (option_map (side_in bounds) part ∷ []))
        → IsBoundedValue widest_grade network H u (option_map (side_in bounds) part) side
    one_bounded k None None counted its encloses graded exact = tt
    one_bounded k None (Some side) counted its encloses graded exact = absurd encloses.0
    one_bounded k (Some part) None counted its encloses graded exact = absurd encloses.0
    one_bounded k (Some part) (Some side) counted its encloses graded exact =
        side_bounded (asked_of spread k) (with_target (asked_of spread k)) (side_in bounds part)
        side its counted encloses.0 graded.0 (λ s. (exact s).0)

    pub each_bounded : (n a : ℕ) (parts : List (Option ValueBounds)) (sides : List (Option Side))
        → AllByRecursion (IsValueCounted H u) parts
        → AllZip (IsValueSide network H u spread) (range_with_len a n) sides
        → EncloseEach (map (option_map (side_in bounds)) parts) sides
        → AreEachGraded (map (option_map (side_in bounds)) parts)
        → (IsSmall network H → AreEachExact (map (option_map (side_in bounds)) parts))
        → AllZip (IsBoundedValue widest_grade network H u) (map (option_map (side_in bounds)) parts)
        sides
    each_bounded n a [] [] counted its encloses graded exact = tt
    each_bounded n a [] (side ∷ sides) counted its encloses graded exact = absurd encloses
    each_bounded n a (part ∷ parts) [] counted its encloses graded exact = absurd encloses
    each_bounded zero a (part ∷ parts) (side ∷ sides) counted its encloses graded exact = absurd its
    each_bounded (suc n) a (part ∷ parts) (side ∷ sides) counted its encloses graded exact = (
      one_bounded a part side counted.0 its.0 (encloses.0, tt) (graded.0, tt)
          (λ s. ((exact s).0, tt)),
      each_bounded n (a + 1) parts sides counted.1 its.1 encloses.1 graded.1 (λ s. (exact s).1),
    )
