-- What a judge of printed numbers asks of what is found of them: enclosures of the exact numbers,
-- in range, each with at most a grade.
use Rattle.std.specs.Prelude.{◌≡◌, ℕ, ◌+◌, ◌^◌, ◌≤◌, ⊤, List, length, Bool, true, false, IsTrue}
use Rattle.std.specs.Prelude.{Option, Some}
use Rattle.std.specs.Prelude.{None, IsNone, IfSome, IsSomeAnd, MatchOption, ◌↔◌}
use Rattle.std.specs.List.{AllZip}
use Rattle.arrayvec.specs.ArrayVec.{ArrayVec}
use Rattle.mk_net.specs.Asked.{Asked}
use Rattle.mk_net.specs.Bounds.{max_points_per_bit, max_values, million}
use Rattle.mk_net.specs.Network.{Variable}
use Rattle.mk_states.specs.Events.{holds, with_target}
use Rattle.mk_exact.specs.Factors.{factor_with, least_gain, trade_count}
use Rattle.mk_exact.specs.History.{Entry}
use Rattle.mk_states.specs.InitialWeight.{initial_total}
use Rattle.mk_exact.specs.Limits.{Side}
use Rattle.mk_exact.specs.Prices.{exact_price}
use Rattle.mk_exact.specs.Risk.{least_weight}
use Rattle.mk_exact.specs.Sides.{AreSides}
use Rattle.mk_exact.specs.Sound.{IsSound}
use Rattle.mk_exact.specs.Weight.{IsSmall, cannot_come}
use Rattle.mk_spread.specs.Spreads.{SpreadAsked, asked_of}
use Rattle.mk_spread.specs.Markets.{AreValueSides, values_of}
use Rattle.mk_enclose.specs.declared.enclosure.Enclosure.{Enclosure}
use Rattle.mk_enclose.specs.declared.factor.Factor.{Factor}
use Rattle.mk_scaled.specs.Range.{two_to}
use Rattle.mk_enclose.specs.Enclosure.{upper_of, Encloses, IsExact, IsGradedWithin}
use Rattle.mk_quote.specs.declared.bounds.Bounds.{Bounds}
use Rattle.mk_quote.specs.declared.side.SideBounds.{SideBounds}
use Rattle.mk_quote.specs.Bounds.{hit_side, miss_side}
use Rattle.mk_quote.specs.Values.{sides_in}
use Rattle.mk_judge.specs.declared.price.PriceBounds.{PriceBounds}
use Rattle.mk_judge.specs.declared.price.PriceBounds.TheVariants.{Never, Always, Between}
use Rattle.mk_judge.specs.Prices.{ArePriceBounds, HavePriceRange}
use Rattle.mk_judge.specs.Powers.{HasCashRange}
use Rattle.mk_judge.specs.Cash.{IsHeld, IsOwned}
use Rattle.mk_judge.specs.Units.{AreSideBounds, HasTradeRange}
use Rattle.mk_answers.specs.declared.edit.Sides.{Sides}
use Rattle.mk_answers.specs.declared.edit.Sides.TheVariants.{Open, Impossible, Sure}
use Rattle.mk_answers.specs.declared.edit.Sides.TheVariants.{Never as NeverSides}
use Rattle.mk_answers.specs.declared.spread.SpreadSides.{SpreadSides}
use Rattle.mk_answers.specs.declared.spread.SpreadSides.TheVariants.{Open as OpenSpread}
use Rattle.mk_answers.specs.declared.spread.SpreadSides.TheVariants.{Sure as SureSpread}
use Rattle.mk_answers.specs.declared.spread.SpreadSides.TheVariants.{Impossible as ImpossibleSpread}

-- the grade of what beliefs of a grade give together: one step for each value but one that is
-- added up, and one for the sum of both sides
abbrev pub grade_together : ℕ → ℕ
grade_together of_belief = of_belief + max_values

-- ---- prices

-- the enclosures of a price have at most a grade
abbrev pub ArePriceGraded : ℕ → PriceBounds → Type 0
ArePriceGraded most Never = ⊤
ArePriceGraded most Always = ⊤
ArePriceGraded most (Between part whole) = IsGradedWithin part most × IsGradedWithin whole most

-- bounds of a question's exact price
pub record AreBoundsOfPrice (most : ℕ) (network : List Variable) (H : List Entry) (asked : Asked)
    (bounds : PriceBounds) : Type 0 where
  pub bounds_of : (small : Bool) → (IsTrue small → IsSmall network H)
      → ArePriceBounds bounds small (exact_price network H asked)
  pub range : HavePriceRange bounds
  pub graded : ArePriceGraded most bounds

-- such bounds, or none where the condition cannot come
pub record IsPriceBounded (most : ℕ) (network : List Variable) (H : List Entry) (asked : Asked)
    (found : Option PriceBounds) : Type 0 where
  pub none : IsNone found ↔ (cannot_come network H (holds asked.condition) ≡ true)
  pub bounds : IfSome found (AreBoundsOfPrice most network H asked)

-- such bounds for each value of a variable, in order, or none where the condition cannot come
abbrev pub ArePricesBounded :
    ℕ → List Variable → List Entry → SpreadAsked → Option (ArrayVec (Option PriceBounds)) → Type 0
ArePricesBounded most network H spread None = cannot_come network H (holds spread.condition) ≡ true
ArePricesBounded most network H spread (Some bounds) =
    (cannot_come network H (holds spread.condition) ≡ false)
    × AllZip (λ value price. IsSomeAnd price
    (AreBoundsOfPrice most network H (asked_of spread value))) (values_of network spread)
    bounds.items

-- ---- factors

-- a user's factor of a gain
pub record IsFactorOf (most : ℕ) (network : List Variable) (H : List Entry) (u gain : ℕ)
    (factor : Factor) : Type 0 where
  pub held : IsHeld factor (factor_with H u gain)
  pub owned : IsSound network H → IsOwned factor (factor_with H u gain)
  pub traded : factor.trades ≡ trade_count H u
  pub exact : IsSmall network H → IsExact factor.gain
  pub graded : IsGradedWithin factor.gain most
  pub cash : (b : ℕ) → b ≤ max_points_per_bit → HasCashRange factor b
  pub trade : HasTradeRange factor

-- the factor of a user's least gain over the possible states that pass a test, of which there are
-- some
abbrev pub IsLeastFactorOf :
    ℕ → List Variable → List Entry → ℕ → (List ℕ → Bool) → Factor → Type 0
IsLeastFactorOf most network H u test factor =
    IsSomeAnd (least_gain network H u test) (λ g. IsFactorOf most network H u g factor)

-- that factor, or none where no possible state passes the test
abbrev pub IsSureFactor :
    ℕ → List Variable → List Entry → ℕ → (List ℕ → Bool) → Option Factor → Type 0
IsSureFactor most network H u test found =
    MatchOption found (least_gain network H u test ≡ None)
    (IsLeastFactorOf most network H u test)

-- one for each value of a variable, in order, where it comes and a condition holds; none at all
-- where the condition cannot come
abbrev pub AreSureFactors :
    ℕ → List Variable → List Entry → ℕ → SpreadAsked → Option (ArrayVec (Option Factor)) → Type 0
AreSureFactors most network H u spread None = cannot_come network H (holds spread.condition) ≡ true
AreSureFactors most network H u spread (Some factors) =
    (cannot_come network H (holds spread.condition) ≡ false)
    × AllZip (λ value factor. IsSureFactor most network H u
    (with_target (asked_of spread value)) factor) (values_of network spread) factors.items

-- ---- sides

-- the bounds of a side have at most a grade
pub record AreGradedWithin (most : ℕ) (bounds : SideBounds) : Type 0 where
  pub part : IsGradedWithin bounds.part most
  pub whole : IsGradedWithin bounds.whole most
  pub gain : IsGradedWithin bounds.factor.gain most

-- bounds of one exact side of a question for a user
pub record AreBoundsOfSide (most : ℕ) (network : List Variable) (H : List Entry) (u : ℕ)
    (bounds : SideBounds) (side : Side) : Type 0 where
  pub bounds_of : (small : Bool) → (IsTrue small → IsSmall network H)
      → AreSideBounds bounds small side
  pub range : HasTradeRange bounds.factor
  pub traded : bounds.factor.trades ≡ trade_count H u
  pub graded : AreGradedWithin most bounds

-- the bounds are those of both sides of a question
pub record AreBoundsOfBoth (most : ℕ) (network : List Variable) (H : List Entry) (u : ℕ)
    (asked : Asked) (bounds : Bounds) : Type 0 where
  pub hit : (hit miss : Side) → AreSides network H u asked hit miss
      → AreBoundsOfSide most network H u (hit_side bounds) hit
  pub miss : (hit miss : Side) → AreSides network H u asked hit miss
      → AreBoundsOfSide most network H u (miss_side bounds) miss

-- so they are where both sides can come
abbrev pub AreSidesBounded : ℕ → List Variable → List Entry → ℕ → Asked → Sides → Type 0
AreSidesBounded most network H u asked (Open bounds) = AreBoundsOfBoth most network H u asked bounds
AreSidesBounded most network H u asked Impossible = ⊤
AreSidesBounded most network H u asked NeverSides = ⊤
AreSidesBounded most network H u asked Sure = ⊤

-- bounds of a value's side, which there are where it has one
abbrev pub IsBoundedValue :
    ℕ → List Variable → List Entry → ℕ → Option SideBounds → Option Side → Type 0
IsBoundedValue most network H u None None = ⊤
IsBoundedValue most network H u (Some bounds) (Some side) =
    AreBoundsOfSide most network H u bounds side
IsBoundedValue most network H u _ _ = ⊥

-- the bounds are those of each value, where two can come
abbrev pub AreSpreadSidesBounded :
    ℕ → List Variable → List Entry → ℕ → SpreadAsked → SpreadSides → Type 0
AreSpreadSidesBounded most network H u spread (OpenSpread bounds) =
    (sides : List (Option Side)) → AreValueSides network H u spread sides
    → AllZip (IsBoundedValue most network H u) (sides_in bounds) sides
AreSpreadSidesBounded most network H u spread ImpossibleSpread = ⊤
AreSpreadSidesBounded most network H u spread (SureSpread value) = ⊤

-- ---- the operator's loss

-- an enclosure of the least initial weight of the possible states
pub record IsLeastWeight (most : ℕ) (network : List Variable) (H : List Entry)
    (least : Enclosure) : Type 0 where
  pub weight : ℕ
  pub is_least : least_weight network H ≡ Some weight
  pub encloses : Encloses least weight
  pub part : weight ≤ million ^ length network
  pub whole : initial_total network ≡ million ^ length network
  pub range : upper_of least ≤ two_to 6000
  pub graded : IsGradedWithin least most
