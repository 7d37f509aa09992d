-- Evidence of exact numbers has whatever greatest grade its enclosures have.
use Rattle.std.proofs.Common.{◌≡◌, ℕ, ◌-◌, ◌≤◌, List, [], ◌∷◌, map, Bool, Option, Some, None}
use Rattle.std.proofs.Common.{IfSome, subst, arith}
use Rattle.std.specs.Prelude.{option_map, IsSomeAnd}
use Rattle.std.specs.List.{AllByRecursion, AllZip}
use Rattle.mk_net.specs.Asked.{Asked}
use Rattle.mk_net.specs.Bounds.{grade_room}
use Rattle.mk_net.specs.Network.{Variable}
use Rattle.mk_exact.specs.Factors.{least_gain}
use Rattle.mk_exact.specs.History.{Entry}
use Rattle.mk_exact.specs.Limits.{Side}
use Rattle.mk_enclose.specs.declared.enclosure.Enclosure.{Enclosure}
use Rattle.mk_enclose.specs.declared.factor.Factor.{Factor}
use Rattle.mk_enclose.specs.Enclosure.{HasGrade, IsGradedWithin}
use Rattle.mk_quote.specs.declared.side.SideBounds.{SideBounds}
use Rattle.mk_quote.specs.declared.values.SpreadBounds.{SpreadBounds}
use Rattle.mk_quote.specs.declared.values.ValueBounds.{ValueBounds}
use Rattle.mk_quote.specs.Values.{side_in}
use Rattle.mk_semiring.specs.declared.held.Held.{Held}
use Rattle.mk_semiring.specs.declared.held.Held.TheVariants.{Present}
use Rattle.mk_semiring.specs.Held.{HasHeldGrade}
use Rattle.mk_judge.specs.declared.price.PriceBounds.{PriceBounds}
use Rattle.mk_answers.specs.Evidence.{ArePriceGraded, AreBoundsOfPrice, IsPriceBounded}
use Rattle.mk_answers.specs.Evidence.{IsFactorOf, IsLeastFactorOf, IsSureFactor, AreGradedWithin}
use Rattle.mk_answers.specs.Evidence.{AreBoundsOfSide, IsBoundedValue, IsLeastWeight}
use Rattle.mk_answers.specs.inner.Found.{IsValueGraded}

-- a grade that is no greater than the greatest
pub graded_within : (e : Enclosure) (g most : ℕ) → g ≤ most → HasGrade e g → IsGradedWithin e most
graded_within e g most small has = record { grade = g; small = small; has = has }

pub within_more : (e : Enclosure) (first most : ℕ) → first ≤ most → IsGradedWithin e first
    → IsGradedWithin e most
within_more e first most more of =
    record { grade = of.grade; small = omega (arith, of.small, more); has = of.has }

pub factor_within : (found : Option Factor) (g most : ℕ) → g ≤ most
    → IfSome found (λ (x : Factor). HasGrade x.gain g)
    → IfSome found (λ (x : Factor). IsGradedWithin x.gain most)
factor_within None g most small has = tt
factor_within (Some x) g most small has = graded_within x.gain g most small has

-- the grade of a belief is that of the enclosure that it holds
pub held_grade : (belief : Held) (e : Enclosure) (g : ℕ) → belief ≡ Present e
    → HasHeldGrade belief g → HasGrade e g
held_grade belief e g is graded = (subst (λ (x : Held). HasHeldGrade x g) is graded).0

-- where a belief leaves room for a step more, there is room for what it holds
pub graded_of_present : (belief : Held) (e : Enclosure) (most_trades : ℕ) → belief ≡ Present e
    → HasHeldGrade belief (grade_room most_trades - 1) → IsGradedWithin e (grade_room most_trades)
graded_of_present belief e most_trades is graded =
    graded_within e (grade_room most_trades - 1) (grade_room most_trades)
    (one_less (grade_room most_trades))
    (held_grade belief e (grade_room most_trades - 1) is graded)
  where
    one_less : (room : ℕ) → room - 1 ≤ room
    one_less room = omega arith

-- and that of the factor that is found
pub found_grade : (found : Option Factor) (f : Factor) (g : ℕ) → found ≡ Some f
    → IfSome found (λ (x : Factor). HasGrade x.gain g) → HasGrade f.gain g
found_grade found f g is graded =
    subst (λ (o : Option Factor). IfSome o (λ (x : Factor). HasGrade x.gain g)) is graded

-- the bounds of every value have at most the grade of their parts and of their whole
pub sides_graded : (most : ℕ) (bounds : SpreadBounds) → IsGradedWithin bounds.whole most
    → (parts : List (Option ValueBounds)) → AllByRecursion (IsValueGraded most) parts
    → AllByRecursion (λ (side : Option SideBounds). IfSome side (AreGradedWithin most))
    (map (option_map (side_in bounds)) parts)
sides_graded most bounds whole [] graded = tt
sides_graded most bounds whole (None ∷ parts) graded =
    (tt, sides_graded most bounds whole parts graded.1)
sides_graded most bounds whole (Some value ∷ parts) graded = (
  record { part = graded.0.0; whole = whole; gain = graded.0.1 },
  sides_graded most bounds whole parts graded.1,
)

module _ (network : List Variable) (H : List Entry) (first most : ℕ) where
  -- ---- prices

  pub price_regraded : (asked : Asked) (bounds : PriceBounds)
      → AreBoundsOfPrice first network H asked bounds → ArePriceGraded most bounds
      → AreBoundsOfPrice most network H asked bounds
  price_regraded asked bounds of graded =
      record { bounds_of = of.bounds_of; range = of.range; graded = graded }

  pub bounded_regraded : (asked : Asked) (found : Option PriceBounds)
      → IsPriceBounded first network H asked found → IfSome found (ArePriceGraded most)
      → IsPriceBounded most network H asked found
  bounded_regraded asked None of graded = record { none = of.none; bounds = tt }
  bounded_regraded asked (Some bounds) of graded =
      record { none = of.none; bounds = price_regraded asked bounds of.bounds graded }

  -- ---- factors

  module _ (u : ℕ) (factor : Factor) (graded : IsGradedWithin factor.gain most) where
    factor_regraded : (gain : ℕ) → IsFactorOf first network H u gain factor
        → IsFactorOf most network H u gain factor
    factor_regraded gain of = record {
      held = of.held;
      owned = of.owned;
      traded = of.traded;
      exact = of.exact;
      graded = graded;
      cash = of.cash;
      trade = of.trade;
    }

    pub least_regraded : (test : List ℕ → Bool) → IsLeastFactorOf first network H u test factor
        → IsLeastFactorOf most network H u test factor
    least_regraded test = at (least_gain network H u test)
      where
        at : (o : Option ℕ) → IsSomeAnd o (λ g. IsFactorOf first network H u g factor)
            → IsSomeAnd o (λ g. IsFactorOf most network H u g factor)
        at None of = of
        at (Some gain) of = factor_regraded gain of

  pub sure_regraded : (u : ℕ) (test : List ℕ → Bool) (found : Option Factor)
      → IsSureFactor first network H u test found
      → IfSome found (λ (x : Factor). IsGradedWithin x.gain most)
      → IsSureFactor most network H u test found
  sure_regraded u test None of graded = of
  sure_regraded u test (Some factor) of graded = least_regraded u factor graded test of

  -- ---- sides

  pub side_regraded : (u : ℕ) (bounds : SideBounds) (side : Side)
      → AreBoundsOfSide first network H u bounds side → AreGradedWithin most bounds
      → AreBoundsOfSide most network H u bounds side
  side_regraded u bounds side of graded = record {
    bounds_of = of.bounds_of;
    range = of.range;
    traded = of.traded;
    graded = graded;
  }

  value_regraded : (u : ℕ) (bounds : Option SideBounds) (side : Option Side)
      → IsBoundedValue first network H u bounds side → IfSome bounds (AreGradedWithin most)
      → IsBoundedValue most network H u bounds side
  value_regraded u None None of graded = of
  value_regraded u None (Some side) of graded = of
  value_regraded u (Some bounds) None of graded = of
  value_regraded u (Some bounds) (Some side) of graded = side_regraded u bounds side of graded

  pub values_regraded : (u : ℕ) (values : List (Option SideBounds)) (sides : List (Option Side))
      → AllZip (IsBoundedValue first network H u) values sides
      → AllByRecursion (λ (bounds : Option SideBounds). IfSome bounds (AreGradedWithin most)) values
      → AllZip (IsBoundedValue most network H u) values sides
  values_regraded u [] [] of graded = of
  values_regraded u [] (side ∷ sides) of graded = of
  values_regraded u (bounds ∷ values) [] of graded = of
  values_regraded u (bounds ∷ values) (side ∷ sides) of graded =
      (value_regraded u bounds side of.0 graded.0, values_regraded u values sides of.1 graded.1)

  -- ---- the operator's loss

  pub weight_regraded : (least : Enclosure) → IsLeastWeight first network H least
      → IsGradedWithin least most → IsLeastWeight most network H least
  weight_regraded least of graded = record {
    weight = of.weight;
    is_least = of.is_least;
    encloses = of.encloses;
    part = of.part;
    whole = of.whole;
    range = of.range;
    graded = graded;
  }
