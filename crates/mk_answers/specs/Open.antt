-- A market in use, what the engines stand for there, and what the numbers of its answers owe the exact ones.
use Rattle.std.specs.Prelude.{◌≡◌, ℕ, List, Option, true, is_some}
use Rattle.std.specs.List.{AllByRecursion}
use Rattle.mk_net.specs.Network.{Variable, IsNetwork}
use Rattle.mk_net.specs.Asked.{Asked}
use Rattle.mk_net.specs.Bounds.{grade_room}
use Rattle.mk_net.specs.Events.{pairs_asked}
use Rattle.mk_exact.specs.History.{Entry, resolutions, deposited, withdrawn}
use Rattle.mk_exact.specs.Factors.{Fraction}
use Rattle.mk_exact.specs.Limits.{Side}
use Rattle.mk_exact.specs.Proper.{IsProper}
use Rattle.mk_exact.specs.Existing.{IsInOrder, IsWithinBounds}
use Rattle.mk_exact.specs.Laws.{AgreesWith}
use Rattle.mk_tree.specs.Given.{GivenTree, home}
use Rattle.mk_tree.specs.Checked.{IsTreeOf}
use Rattle.mk_enclose.specs.declared.factor.Factor.{Factor}
use Rattle.mk_enclose.specs.Enclosure.{IsExact, IsGradedWithin}
use Rattle.mk_enclose.specs.Factor.{StandsFor}
use Rattle.mk_spread.specs.Spreads.{SpreadAsked, asked_of}
use Rattle.mk_spread.specs.Markets.{IsSpreadInOrder}
use Rattle.mk_quote.specs.declared.bounds.Bounds.{Bounds}
use Rattle.mk_quote.specs.declared.side.SideBounds.{SideBounds}
use Rattle.mk_quote.specs.Bounds.{EncloseSides, AreAllGraded, AreAllExact}
use Rattle.mk_quote.specs.Values.{EncloseEach, AreEachGraded, AreEachExact}
use Rattle.mk_beliefs.specs.Meanings.{gains_of}
use Rattle.mk_assets.specs.Holdings.{Holding}

-- a market in use: a network with its tree, and a proper history within the bounds
pub record IsOpen (network : List Variable) (tree : GivenTree) (H : List Entry) : Type 0 where
  pub legal : IsNetwork network
  pub tree_of_it : IsTreeOf network tree
  pub proper : IsProper network H
  pub within : IsWithinBounds H

-- what a user's assets stand for then
abbrev pub holding_of : List Variable → GivenTree → List Entry → ℕ → Holding
holding_of network tree H u = record { meaning = gains_of network tree H u; deposited = deposited H u; withdrawn = withdrawn H u }

-- a question in order whose condition gives no resolved variable another value, and that has a home
pub record CanBeAnswered (network : List Variable) (tree : GivenTree) (H : List Entry) (asked : Asked) : Type 0 where
  pub in_order : IsInOrder network H asked
  pub agrees : AllByRecursion (λ p. AllByRecursion (AgreesWith p) (resolutions H)) asked.condition
  pub home : is_some (home tree (pairs_asked asked)) ≡ true

-- a distribution in order whose condition gives no resolved variable another value, and each of
-- whose values has a home with it
pub record CanBeSpreadHere (network : List Variable) (tree : GivenTree) (H : List Entry) (spread : SpreadAsked) : Type 0 where
  pub in_order : IsSpreadInOrder network H spread
  pub agrees : AllByRecursion (λ p. AllByRecursion (AgreesWith p) (resolutions H)) spread.condition
  pub home : (value : ℕ) → is_some (home tree (pairs_asked (asked_of spread value))) ≡ true

-- the bounds enclose both sides, with their grades, and are exact in the small case
pub record AreBoundsFor (bounds : Bounds) (small : Type 0) (hit miss : Side) : Type 0 where
  pub sides : EncloseSides bounds hit miss
  pub graded : AreAllGraded bounds
  pub exact : small → AreAllExact bounds

-- the bounds of all values that can come enclose their sides, with their grades, and are exact in the small case
pub record AreSideBoundsFor (values : List (Option SideBounds)) (small : Type 0) (exact_sides : List (Option Side)) : Type 0 where
  pub sides : EncloseEach values exact_sides
  pub graded : AreEachGraded values
  pub exact : small → AreEachExact values

-- the factor stands for the fraction, with a grade for which there is room in a market of so many
-- trades, and is exact in the small case
pub record IsFactorFor (factor : Factor) (most_trades : ℕ) (small : Type 0) (q : Fraction) : Type 0
  where
    pub stands : StandsFor factor q.num q.den
    pub graded : IsGradedWithin factor.gain (grade_room most_trades)
    pub exact : small → IsExact factor.gain
