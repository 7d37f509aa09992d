-- Beliefs in what is possible.
use Rattle.std.specs.Prelude.{◌≡◌, ℕ, ◌+◌, ◌≤◌, List, slice_index, true, Option, Some, IsNone}
use Rattle.std.specs.Prelude.{IfSome, ◌↔◌}
use Rattle.mk_net.specs.Bounds.{max_market_trades, max_values}
use Rattle.mk_net.specs.Network.{Variable, sizes}
use Rattle.mk_net.specs.Asked.{Asked}
use Rattle.mk_net.specs.Events.{pairs_asked}
use Rattle.mk_states.specs.Events.{holds, with_target, without_target}
use Rattle.mk_exact.specs.Existing.{IsInOrder}
use Rattle.mk_exact.specs.Factors.{factor_with, least_gain, trade_count}
use Rattle.mk_exact.specs.History.{Entry, deposited, withdrawn}
use Rattle.mk_exact.specs.Weight.{total, IsSmall, cannot_come}
use Rattle.mk_enclose.specs.declared.enclosure.Enclosure.{Enclosure}
use Rattle.mk_enclose.specs.declared.factor.Factor.{Factor}
use Rattle.mk_enclose.specs.Enclosure.{Encloses, HasGrade, IsExact, IsGradedWithin}
use Rattle.mk_enclose.specs.Enclosure.{widest_grade}
use Rattle.mk_semiring.specs.declared.held.Held.{Held}
use Rattle.mk_semiring.specs.declared.held.Held.TheVariants.{Present}
use Rattle.mk_semiring.specs.Held.{HeldEncloses, HasHeldGrade, IsHeldExact}
use Rattle.mk_tree.specs.Given.{GivenTree}
use Rattle.mk_tree.specs.Held.{IsHeldAt}
use Rattle.mk_engine.specs.Meaning.{Meaning, max_factors, max_grade}
use Rattle.mk_beliefs.specs.Meanings.{weights_of}
use Rattle.mk_assets.specs.declared.assets.Assets.{Assets}
use Rattle.mk_assets.specs.Holdings.{IsNet, Owns}
use Rattle.mk_quote.specs.declared.bounds.Bounds.{Bounds}
use Rattle.mk_quote.specs.declared.values.ValueBounds.{ValueBounds}
use Rattle.mk_judge.specs.Units.{HasTradeRange}
use Rattle.mk_answers.specs.Open.{IsOpen, CanBeAnswered, IsFactorFor, holding_of}

-- the belief encloses a number that is not zero
pub record IsThere (belief : Held) : Type 0 where
  pub number : ℕ
  pub encloses : HeldEncloses belief number
  pub positive : 1 ≤ number

-- the greatest grade of a belief here: that of an engine with as many factors as it may hold, in the other values of a variable
abbrev pub max_side_grade : ℕ
max_side_grade = max_factors + max_grade + max_values

-- the belief is in this number, and is exact in the small case
pub record IsBeliefIn (belief : Held) (small : Type 0) (number : ℕ) : Type 0 where
  pub encloses : HeldEncloses belief number
  pub grade : HasHeldGrade belief max_side_grade
  pub exact : small → IsHeldExact belief

-- a factor counts a user's trades and bits, few enough for one trade more
pub record IsCounted (H : List Entry) (u : ℕ) (factor : Factor) : Type 0 where
  pub trades : factor.trades ≡ trade_count H u
  pub net : IsNet factor.net (deposited H u) (withdrawn H u)
  pub range : HasTradeRange factor

-- an enclosure of a number, with its grade, and exact in the small case
pub record IsFoundOf (e : Enclosure) (small : Type 0) (number : ℕ) : Type 0 where
  pub encloses : Encloses e number
  pub graded : IsGradedWithin e widest_grade
  pub exact : small → IsExact e

-- the enclosure is of the weight of the states where a question's target and condition hold, and where its condition holds
abbrev pub IsPartFor : List Variable → List Entry → Asked → Enclosure → Type 0
IsPartFor network H asked part = IsBeliefIn (Present part) (IsSmall network H) (total network H (with_target asked))

abbrev pub IsWholeFor : List Variable → List Entry → Asked → Enclosure → Type 0
IsWholeFor network H asked whole = IsFoundOf whole (IsSmall network H) (total network H (holds asked.condition))

-- and of those where its condition holds and its target does not
abbrev pub IsRestFor : List Variable → List Entry → Asked → Enclosure → Type 0
IsRestFor network H asked rest = IsBeliefIn (Present rest) (IsSmall network H) (total network H (without_target asked))

-- the beliefs are in a question's target and in the other values of its variable
pub record AreSidesIn (network : List Variable) (H : List Entry) (asked : Asked) (part rest : Held) : Type 0 where
  pub hit : IsBeliefIn part (IsSmall network H) (total network H (with_target asked))
  pub miss : IsBeliefIn rest (IsSmall network H) (total network H (without_target asked))

-- so they are for some question of some market
pub record HasSides (part rest : Held) : Type 0 where
  pub network : List Variable
  pub history : List Entry
  pub asked : Asked
  pub sides : AreSidesIn network history asked part rest

-- the assets are a user's of this market in use, where the question can be answered, and a clique
-- holds it
pub record CanAskAssets {E P : Type 0} (stands_for : E → Meaning → Type 0) (assets : Assets E P)
    (network : List Variable) (tree : GivenTree) (H : List Entry) (at : ℕ) (asked : Asked) : Type 0
  where
    pub user : ℕ
    pub owns : Owns stands_for assets (holding_of network tree H user)
    pub is_open : IsOpen network tree H
    pub answered : CanBeAnswered network tree H asked
    pub held : IsHeldAt tree at (pairs_asked asked)

-- so it is of some market, where its variable has so many values, and both of its sides have these
-- weights
pub record CanOpen {E P : Type 0} (stands_for : E → Meaning
    → Type 0) (assets : Assets E P) (at : ℕ) (asked : Asked) (values : ℕ) (hit miss : Enclosure) :
    Type 0 where
  pub network : List Variable
  pub tree : GivenTree
  pub history : List Entry
  pub asks : CanAskAssets stands_for assets network tree history at asked
  pub sized : values ≡ slice_index (sizes network) asked.target.variable
  pub part : IsPartFor network history asked hit
  pub rest : IsRestFor network history asked miss

-- the bounds of the value that a question asks about, where it can come: on the weight of its states, and on the user's least factor
-- over them
pub record AreValueBoundsOf (network : List Variable) (H : List Entry) (u : ℕ) (asked : Asked) (value : ValueBounds) : Type 0 where
  pub part : IsPartFor network H asked value.part
  pub factor : (g : ℕ) → least_gain network H u (with_target asked) ≡ Some g
      → IsFactorFor value.factor max_market_trades
      (IsSmall network H) (factor_with H u g)

-- such bounds, or none where it cannot
pub record IsValueFound (network : List Variable) (H : List Entry) (u : ℕ) (asked : Asked) (found : Option ValueBounds) : Type 0 where
  pub none : IsNone found ↔ (cannot_come network H (with_target asked) ≡ true)
  pub bounds : IfSome found (AreValueBoundsOf network H u asked)

-- a question in order that a clique holds
pub record CanBeValuedHere (network : List Variable) (tree : GivenTree) (H : List Entry) (at : ℕ)
    (asked : Asked) : Type 0 where
  pub in_order : IsInOrder network H asked
  pub held : IsHeldAt tree at (pairs_asked asked)

-- the engine has the weights and the assets are a user's of one market in use of this network, where the question is such
pub record CanFindValue {E A P : Type 0} (stands_for : E → Meaning → Type 0) (owned_for : A → Meaning → Type 0) (prices : E) (assets : Assets A P)
    (network : List Variable) (at : ℕ) (asked : Asked) : Type 0 where
  pub tree : GivenTree
  pub history : List Entry
  pub user : ℕ
  pub stands : stands_for prices (weights_of network tree history)
  pub owns : Owns owned_for assets (holding_of network tree history user)
  pub is_open : IsOpen network tree history
  pub valued : CanBeValuedHere network tree history at asked

-- the assets are a user's of a market in use of this network, where the question is such
pub record CanFindSure {A P : Type 0} (owned_for : A → Meaning
    → Type 0) (assets : Assets A P) (network : List Variable) (at : ℕ) (asked : Asked) : Type 0
  where
    pub tree : GivenTree
    pub history : List Entry
    pub user : ℕ
    pub owns : Owns owned_for assets (holding_of network tree history user)
    pub is_open : IsOpen network tree history
    pub valued : CanBeValuedHere network tree history at asked

-- a value's bounds, where it can come, count the user's trades and bits
abbrev pub IsValueCounted : List Entry → ℕ → Option ValueBounds → Type 0
IsValueCounted H u found = IfSome found (λ value. IsCounted H u value.factor)

-- and have at most a grade
abbrev pub IsValueGraded : ℕ → Option ValueBounds → Type 0
IsValueGraded most found = IfSome found (λ value. IsGradedWithin value.part most
    × IsGradedWithin value.factor.gain most)

-- the weights of both sides have a grade, and their sum one more
pub record AreWeightsGraded (g : ℕ) (bounds : Bounds) : Type 0 where
  pub hit : HasGrade bounds.hit g
  pub miss : HasGrade bounds.miss g
  pub whole : HasGrade bounds.whole (g + 1)

-- the gains of both sides have at most a grade
pub record AreGainsGraded (most : ℕ) (bounds : Bounds) : Type 0 where
  pub hit : IsGradedWithin bounds.hit_factor.gain most
  pub miss : IsGradedWithin bounds.miss_factor.gain most
