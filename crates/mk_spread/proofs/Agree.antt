-- In the small case right bounds hold exactly the lists whose exact floors are fit and solvent.
use Rattle.std.proofs.Common.{◌≡◌, ℕ, ◌*◌, ◌/◌, ◌<◌, ◌≤◌, Bool, false, List, [], ◌∷◌, Option, Some, None, IfSome, IsSomeAnd, MatchOption, Any, refl, sym, ap, ◌∙◌, subst, arith}
use Rattle.std.specs.Prelude.{◌↔◌}
use Rattle.std.specs.List.{AllZip}
use Rattle.std.proofs.Math.Nat.{div-eq_of_lt-le}
use Rattle.mk_net.specs.Bounds.{number_limit, million}
use Rattle.mk_net.specs.Network.{Variable}
use Rattle.mk_states.specs.Ratios.{unit}
use Rattle.mk_states.specs.Events.{with_target}
use Rattle.mk_exact.specs.History.{Entry}
use Rattle.mk_exact.specs.Weight.{IsSmall}
use Rattle.mk_exact.specs.Factors.{factor_with, least_gain}
use Rattle.mk_exact.specs.Prices.{price_where, IsSolvent}
use Rattle.mk_exact.specs.Limits.{Side, IsFairAndSolvent, IsFloorSolvent, Inside, IsWithinRange}
use Rattle.mk_spread.specs.Spreads.{SpreadAsked, asked_of}
use Rattle.mk_spread.specs.Bounds.{IsFairFor, AreFairUnits, Intervals, InsideEach, IsRightFor, NoShare, AreRightBounds}
use Rattle.mk_spread.specs.Markets.{IsValueSide, values_of, AreValueSides, AreRightBoundsOf, IsFairList, value_cannot_come, IsShareWhere, SuitValues}
use Rattle.mk_spread.proofs.Left.{no_side_exactly}
use Rattle.mk_spread.proofs.Listed.{same_listed, any_paired}

-- a value has one side, or none
one_side : (network : List Variable) (H : List Entry) (u : ℕ) (spread : SpreadAsked) (value : ℕ) (a b : Option Side) → IsValueSide network H u spread value a → IsValueSide network H u spread value b
    → a ≡ b
one_side network H u spread value a b h k = at (least_gain network H u (with_target (asked_of spread value))) a b h k
  where
    side_of : ℕ → Side
    side_of g = record { price = price_where network H spread.condition (with_target (asked_of spread value)); least = factor_with H u g }

    at : (o : Option ℕ) (a b : Option Side) → MatchOption a (o ≡ None) (λ s. IsSomeAnd o (λ g. s ≡ side_of g)) → MatchOption b (o ≡ None) (λ s. IsSomeAnd o (λ g. s ≡ side_of g)) → a ≡ b
    at o None None h k = refl
    at None None (Some b) h k = absurd k
    at (Some g) None (Some b) h k = absurd (cc)
    at None (Some a) b h k = absurd h
    at (Some g) (Some a) None h k = absurd (cc)
    at (Some g) (Some a) (Some b) h k = ap (λ (s : Side). Some s) (h ∙ sym k)

pub same_sides : (network : List Variable) (H : List Entry) (u : ℕ) (spread : SpreadAsked) (first second : List (Option Side))
    → AreValueSides network H u spread first → AreValueSides network H u spread second → first ≡ second
same_sides network H u spread first second h k =
    same_listed (IsValueSide network H u spread) (λ value a b p q. one_side network H u spread value a b p q) (values_of network spread) first second h k

-- a share whose exact floor fits and is solvent
pub record IsFloorShare (side : Side) (X : ℕ) : Type 0 where
  pub least : 1 ≤ X
  pub most : X ≤ 999999
  pub floor : IsFloorSolvent side X

-- of a value: such a share, or none where it cannot come
abbrev pub IsFloorFor : Option Side → ℕ → Type 0
IsFloorFor None X = X ≡ 0
IsFloorFor (Some side) X = IsFloorShare side X

within : (low high X : ℕ) → IsWithinRange (Some (low, high)) → Inside (Some (low, high)) X → (1 ≤ X) × (X ≤ 999999)
within low high X r i = (omega (arith, r.0, i.0), omega (arith, r.2, i.1))

-- what is inside of the interval of a value is such a share
inside_is_floor : (small : Type 0) → small → (side : Option Side) (interval : ℕ × ℕ) (X : ℕ) → IsRightFor small side interval → Inside (Some interval) X ↔ IsFloorFor side X
inside_is_floor small s None interval X h = (
  λ i. let nothing : Inside (Some (0, 0)) X = subst (λ (n : ℕ × ℕ). Inside (Some n) X) h i in omega (arith, nothing.1),
  λ none. let nothing : Inside (Some (0, 0)) X = (omega arith, omega arith) in subst (λ (n : ℕ × ℕ). Inside (Some n) X) (sym h) nothing,
)
inside_is_floor small s (Some side) (low, high) X h = (
  λ i. let w = within low high X h.in_range i in record { least = w.0; most = w.1; floor = (h.exact s X w.0 w.1).0 i },
  λ f. (h.exact s X f.least f.most).1 f.floor,
)

floors_are_inside : (small : Type 0) → small → (sides : List (Option Side))
    (given : List (ℕ × ℕ)) (Xs : List ℕ) → AllZip (IsRightFor small) sides given
    → AllZip (λ interval X. Inside (Some interval) X) given Xs ↔ AllZip IsFloorFor sides Xs
floors_are_inside small s [] [] [] h = (λ i. tt, λ f. tt)
floors_are_inside small s [] [] (X ∷ Xs) h = (λ i. absurd i, λ f. absurd f)
floors_are_inside small s [] (n ∷ given) Xs h = absurd h
floors_are_inside small s (side ∷ sides) [] Xs h = absurd h
floors_are_inside small s (side ∷ sides) (n ∷ given) [] h = (λ i. absurd i, λ f. absurd f)
floors_are_inside small s (side ∷ sides) (n ∷ given) (X ∷ Xs) h =
    let first = inside_is_floor small s side n X h.0 in
    let others = floors_are_inside small s sides given Xs h.1 in
    (λ i. (first.0 i.0, others.0 i.1), λ f. (first.1 f.0, others.1 f.1))

pub no_share : (sides : List (Option Side)) (Xs : List ℕ) → Any (NoShare IsFloorSolvent) sides → AllZip IsFloorFor sides Xs → ⊥
no_share sides Xs none floors = found (any_paired (NoShare IsFloorSolvent) IsFloorFor sides Xs floors none)
  where
    share : (side : Option Side) (X : ℕ) → NoShare IsFloorSolvent side → IsFloorFor side X → ⊥
    share None X n f = n
    share (Some side) X n f = n X f.least f.most f.floor

    found : (side : Option Side) × (X : ℕ) × NoShare IsFloorSolvent side × IsFloorFor side X → ⊥
    found r = share (r.0) (r.1) (r.2) (r.3)

inside_is_floors : (small : Type 0) → small → (sides : List (Option Side)) (intervals : Intervals) (Xs : List ℕ) → AreRightBounds small sides intervals
    → InsideEach intervals Xs ↔ AllZip IsFloorFor sides Xs
inside_is_floors small s sides intervals Xs right = at intervals right.given (right.exactly_none s)
  where
    at : (intervals : Intervals) → IfSome intervals (AllZip (IsRightFor small) sides) → ((intervals ≡ None) ↔ Any (NoShare IsFloorSolvent) sides)
        → InsideEach intervals Xs ↔ AllZip IsFloorFor sides Xs
    at None given none = (λ i. absurd i, λ floors. no_share sides Xs (none.0 refl) floors)
    at (Some listed) given none = floors_are_inside small s sides listed Xs given

pub bounds_agree : (network : List Variable) (H : List Entry) (u : ℕ) (spread : SpreadAsked) (first second : Intervals) (Xs : List ℕ) → IsSmall network H
    → AreRightBoundsOf network H u spread first → AreRightBoundsOf network H u spread second → InsideEach first Xs ↔ InsideEach second Xs
bounds_agree network H u spread first second Xs small a b =
    let one = inside_is_floors (IsSmall network H) small a.sides first Xs a.right in
    let other = inside_is_floors (IsSmall network H) small b.sides second Xs b.right in
    let same = same_sides network H u spread a.sides b.sides a.are_sides b.are_sides in (
      λ i. other.1 (subst (λ (sides : List (Option Side)). AllZip IsFloorFor sides Xs) same (one.0 i)),
      λ i. one.1 (subst (λ (sides : List (Option Side)). AllZip IsFloorFor sides Xs) (sym same) (other.0 i)),
    )

-- in the small case fair units are the exact floor
floor_of : (small : Type 0) (side : Side) (X F : ℕ) → small → IsFairAndSolvent small side X F → X * unit * side.price.den / (million * side.price.num) ≡ F
floor_of small side X F s h = div-eq_of_lt-le {k = F} (million * side.price.num) (omega (arith, h.fair.not_above)) (omega (arith, h.fair.floor s))

floor_solvent : (small : Type 0) (side : Side) (X F : ℕ) → small → IsFairAndSolvent small side X F → IsFloorSolvent side X
floor_solvent small side X F s h = subst (λ (n : ℕ). (n < number_limit) × IsSolvent n side.least) (sym (floor_of small side X F s h)) (h.fair.fits, h.solvent)

floor_for : (small : Type 0) (network : List Variable) (H : List Entry) (u : ℕ) (spread : SpreadAsked) (value : ℕ) (side : Option Side) (X F : ℕ) → small → IsValueSide network H u spread value side
    → IsShareWhere (value_cannot_come network H spread value) X → IsFairFor small side X F → IsFloorFor side X
floor_for small network H u spread value None X F s h suits fair = fair.0
floor_for small network H u spread value (Some side) X F s h suits fair =
    let share : IsShareWhere false X = subst (λ (b : Bool). IsShareWhere b X) (no_side_exactly network H spread u value (Some side) h) suits in
    record { least = share.0; most = share.1; floor = floor_solvent small side X F s fair }

-- fair units for shares that suit their values are of such shares
floors_of : (small : Type 0) (network : List Variable) (H : List Entry) (u : ℕ) (spread : SpreadAsked) → small → (values : List ℕ) (sides : List (Option Side)) (Xs Fs : List ℕ)
    → AllZip (IsValueSide network H u spread) values sides → AllZip (λ value X. IsShareWhere (value_cannot_come network H spread value) X) values Xs
    → AreFairUnits small sides Xs Fs → AllZip IsFloorFor sides Xs
floors_of small network H u spread s values [] [] [] of suits h = tt
floors_of small network H u spread s values [] [] (F ∷ Fs) of suits h = absurd h
floors_of small network H u spread s values [] (X ∷ Xs) Fs of suits h = absurd h
floors_of small network H u spread s values (side ∷ sides) [] Fs of suits h = absurd h
floors_of small network H u spread s values (side ∷ sides) (X ∷ Xs) [] of suits h = absurd h
floors_of small network H u spread s [] (side ∷ sides) (X ∷ Xs) (F ∷ Fs) of suits h = absurd of
floors_of small network H u spread s (value ∷ values) (side ∷ sides) (X ∷ Xs) (F ∷ Fs) of suits h =
    (floor_for small network H u spread value side X F s of.0 suits.0 h.0, floors_of small network H u spread s values sides Xs Fs of.1 suits.1 h.1)

pub fair_list_is_inside : (network : List Variable) (H : List Entry) (u : ℕ) (spread : SpreadAsked) (intervals : Intervals) (Xs Fs : List ℕ) → IsSmall network H
    → SuitValues network H spread Xs → AreRightBoundsOf network H u spread intervals → IsFairList network H u spread Xs Fs → InsideEach intervals Xs
fair_list_is_inside network H u spread intervals Xs Fs small suits bounds list =
    let same = same_sides network H u spread list.sides bounds.sides list.are_sides bounds.are_sides in
    let floors = floors_of (IsSmall network H) network H u spread small (values_of network spread) list.sides Xs Fs list.are_sides suits list.units in
    (inside_is_floors (IsSmall network H) small bounds.sides intervals Xs bounds.right).1 (subst (λ (sides : List (Option Side)). AllZip IsFloorFor sides Xs) same floors)
