-- Right bounds exist, and judge each list of shares.
use Rattle.std.proofs.Common.{◌≡◌, ℕ, suc, ◌-◌, ◌<◌, ◌≤◌, ◌⊎◌, Bool, true, false, List, [], ◌∷◌, length, slice_index, Option, Some, None, IfSome, option_map, Any, All, refl, ap, ◌∙◌, subst, inl, inr, arith}
use Rattle.std.specs.Bool.{⊤}
use Rattle.std.specs.List.{AllZip, AllByRecursion}
use Rattle.std.proofs.lemmas.List.Elements.{All-from_recursion}
use Rattle.mk_net.specs.Bounds.{million}
use Rattle.mk_net.specs.Network.{Variable, IsNetwork, sizes}
use Rattle.mk_states.specs.Events.{with_target, without_target}
use Rattle.mk_states.specs.Ratios.{unit}
use Rattle.mk_exact.specs.History.{Entry}
use Rattle.mk_exact.specs.Weight.{IsSmall, possible_states}
use Rattle.mk_exact.specs.Limits.{Side, IsFairAndSolvent, IsWanted, IsFloorSolvent, Inside, AreRight}
use Rattle.mk_exact.specs.Sound.{IsSound}
use Rattle.mk_exact.specs.Proper.{IsProper}
use Rattle.mk_exact.specs.Existing.{IsPositivePrice, CanMove, IsOpenSide, HasSides}
use Rattle.mk_states.proofs.Sums.{each_weaker}
use Rattle.mk_exact.proofs.ExistLimits.{limits_exist, inside_is_decided}
use Rattle.mk_exact.proofs.ExistMarkets.{sides_exist}
use Rattle.mk_spread.specs.Spreads.{SpreadAsked, asked_of}
use Rattle.mk_spread.specs.Bounds.{IsFairFor, AreFairUnits, Intervals, InsideEach, IsRightFor, all_given, NoShare, AreRightBounds}
use Rattle.mk_spread.specs.Markets.{IsValueSide, AreValueSides, AreRightBoundsOf, HasFairList, value_cannot_come, CanBeSpread}
use Rattle.mk_spread.specs.Existing.{HasValueSides, IsShareInterval}
use Rattle.mk_spread.specs.Laws.{AreOfValues}
use Rattle.mk_spread.proofs.Left.{no_side, can_come_is, condition_comes, other_comes, other_left}
use Rattle.mk_spread.proofs.Listed.{range_of, ranged_length, any_here, any_later, any_paired}
use Rattle.mk_spread.proofs.When.{bounds_when}
use Rattle.mk_spread.proofs.Fair.{of_values}

-- ---- bounds, from an interval or none for each value

-- a right interval for a value, or none where none of the shares of its side can well be traded
abbrev pub IsRightOrNone : Type 0 → Option Side → Option (ℕ × ℕ) → Type 0
IsRightOrNone small side None = NoShare IsWanted side × (small → NoShare IsFloorSolvent side)
IsRightOrNone small side (Some interval) = IsRightFor small side interval

-- the least share of a right interval has a solvent floor in the small case
has_share : (small : Type 0) → small → (side : Option Side) (interval : ℕ × ℕ) → IsRightFor small side interval → NoShare IsFloorSolvent side → ⊥
has_share small s None interval right none = none
has_share small s (Some side) (low, high) right none =
    let range = right.in_range in
    let least : 1 ≤ low = range.0 in
    let ordered : low ≤ high = range.1 in
    let most : low ≤ 999999 = omega (arith, range.1, range.2) in
    none low least most ((right.exact s low least most).0 (omega arith, ordered))

pub given_right : (small : Type 0) (sides : List (Option Side)) (given : List (ℕ × ℕ)) → AllZip (IsRightFor small) sides given → AreRightBounds small sides (Some given)
given_right small sides given h = record {
  given = h;
  none = λ e. absurd (cc);
  exactly_none = λ s. (λ e. absurd (cc), λ none. absurd (all_have s none));
}
  where
    all_have : small → Any (NoShare IsFloorSolvent) sides → ⊥
    all_have s none = at (any_paired (NoShare IsFloorSolvent) (IsRightFor small) sides given h none)
      where
        at : (side : Option Side) × (interval : ℕ × ℕ) × NoShare IsFloorSolvent side × IsRightFor small side interval → ⊥
        at r = has_share small s (r.0) (r.1) (r.3) (r.2)

none_right : (small : Type 0) (sides : List (Option Side)) → Any (NoShare IsWanted) sides → (small → Any (NoShare IsFloorSolvent) sides) → AreRightBounds small sides None
none_right small sides wanted floor = record { given = tt; none = λ e. wanted; exactly_none = λ s. (λ e. floor s, λ none. refl) }

pub collected : (small : Type 0) (sides : List (Option Side)) (os : List (Option (ℕ × ℕ))) → AllZip (IsRightOrNone small) sides os → AreRightBounds small sides (all_given os)
collected small [] [] h = given_right small [] [] tt
collected small [] (o ∷ os) h = absurd h
collected small (side ∷ sides) [] h = absurd h
collected small (side ∷ sides) (None ∷ os) h =
    none_right small (side ∷ sides) (any_here (NoShare IsWanted) side sides (h.0.0)) (λ s. any_here (NoShare IsFloorSolvent) side sides (h.0.1 s))
collected small (side ∷ sides) (Some interval ∷ os) h = joined (all_given os) (collected small sides os h.1)
  where
    joined : (rest : Intervals) → AreRightBounds small sides rest → AreRightBounds small (side ∷ sides) (option_map (λ intervals. interval ∷ intervals) rest)
    joined None right = none_right small (side ∷ sides) (any_later (NoShare IsWanted) side sides (right.none refl)) (λ s. any_later (NoShare IsFloorSolvent) side sides ((right.exactly_none s).0 refl))
    joined (Some given) right = given_right small (side ∷ sides) (interval ∷ given) (h.0, right.given)

-- ---- bounds of any sides

-- a side whose floors all fit and are solvent
abbrev easy : Side
easy = record { price = record { num = 1; den = 1 }; least = record { num = unit; den = 1 } }

easy_floor : (Y : ℕ) → 1 ≤ Y → Y ≤ 999999 → IsFloorSolvent easy Y
easy_floor Y p q = (omega arith, omega arith)

easy_wanted : (Y : ℕ) → 1 ≤ Y → Y ≤ 999999 → IsWanted easy Y
easy_wanted Y p q = record { above_one = omega arith; not_far = omega arith }

easy_price : IsPositivePrice easy.price
easy_price = record { positive = omega arith; at_most_one = omega arith }

-- limits beside it are an interval of the other side alone
of_limits : (side : Side) (limits : Option (ℕ × ℕ)) → AreRight ⊤ side easy limits → IsRightOrNone ⊤ (Some side) limits
of_limits side None right = (
  λ X p q wanted. right.near_complete X p q wanted (easy_wanted (million - X) (omega arith) (omega arith)),
  λ s X p q floor. (right.exact s X p q).1 (floor, easy_floor (million - X) (omega arith) (omega arith)),
)
of_limits side (Some interval) right = record {
  in_range = right.in_range;
  sound = λ X i. found X (right.sound X i);
  near_complete = λ X p q wanted. right.near_complete X p q wanted (easy_wanted (million - X) (omega arith) (omega arith));
  exact = λ s X p q. (λ i. ((right.exact s X p q).0 i).0, λ floor. (right.exact s X p q).1 (floor, easy_floor (million - X) (omega arith) (omega arith)));
}
  where
    found : (X : ℕ) → (F_t : ℕ) × (F_n : ℕ) × IsFairAndSolvent ⊤ side X F_t × IsFairAndSolvent ⊤ easy (million - X) F_n → (F : ℕ) × IsFairAndSolvent ⊤ side X F
    found X f = (f.0, f.2)

each_right : (sides : List (Option Side)) → AllByRecursion (λ (side : Option Side). IfSome side (λ s. IsPositivePrice s.price)) sides
    → (os : List (Option (ℕ × ℕ))) × AllZip (IsRightOrNone ⊤) sides os
each_right [] h = ([], tt)
each_right (None ∷ sides) h = joined (each_right sides h.1)
  where
    joined : (os : List (Option (ℕ × ℕ))) × AllZip (IsRightOrNone ⊤) sides os → (os : List (Option (ℕ × ℕ))) × AllZip (IsRightOrNone ⊤) (None ∷ sides) os
    joined rest = (Some (0, 0) ∷ rest.0, (refl, rest.1))
each_right (Some side ∷ sides) h = joined (limits_exist side easy h.0 easy_price) (each_right sides h.1)
  where
    joined : (limits : Option (ℕ × ℕ)) × AreRight ⊤ side easy limits → (os : List (Option (ℕ × ℕ))) × AllZip (IsRightOrNone ⊤) sides os
        → (os : List (Option (ℕ × ℕ))) × AllZip (IsRightOrNone ⊤) (Some side ∷ sides) os
    joined l rest = (l.0 ∷ rest.0, (of_limits side (l.0) (l.1), rest.1))

pub bounds_exist : (sides : List (Option Side)) → AllByRecursion (λ (side : Option Side). IfSome side (λ s. IsPositivePrice s.price)) sides
    → (intervals : Intervals) × AreRightBounds ⊤ sides intervals
bounds_exist sides h =
    let each = each_right sides h in
    (all_given (each.0), collected ⊤ sides (each.0) (each.1))

-- ---- bounds of a market

can_move : (network : List Variable) (H : List Entry) (spread : SpreadAsked) → CanBeSpread network H spread → (k : ℕ) → k < slice_index (sizes network) spread.variable
    → value_cannot_come network H spread k ≡ false → CanMove network H (asked_of spread k)
can_move network H spread can k p comes = record {
  can_ask = record {
    in_order = record {
      in_range = record { target = record { variable = can.in_order.in_range.variable; value = p }; condition = can.in_order.in_range.condition };
      apart = can.in_order.apart;
      target_apart = can.in_order.variable_apart;
      unresolved = can.in_order.unresolved;
    };
    some_state = condition_comes network H spread k comes;
  };
  some_hit = can_come_is network H (with_target (asked_of spread k)) comes;
  some_miss = other (other_left network H spread can.two_left k);
}
  where
    other : (j : ℕ) × (value_cannot_come network H spread j ≡ false) × (j ≡ k → ⊥) → 1 ≤ length (possible_states network H (without_target (asked_of spread k)))
    other r = other_comes network H spread (r.0) k (r.2) (r.1)

module _ (network : List Variable) (H : List Entry) (u : ℕ) (spread : SpreadAsked)
    (net : IsNetwork network) (proper : IsProper network H) (can : CanBeSpread network H spread) where
  abbrev IsOpen : Option Side → Type 0
  IsOpen side = IfSome side (IsOpenSide (IsSound network H))

  value_side : (k : ℕ) → k < slice_index (sizes network) spread.variable → (side : Option Side) × IsValueSide network H u spread k side × IsOpen side
  value_side k p = at (value_cannot_come network H spread k) refl
    where
      of_both : HasSides network H u (asked_of spread k) → (side : Option Side) × IsValueSide network H u spread k side × IsOpen side
      of_both found = (Some found.hit, found.sides.hit_side, found.hit_open)

      at : (b : Bool) → value_cannot_come network H spread k ≡ b → (side : Option Side) × IsValueSide network H u spread k side × IsOpen side
      at true e = (None, no_side network H spread u k e, tt)
      at false e = of_both (sides_exist network H u (asked_of spread k) net proper (can_move network H spread can k p e))

  pub value_sides_exist : HasValueSides network H u spread
  value_sides_exist = listed (range_of (IsValueSide network H u spread) IsOpen (slice_index (sizes network) spread.variable) 0 (λ k p q. value_side k (omega arith)))
    where
      listed : (sides : List (Option Side)) × AreValueSides network H u spread sides × AllByRecursion IsOpen sides → HasValueSides network H u spread
      listed l = record { sides = l.0; are_sides = l.1; each_open = l.2 }

  pub right_bounds_exist : (intervals : Intervals) × AreRightBoundsOf network H u spread intervals
  right_bounds_exist = found value_sides_exist
    where
      price_of : (side : Option Side) → IsOpen side → IfSome side (λ s. IsPositivePrice s.price)
      price_of None o = tt
      price_of (Some side) o = o.price

      of_sides : (has : HasValueSides network H u spread) → (intervals : Intervals) × AreRightBounds ⊤ has.sides intervals → (intervals : Intervals) × AreRightBoundsOf network H u spread intervals
      of_sides has b = (b.0, record { sides = has.sides; are_sides = has.are_sides; right = bounds_when (IsSmall network H) ⊤ (λ _. tt) has.sides (b.0) (b.1) })

      found : HasValueSides network H u spread → (intervals : Intervals) × AreRightBoundsOf network H u spread intervals
      found has = of_sides has (bounds_exist has.sides (each_weaker IsOpen (λ (side : Option Side). IfSome side (λ s. IsPositivePrice s.price)) price_of has.sides has.each_open))

-- ---- what bounds say of a list of shares

zip_decided : (given : List (ℕ × ℕ)) (Xs : List ℕ) → AllZip (λ interval X. Inside (Some interval) X) given Xs ⊎ (¬ AllZip (λ interval X. Inside (Some interval) X) given Xs)
zip_decided [] [] = inl tt
zip_decided [] (X ∷ Xs) = inr (λ h. h)
zip_decided (i ∷ given) [] = inr (λ h. h)
zip_decided (i ∷ given) (X ∷ Xs) = both (inside_is_decided (Some i) X) (zip_decided given Xs)
  where
    Rest : Type 0
    Rest = AllZip (λ (interval : ℕ × ℕ) (X : ℕ). Inside (Some interval) X) given Xs

    both : Inside (Some i) X ⊎ (¬ Inside (Some i) X) → Rest ⊎ (¬ Rest) → (Inside (Some i) X × Rest) ⊎ (¬ (Inside (Some i) X × Rest))
    both (inl p) (inl q) = inl (p, q)
    both (inl p) (inr q) = inr (λ h. q h.1)
    both (inr p) _ = inr (λ h. p h.0)

pub inside_each_is_decided : (intervals : Intervals) (Xs : List ℕ) → InsideEach intervals Xs ⊎ (¬ InsideEach intervals Xs)
inside_each_is_decided None Xs = inr (λ h. h)
inside_each_is_decided (Some given) Xs = zip_decided given Xs

-- units for a share inside
unit_inside : (small : Type 0) (side : Option Side) (interval : ℕ × ℕ) (X : ℕ) → IsRightFor small side interval → Inside (Some interval) X → (F : ℕ) × IsFairFor small side X F
unit_inside small None interval X h i = let nothing : Inside (Some (0, 0)) X = subst (λ (n : ℕ × ℕ). Inside (Some n) X) h i in (unit, (omega (arith, nothing.1), refl))
unit_inside small (Some side) interval X h i = h.sound X i

-- a number of units for each share inside
units_inside : (small : Type 0) (sides : List (Option Side)) (given : List (ℕ × ℕ)) (Xs : List ℕ) → AllZip (IsRightFor small) sides given
    → AllZip (λ interval X. Inside (Some interval) X) given Xs → (Fs : List ℕ) × AreFairUnits small sides Xs Fs
units_inside small [] [] [] h i = ([], tt)
units_inside small [] [] (X ∷ Xs) h i = absurd i
units_inside small [] (n ∷ given) Xs h i = absurd h
units_inside small (side ∷ sides) [] Xs h i = absurd h
units_inside small (side ∷ sides) (n ∷ given) [] h i = absurd i
units_inside small (side ∷ sides) (n ∷ given) (X ∷ Xs) h i = joined (unit_inside small side n X h.0 i.0) (units_inside small sides given Xs h.1 i.1)
  where
    joined : (F : ℕ) × IsFairFor small side X F → (Fs : List ℕ) × AreFairUnits small sides Xs Fs → (Fs : List ℕ) × AreFairUnits small (side ∷ sides) (X ∷ Xs) Fs
    joined f rest = (f.0 ∷ rest.0, (f.1, rest.1))

pub bounds_judge : (network : List Variable) (H : List Entry) (u : ℕ) (spread : SpreadAsked) (intervals : Intervals) (Xs : List ℕ)
    → AreRightBoundsOf network H u spread intervals → (InsideEach intervals Xs × HasFairList network H u spread Xs) ⊎ (¬ InsideEach intervals Xs)
bounds_judge network H u spread intervals Xs bounds = judge (inside_each_is_decided intervals Xs)
  where
    units : (intervals : Intervals) → IfSome intervals (AllZip (IsRightFor (IsSmall network H)) bounds.sides) → InsideEach intervals Xs
        → (Fs : List ℕ) × AreFairUnits (IsSmall network H) bounds.sides Xs Fs
    units None given inside = absurd inside
    units (Some listed) given inside = units_inside (IsSmall network H) bounds.sides listed Xs given inside

    has_list : (Fs : List ℕ) × AreFairUnits (IsSmall network H) bounds.sides Xs Fs → HasFairList network H u spread Xs
    has_list f = (f.0, record { sides = bounds.sides; are_sides = bounds.are_sides; units = f.1 })

    judge : InsideEach intervals Xs ⊎ (¬ InsideEach intervals Xs) → (InsideEach intervals Xs × HasFairList network H u spread Xs) ⊎ (¬ InsideEach intervals Xs)
    judge (inl i) = inl (i, has_list (units intervals bounds.right.given i))
    judge (inr outside) = inr outside

share_interval : (small : Type 0) (side : Option Side) (interval : ℕ × ℕ) → IsRightFor small side interval → IsShareInterval interval
share_interval small None interval h = inl h
share_interval small (Some side) interval h = inr h.in_range

ranges : (small : Type 0) (sides : List (Option Side)) (given : List (ℕ × ℕ)) → AllZip (IsRightFor small) sides given
    → (length given ≡ length sides) × AllByRecursion IsShareInterval given
ranges small [] [] h = (refl, tt)
ranges small [] (i ∷ given) h = absurd h
ranges small (side ∷ sides) [] h = absurd h
ranges small (side ∷ sides) (i ∷ given) h =
    let rest = ranges small sides given h.1 in
    (ap suc rest.0, (share_interval small side i h.0, rest.1))

pub right_bounds_fit : (network : List Variable) (H : List Entry) (u : ℕ) (spread : SpreadAsked) (given : List (ℕ × ℕ)) → IsNetwork network
    → spread.variable < length network → AreRightBoundsOf network H u spread (Some given) → AreOfValues given × All IsShareInterval given
right_bounds_fit network H u spread given net within bounds =
    let both = ranges (IsSmall network H) bounds.sides given bounds.right.given in
    let long = ranged_length (IsValueSide network H u spread) (slice_index (sizes network) spread.variable) 0 bounds.sides bounds.are_sides in
    (of_values network net spread given within (both.0 ∙ long), All-from_recursion IsShareInterval given (both.1))
