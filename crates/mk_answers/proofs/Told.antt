-- What is told of every value: its price, and what a user is sure of where it comes.
use Rattle.std.proofs.Common.{◌≡◌, ℕ, zero, suc, ◌+◌, ◌<◌, ◌≤◌, Bool, true, false}
use Rattle.std.proofs.Common.{List, [], ◌∷◌, ◌++◌, length, slice_index, Option, Some, None}
use Rattle.std.proofs.Common.{IsNone, IfSome, ◌↔◌, refl, sym, ap, subst, ◌∙◌, arith}
use Rattle.std.specs.List.{AllZip, AllByRecursion, range_with_len}
use Rattle.mk_net.specs.declared.words.Pair.{Pair}
use Rattle.mk_net.specs.Asked.{Asked}
use Rattle.mk_net.specs.Bounds.{max_points_per_bit, max_values, grade_room, sharpness}
use Rattle.mk_net.specs.Events.{pairs_asked}
use Rattle.mk_net.specs.Named.{nobody}
use Rattle.mk_net.specs.Network.{Variable, sizes}
use Rattle.mk_states.proofs.Shares.{few_values_at, size_at}
use Rattle.mk_exact.specs.Cash.{CoversCash}
use Rattle.mk_states.specs.Events.{holds, with_target}
use Rattle.mk_exact.specs.Existing.{IsInOrder}
use Rattle.mk_exact.specs.Factors.{Fraction, HoldsNoTrade, gain, factor_with, least_gain}
use Rattle.mk_exact.specs.Factors.{IsAtLeastOne}
use Rattle.mk_exact.specs.History.{Entry, deposited, withdrawn, trades}
use Rattle.mk_exact.specs.Sound.{IsSound}
use Rattle.mk_exact.specs.Weight.{IsSmall, cannot_come, possible_states}
use Rattle.mk_exact.proofs.Coming.{never_by_least}
use Rattle.mk_exact.proofs.ExistBounds.{least_gain_at_most}
use Rattle.mk_exact.proofs.ExistMarkets.{of_least, least_where}
use Rattle.mk_cell.specs.Least.{least}
use Rattle.mk_spread.specs.Spreads.{SpreadAsked, asked_of}
use Rattle.mk_spread.specs.Told.{CoversLeast}
use Rattle.mk_spread.proofs.Left.{can_come_is, cannot_come_is, least_none}
use Rattle.mk_tree.specs.Given.{GivenTree}
use Rattle.mk_enclose.specs.declared.factor.Factor.{Factor}
use Rattle.mk_enclose.specs.Enclosure.{Encloses, IsExact, IsGradedWithin}
use Rattle.mk_enclose.specs.Factor.{StandsFor}
use Rattle.mk_engine.specs.Meaning.{Meaning, exact_belief, max_grade}
use Rattle.mk_beliefs.specs.Meanings.{weights_of, gains_of, if_present}
use Rattle.mk_beliefs.proofs.Gained.{belief_is_least, target_is_least}
use Rattle.mk_cash.specs.Factors.{HasPowersInRange}
use Rattle.mk_assets.specs.declared.assets.Assets.{Assets}
use Rattle.mk_assets.specs.Holdings.{Holding, Owns, IsLeastFactor, max_bits}
use Rattle.mk_answers.specs.Open.{IsOpen, CanBeAnswered, CanBeSpreadHere, IsFactorFor, holding_of}
use Rattle.mk_answers.specs.Calls.{CanPrice}
use Rattle.mk_answers.specs.Telling.{CanTellPrices, CanTellPosition}
use Rattle.mk_answers.specs.inner.Found.{CanFindSure}
use Rattle.mk_answers.proofs.Least.{idle_gain, factor_for, encloses_least}
use Rattle.mk_answers.proofs.Least.{factor_in_range}
use Rattle.mk_answers.proofs.Valued.{range_more, valued_at}

-- one item more for the next number
pub zip_more : {X : Type 0} (P : ℕ → X → Type 0) (n : ℕ) (xs : List X) (x : X) →
    AllZip P (range_with_len 0 n) xs → P n x → AllZip P (range_with_len 0 (n + 1)) (xs ++ x ∷ [])
zip_more P n xs x h p =
    let on : suc n ≡ n + 1 = omega arith in
    let here : n ≡ 0 + n = omega arith in
    subst (λ k. AllZip P (range_with_len 0 k) (xs ++ x ∷ [])) on
    (range_more P n 0 xs x h (subst (λ k. P k x) here p))

-- each value of a question that can be told can be asked about
module _ (network : List Variable) (tree : GivenTree) (H : List Entry) (spread : SpreadAsked)
    (answered : CanBeSpreadHere network tree H spread) where
  in_order_at : (k : ℕ) → k < slice_index (sizes network) spread.variable →
      IsInOrder network H (asked_of spread k)
  in_order_at k within =
      let ordered = answered.in_order in
      record {
        in_range = record {
          target = record { variable = ordered.in_range.variable; value = within };
          condition = ordered.in_range.condition;
        };
        apart = ordered.apart;
        target_apart = ordered.variable_apart;
        unresolved = ordered.unresolved;
      }

  pub answered_at : (k : ℕ) → k < slice_index (sizes network) spread.variable →
      CanBeAnswered network tree H (asked_of spread k)
  answered_at k within = record {
    in_order = in_order_at k within;
    agrees = answered.agrees;
    home = answered.home k;
  }

-- ---- one call for each value

module _ {network : List Variable} {tree : GivenTree} {H : List Entry} {spread : SpreadAsked}
    (is_open : IsOpen network tree H) (answered : CanBeSpreadHere network tree H spread) where
  -- where as many values were told of as were gone through, there is room for one more
  pub room_for_one : (told value last : ℕ) → told ≡ value →
      last ≡ slice_index (sizes network) spread.variable → value < last → told < 16
  room_for_one told value last same all before =
      let few = few_values_at network is_open.legal spread.variable
      answered.in_order.in_range.variable in
      omega arith

  -- and where all were gone through, there was one
  pub some_told : (value : ℕ) → value ≡ slice_index (sizes network) spread.variable → 0 < value
  some_told value all =
      let v = spread.variable in let within = answered.in_order.in_range.variable in
      let two = (is_open.legal.each v nobody within).two_values in
      omega (arith, size_at network is_open.legal v within, two)

-- the price of a value can be asked of an engine that stands for what the first one does
module _ {E : Type 0} {stands_for : E → Meaning → Type 0} {first : E} {network : List Variable}
    {at : ℕ} {spread : SpreadAsked} (can : CanTellPrices stands_for first network at spread) where
  pub can_price_at : (now : E) → ((m : Meaning) → stands_for first m → stands_for now m) →
      (value last : ℕ) → last ≡ slice_index (sizes network) spread.variable → value < last →
      CanPrice stands_for now network at (asked_of spread value)
  can_price_at now kept value last all before = record {
    tree = can.tree;
    history = can.history;
    stands = kept (weights_of network can.tree can.history) can.stands;
    is_open = can.is_open;
    answered = answered_at network can.tree can.history spread can.answered value (omega arith);
    held = can.held value;
  }

-- so it is of what a user is sure of where the value comes
module _ {A P : Type 0} {owned_for : A → Meaning → Type 0} {first : Assets A P}
    {network : List Variable} {at : ℕ} {spread : SpreadAsked}
    (can : CanTellPosition owned_for first network at spread) where
  pub can_find_sure_at : (now : Assets A P) →
      ((h : Holding) → Owns owned_for first h → Owns owned_for now h) → (value last : ℕ) →
      last ≡ slice_index (sizes network) spread.variable → value < last →
      CanFindSure owned_for now network at (asked_of spread value)
  can_find_sure_at now kept value last all before = record {
    tree = can.tree;
    history = can.history;
    user = can.user;
    owns = kept (holding_of network can.tree can.history can.user) can.owns;
    is_open = can.is_open;
    valued = valued_at network can.tree can.history spread can.answered at value (can.held value)
        (omega arith);
  }

-- what is not some is none
pub only_none : {X : Type 0} (o : Option X) → ((x : X) → o ≡ Some x → ⊥) → o ≡ None
only_none None not_some = refl
only_none (Some x) not_some = absurd (not_some x refl)

-- where there is a price its condition can come
pub not_never : {X : Type 0} (x : X) (never : Bool) → IsNone (Some x) ↔ (never ≡ true) →
    never ≡ false
not_never x true h = absurd (let no = h.1 refl in cc)
not_never x false h = refl

-- ---- least gains

-- what a user holds no trade of is one
pub idle_least : (network : List Variable) (H : List Entry) (u : ℕ) (test : List ℕ → Bool) →
    HoldsNoTrade H u → IfSome (least_gain network H u test) (λ g. g ≡ 1)
idle_least network H u test none =
    of_least (gain H u) (λ g. g ≡ 1) (possible_states network H test)
    (each_one (possible_states network H test))
  where
    each_one : (ss : List (List ℕ)) → AllByRecursion (λ s. gain H u s ≡ 1) ss
    each_one [] = tt
    each_one (s ∷ ss) = (idle_gain H u none s, each_one ss)

-- cash by what an enclosure tells is cash by what the market tells
pub cash_for : (small idle exact one : Type 0) (near : ℕ) (q : Fraction) (b low high : ℕ) →
    (small → exact) → (idle → one) → CoversCash exact one near q b low high →
    CoversCash small idle near q b low high
cash_for small idle exact one near q b low high f g h = record {
  cash = h.cash;
  is_cash = h.is_cash;
  above = h.above;
  below = h.below;
  near = h.near;
  nearer = λ s. h.nearer (f s);
  exact = λ i. h.exact (g i);
}

module _ (network : List Variable) (tree : GivenTree) (H : List Entry) (u : ℕ)
    (is_open : IsOpen network tree H) (event : List Pair) (most : ℕ) (result : Option Factor)
    (least_is : IsLeastFactor (holding_of network tree H u)
    (exact_belief least (gains_of network tree H u) event) most result) where
  abbrev found : ℕ
  found = exact_belief least (gains_of network tree H u) event

  gained : least_gain network H u (holds event) ≡ if_present found
  gained = belief_is_least network tree H u is_open.legal is_open.proper event

  -- where nothing is found no possible state has the event
  pub none_found : result ≡ None → least_gain network H u (holds event) ≡ None
  none_found is =
      let zero_found : found ≡ 0 = (rw is at least_is.none).0 refl in
      gained ∙ ap if_present zero_found

  pub none_comes : result ≡ None → cannot_come network H (holds event) ≡ true
  none_comes is = never_by_least network H (holds event) u (none_found is)

  module _ (f : Factor) (is : result ≡ Some f) where
    some_found : (n : ℕ) → found ≡ n → least_gain network H u (holds event) ≡ Some n
    some_found zero e = absurd (let no = (rw is at least_is.none).1 e in cc)
    some_found (suc n) e = gained ∙ ap if_present e

    pub is_found : least_gain network H u (holds event) ≡ Some found
    is_found = some_found found refl

    -- and where something is, some possible state has it
    pub comes : cannot_come network H (holds event) ≡ false
    comes = at (cannot_come network H (holds event)) refl
      where
        at : (b : Bool) → cannot_come network H (holds event) ≡ b
            → cannot_come network H (holds event) ≡ false
        at false e = e
        at true e = absurd (let no = least_none (gain H u) (possible_states network H (holds event))
            (cannot_come_is network H (holds event) e) in let yes = is_found in cc)

    module _ (close : most ≤ length (gains_of network tree H u).factors + max_grade + max_values)
      where
        its : (most_trades : ℕ) → length (trades H) ≤ most_trades
            → IsFactorFor f most_trades (IsSmall network H) (factor_with H u found)
        its most_trades fit = factor_for network tree H u is_open found most result f is least_is
            close most_trades fit found refl

        pub in_range : deposited H u ≤ max_bits → withdrawn H u ≤ max_bits → (b : ℕ) →
            b ≤ max_points_per_bit → HasPowersInRange f b
        in_range = factor_in_range network tree H u is_open found most result f is least_is close
            (least_gain_at_most network H is_open.within u (holds event) found is_found)

        safe : IsSound network H → IsAtLeastOne (factor_with H u found)
        safe sound =
            let least = least_where network H u (holds event)
            (can_come_is network H (holds event) comes) in
            let same : found ≡ least.0 = (let e = is_found in let d = least.1 in cc) in
            subst (λ (g : ℕ). IsAtLeastOne (factor_with H u g)) (sym same)
            (least.2 sound).at_least_one

        one : HoldsNoTrade H u → Encloses f.gain 1
        one none =
            let e : found ≡ 1 = subst (λ (o : Option ℕ). IfSome o (λ g. g ≡ 1)) is_found
            (idle_least network H u (holds event) none) in
            encloses_least network tree H u is_open found most result f is least_is close 1 e

        -- its cash is what the user is sure of
        pub sure : (most_trades : ℕ) → length (trades H) ≤ most_trades → IsSound network H →
            (b low high : ℕ) →
            ((q : Fraction) (most_trades : ℕ) → StandsFor f q.num q.den
            → IsGradedWithin f.gain (grade_room most_trades) → IsAtLeastOne q →
            CoversCash (IsExact f.gain) (Encloses f.gain 1) (sharpness most_trades) q b low high) →
            CoversLeast network H most_trades u b (holds event) (low, high)
        sure most_trades fit sound b low high covers =
            let its_own = its most_trades fit in
            rw is_found
            (cash_for (IsSmall network H) (HoldsNoTrade H u) (IsExact f.gain) (Encloses f.gain 1)
            (sharpness most_trades) (factor_with H u found) b low high its_own.exact one
            (covers (factor_with H u found) most_trades its_own.stands its_own.graded (safe sound)))

-- an event of a question's condition and target is that its target comes
pub sure_asked : (network : List Variable) (H : List Entry) (most_trades u b : ℕ) (asked : Asked)
    (event : List Pair)
    (ends : ℕ × ℕ) → event ≡ pairs_asked asked →
    CoversLeast network H most_trades u b (holds event) ends →
    CoversLeast network H most_trades u b (with_target asked) ends
sure_asked network H most_trades u b asked event ends e h =
    rw (← target_is_least network H u asked) (rw e at h)

pub none_asked : (network : List Variable) (H : List Entry) (u : ℕ) (asked : Asked)
    (event : List Pair) →
    event ≡ pairs_asked asked → least_gain network H u (holds event) ≡ None →
    least_gain network H u (with_target asked) ≡ None
none_asked network H u asked event e h =
    sym (target_is_least network H u asked)
    ∙ ap (λ (ps : List Pair). least_gain network H u (holds ps)) (sym e) ∙ h
