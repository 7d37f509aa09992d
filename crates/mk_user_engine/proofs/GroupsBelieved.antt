-- A belief, from what several groups have.
use Rattle.std.proofs.Common.{◌≡◌, ◌≢◌, ℕ, ◌+◌, ◌*◌, ◌^◌, ◌<◌, ◌≤◌, Bool, true, false, cond, not}
use Rattle.std.proofs.Common.{◌||◌, ◌⊎◌, inl, inr, eqb}
use Rattle.std.proofs.Common.{List, [], ◌∷◌, ◌++◌, All, length, slice_index_or}
use Rattle.std.proofs.Common.{refl, sym, ap, subst, ◌∙◌, arith, ne_eqb}
use Rattle.std.specs.List.{AllByRecursion, list_all, Contains}
use Rattle.std.proofs.Math.Nat.{le_of_mul-le-mul_right, one-le-pow}
use Rattle.std.proofs.lemmas.Bool.{cases_Bool, false_from_ne_true, both_ways, eqb-true, and_parts}
use Rattle.std.proofs.lemmas.List.Folds.{list_all_at}
use Rattle.std.proofs.lemmas.List.Sums.{sum_by-cons}
use Rattle.std.proofs.lemmas.List.Elements.{recursion_from_All, All-from_recursion}
use Rattle.std.proofs.lemmas.List.Elements.{All-weaker, All-contains}
use Rattle.mk_net.specs.declared.words.Pair.{Pair}
use Rattle.mk_net.specs.Bounds.{number_limit}
use Rattle.mk_net.specs.Events.{AreApart}
use Rattle.mk_net.specs.Network.{sizes}
use Rattle.mk_states.specs.States.{product_by}
use Rattle.mk_sums.specs.There.{holds_there}
use Rattle.mk_cell.specs.Cell.{StandsAt, IsOwnAt}
use Rattle.mk_cell.specs.Least.{least}
use Rattle.mk_cell.specs.inner.Laws.{stands_with_more}
use Rattle.mk_semiring.specs.declared.held.Held.{Held}
use Rattle.mk_semiring.specs.Held.{HeldEncloses, HasHeldGrade, IsHeldExact}
use Rattle.mk_semiring.specs.Least.{least_lawful}
use Rattle.mk_table.specs.Tables.{contradicts}
use Rattle.mk_table.proofs.Owned.{own_more}
use Rattle.mk_engine.specs.Meaning.{Meaning, Factor, RatioOf, is_ratio, exact_belief}
use Rattle.mk_engine.specs.Meaning.{whole_sum, tree_grade, ArePairsOf}
use Rattle.mk_engine.specs.Beliefs.{IsBelief}
use Rattle.mk_engine.specs.Apart.{IsApart, HasCondition, without_ratios}
use Rattle.mk_engine.proofs.Apart.{apart_at_most, ratio_count}
use Rattle.mk_net.specs.Network.{Variable}
use Rattle.mk_tree.specs.Given.{GivenTree, home}
use Rattle.mk_net.specs.Asked.{ratio_pairs}
use Rattle.mk_states.specs.OfNetwork.{IsRatioOf}
use Rattle.std.specs.Prelude.{Some}
use Rattle.mk_user_engine.specs.declared.group.Group.{Group}
use Rattle.mk_user_engine.specs.declared.groups.Groups.{Groups}
use Rattle.mk_user_engine.specs.declared.kept.KeptLeast.{KeptLeast}
use Rattle.mk_user_engine.specs.declared.names.Named.{Named}
use Rattle.mk_user_engine.specs.declared.narrow.PlacedRatio.{PlacedRatio}
use Rattle.mk_user_engine.specs.Names.{is_named, value_in, agrees, IsSized}
use Rattle.mk_user_engine.specs.Narrow.{ratio_in, factors_of, is_met, IsListed}
use Rattle.mk_user_engine.specs.Grouped.{names, IsGathered}
use Rattle.mk_user_engine.specs.GroupedNarrow.{AreGrouped, IsGroupedRatio}
use Rattle.mk_user_engine.specs.GroupProducts.{named_by, AreListedBy}
use Rattle.mk_user_engine.specs.Shared.{ratios_of}
use Rattle.mk_user_engine.specs.LeastShared.{least_in}
use Rattle.mk_user_engine.specs.GroupBelief.{HasLeastOver, MeetsOne, trades_of}
use Rattle.mk_user_engine.proofs.BeliefSharing.{belief_shared}
use Rattle.mk_user_engine.proofs.Believing as narrow
use Rattle.mk_user_engine.proofs.Coded.{value_below}
use Rattle.mk_user_engine.proofs.Counting.{counts}
use Rattle.mk_user_engine.proofs.GroupLeast.{agrees_both}
use Rattle.mk_user_engine.proofs.Joining.{names_at}

-- a ratio in its home, whose variables a list names
record IsPlacedRatio (network : List Variable) (tree : GivenTree) (names : List Named)
    (placed : PlacedRatio) : Type 0 where
  home_is : home tree (ratio_pairs (ratio_in placed)) ≡ Some placed.home
  of_network : IsRatioOf network (ratio_in placed)
  variable_named : is_named names (ratio_in placed).variable ≡ true
  condition_named : All (λ (p : Pair). is_named names p.variable ≡ true)
      (ratio_in placed).condition

-- the pairs of a list that all hold
each_passes : {X : Type 0} (p : X → Bool) (xs : List X) → list_all p xs ≡ true
    → AllByRecursion (λ x. p x ≡ true) xs
each_passes p [] h = tt
each_passes p (x ∷ xs) h = let parts = and_parts (p x) (list_all p xs) h
    in (parts.0, each_passes p xs parts.1)

module _ (gs : Groups) (ts : List PlacedRatio) (ks : List Pair) (homes : List ℕ) (m : Meaning)
    (is : AreGrouped gs ts ks homes m)
  where
    grouped : AllByRecursion (IsGroupedRatio m.network m.tree gs.list.items) ts
    grouped = recursion_from_All (IsGroupedRatio m.network m.tree gs.list.items) ts is.trades

    -- each trade counts in one group
    pub counted : trades_of ts gs.list.items ≡ length ts
    counted = let has = is.groups in
        counts gs.list.items ts has.apart
        (All-weaker (IsGroupedRatio m.network m.tree gs.list.items)
        (λ (t : PlacedRatio). IsGathered gs.list.items (ratio_in t)) (λ t h. h.gathered) ts
        is.trades)

    -- ---- the ratios of one group

    module _ (k : ℕ) (g : Group)
        (there : (x : ℕ) → names gs.list.items k x ≡ is_named g.names.items x)
      where
        -- are named there
        placed_in : (t : PlacedRatio) → IsGroupedRatio m.network m.tree gs.list.items t
            → is_named g.names.items (ratio_in t).variable ≡ true
            → IsPlacedRatio m.network m.tree g.names.items t
        placed_in t h e =
            let r = ratio_in t in let has = is.groups in let in_one = h.gathered in
            let here : in_one.place ≡ k = has.apart r.variable in_one.place k in_one.variable
            (there r.variable ∙ e) in
            record {
              home_is = h.home_is;
              of_network = h.of_network;
              variable_named = e;
              condition_named = λ i d l.
                  let q : Pair = slice_index_or r.condition i d in
                  sym (there q.variable) ∙ ap (λ j. names gs.list.items j q.variable) (sym here)
                  ∙ in_one.condition i d l;
            }

        -- and have their numbers of units
        listed_in : All (IsSized (sizes m.network))
            g.names.items → AreListedBy g.names.items ts
        listed_in sized =
            All-weaker (IsGroupedRatio m.network m.tree gs.list.items)
            (λ (t : PlacedRatio). is_named g.names.items (ratio_in t).variable ≡ true
            → IsListed g.names.items t)
            (λ t h e. record {
              value = λ c.
                  let p = placed_in t h e in let r = p.of_network in
                  let b = value_below (sizes m.network) g.names.items c (ratio_in t).variable sized
                  e in
                  let o = r.one_each in omega (arith, b, o);
            }) ts is.trades

        module _ (event : List Pair) (apart : IsApart m event) (c : ℕ)
            (agree : agrees g.names.items event c ≡ true)
          where
            abbrev ns : List Named
            ns = g.names.items

            fails : (t : PlacedRatio) → IsPlacedRatio m.network m.tree ns t
                → Contains (ratio_in t).condition apart.pair
                → holds_there (ratio_in t).condition (value_in ns c) ≡ false
            fails t is_placed in_condition =
                let named = All-contains (λ (p : Pair). is_named ns p.variable ≡ true)
                (ratio_in t).condition apart.pair is_placed.condition_named in_condition in
                let other_named : is_named ns apart.other.variable ≡ true =
                ap (is_named ns) apart.same_variable ∙ named in
                let passes = All-contains (λ (p : Pair). (not (is_named ns p.variable) || eqb
                (value_in ns c p.variable) p.value) ≡ true) event apart.other
                (All-from_recursion (λ (p : Pair). (not (is_named ns p.variable) || eqb
                (value_in ns c p.variable) p.value) ≡ true) event
                (each_passes (λ (p : Pair). not (is_named ns p.variable) || eqb
                (value_in ns c p.variable) p.value) event agree)) apart.in_event in
                let there : value_in ns c apart.other.variable ≡ apart.other.value =
                eqb-true (value_in ns c apart.other.variable) apart.other.value (sym (ap
                (λ b. not b || eqb (value_in ns c apart.other.variable) apart.other.value)
                other_named) ∙ passes) in
                let differs : value_in ns c apart.pair.variable ≢ apart.pair.value =
                λ e. apart.another_value (sym there ∙ ap (value_in ns c) apart.same_variable ∙ e) in
                list_all_at (λ (q : Pair). eqb (value_in ns c q.variable) q.value)
                (ratio_in t).condition in_condition.0 apart.pair in_condition.1
                (ap (λ (q : Pair). eqb (value_in ns c q.variable) q.value) in_condition.2
                ∙ ne_eqb (value_in ns c apart.pair.variable) apart.pair.value differs)

            -- no condition holds where a cell agrees with the event
            none_met : (rs : List PlacedRatio)
                → AllByRecursion (IsGroupedRatio m.network m.tree gs.list.items) rs
                → AllByRecursion (HasCondition apart.pair) (factors_of rs)
                → is_met (named_by ns rs) (value_in ns c) ≡ false
            none_met [] h l = refl
            none_met (t ∷ rs) h l =
                at (cases_Bool (is_named ns (ratio_in t).variable)) (none_met rs h.1 l.1) h.0 l.0
              where
                at : ((is_named ns (ratio_in t).variable ≡ true)
                    ⊎ (is_named ns (ratio_in t).variable ≡ false))
                    → is_met (named_by ns rs) (value_in ns c) ≡ false
                    → IsGroupedRatio m.network m.tree gs.list.items t
                    → Contains (ratio_in t).condition apart.pair
                    → is_met (named_by ns (t ∷ rs)) (value_in ns c) ≡ false
                at (inl e) rest one in_it =
                    ap (λ b. is_met (cond b (t ∷ named_by ns rs) (named_by ns rs))
                    (value_in ns c)) e
                    ∙ ap (λ b. b || is_met (named_by ns rs) (value_in ns c))
                    (fails t (placed_in t one e) in_it) ∙ rest
                at (inr e) rest one in_it =
                    ap (λ b. is_met (cond b (t ∷ named_by ns rs) (named_by ns rs))
                    (value_in ns c)) e
                    ∙ rest

            unmet : is_met (ratios_of ts g) (value_in ns c) ≡ false
            unmet = none_met ts grouped (recursion_from_All
                (HasCondition apart.pair) (factors_of ts)
                (subst (λ (fs : List Factor). All (HasCondition apart.pair) fs) is.factors_are
                apart.in_each))

    -- the trades of each group have their numbers of units
    pub listed_each : All (λ (g : Group). AreListedBy g.names.items ts) gs.list.items
    listed_each = λ k d l.
        let has = is.groups in let each = has.each k d l in
        listed_in k (slice_index_or gs.list.items k d) (λ x. names_at gs.list.items k d x l)
        each.sized

    -- where an event is apart no condition is met
    pub none_meets : (event : List Pair) → IsApart m event
        → MeetsOne ts (ks ++ event) gs.list.items → ⊥
    none_meets event apart h =
        let g = h.0 in let place = h.1 in
        let parts = and_parts (agrees g.names.items ks h.2) (agrees g.names.items event h.2)
        (sym (agrees_both g.names.items ks event h.2) ∙ h.3) in
        let none = unmet place.0 g (λ x. names_at gs.list.items place.0 g x place.1
        ∙ ap (λ (o : Group). is_named o.names.items x) place.2) event apart h.2 parts.1 in
        both_ways (is_met (ratios_of ts g) (value_in g.names.items h.2)) none h.4

    -- ---- the exact belief, and the sum of all

    all_ratios : (rs : List PlacedRatio) → ratio_count (factors_of rs) ≡ length rs
    all_ratios [] = refl
    all_ratios (t ∷ rs) =
        let e = sum_by-cons (λ (g : Factor). cond (is_ratio g) 1 0) (RatioOf (ratio_in t))
        (factors_of rs) in let r = all_ratios rs in omega (arith, e, r)

    -- what is left of the belief under no shift is at most the sum without the ratios
    own_at_most : (event : List Pair) → IsApart m event → (own : ℕ)
        → exact_belief least m event ≡ own * 2 ^ (40 * length ts)
        → own ≤ whole_sum (without_ratios m)
    own_at_most event apart own e =
        let l = apart_at_most least least_lawful m event apart in
        let r : ratio_count m.factors ≡ length ts = ap ratio_count is.factors_are ∙ all_ratios ts in
        let s = ap (λ k. whole_sum (without_ratios m) * 2 ^ (40 * k)) r in
        let scaled : own * 2 ^ (40 * length ts) ≤ whole_sum (without_ratios m) * 2 ^
        (40 * length ts) = omega (arith, l, s, e) in
        le_of_mul-le-mul_right scaled (one-le-pow (40 * length ts) 2 (omega arith))

    -- ---- grades

    pub grade_in_tree : (r : Held) (count : ℕ) → count ≡ length ts → HasHeldGrade r (count + 1)
        → HasHeldGrade r (tree_grade m)
    grade_in_tree r count l h = narrow.grade_in_tree gs ts ks homes m is r (count + 1)
        (omega (arith, l)) h

    -- ---- what is found for an event

    module _ (event : List Pair) (kept : KeptLeast) (count : ℕ)
        (has : HasLeastOver ts (ks ++ event) gs.list.items kept) (as_many : count ≡ length ts)
      where
        abbrev pub found : ℕ
        found = product_by (least_in ts (ks ++ event)) gs.list.items

        pub found_stands : StandsAt (40 * count) kept.least.digits kept.least.exponent found
            (3 * (count + 1))
        found_stands =
            let i : trades_of ts gs.list.items ≡ count = counted ∙ sym as_many in
            subst (λ k. StandsAt (40 * k) kept.least.digits kept.least.exponent found
            (3 * (count + 1))) i
            (stands_with_more _ _ _ _ (2 * trades_of ts gs.list.items) (3 * (count + 1))
            (omega (arith, i)) has.stands)

        pub found_own : kept.met ≡ false → IsOwnAt (40 * count) kept.least.digits
            kept.least.exponent found (3 * (count + 1))
        found_own f =
            let i : trades_of ts gs.list.items ≡ count = counted ∙ sym as_many in
            subst (λ k. IsOwnAt (40 * k) kept.least.digits kept.least.exponent found
            (3 * (count + 1))) i
            (own_more _ _ _ _ (2 * trades_of ts gs.list.items) (3 * (count + 1))
            (omega (arith, i)) (has.own f))

        pub unmet_apart : IsApart m event → kept.met ≡ false
        unmet_apart apart =
            false_from_ne_true kept.met (λ t. none_meets event apart (has.met_is t))

        module _ (own_pairs : ArePairsOf m.network event) (apart : AreApart event)
            (fits : contradicts ks event ≡ false)
          where
            found_is : exact_belief least m event ≡ found
            found_is = belief_shared gs ts ks homes m event is own_pairs apart fits

            pub is_belief : (r : Held) → HeldEncloses r found → HasHeldGrade r (count + 1)
                → (found < number_limit → IsHeldExact r)
                → IsBelief HeldEncloses HasHeldGrade IsHeldExact least m event r
            is_belief r value grade exact =
                narrow.belief_of gs ts ks homes m is event r (count + 1) found
                (omega (arith, as_many)) (sym found_is) value grade exact

            pub own_few : IsApart m event → (own : ℕ) → found ≡ own * 2 ^ (40 * count)
                → own ≤ whole_sum (without_ratios m)
            own_few a own scaled = own_at_most event a own (found_is ∙ scaled
                ∙ ap (λ k. own * 2 ^ (40 * k)) as_many)

-- ---- as the code reads the lists

pub not_met : (b : Bool) → not b ≡ true → b ≡ false
not_met true e = absurd (cc)
not_met false e = refl

-- what is found is of the lists as they are
pub found_of : (gs ls : List Group) (ts : List PlacedRatio) (ks event es : List Pair)
    (kept : KeptLeast) → ls ≡ gs → es ≡ event → HasLeastOver ts (ks ++ es) ls kept
    → HasLeastOver ts (ks ++ event) gs kept
found_of gs ls ts ks event es kept e f h =
    subst (λ (ps : List Pair). HasLeastOver ts (ks ++ ps) gs kept) f
    (subst (λ (hs : List Group). HasLeastOver ts (ks ++ es) hs kept) e h)
