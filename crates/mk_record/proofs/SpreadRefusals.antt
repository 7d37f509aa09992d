-- What a question about a whole distribution and an edit of one are refused for, and what is known where they are not.
use Rattle.std.proofs.Common.{◌≡◌, ℕ, ◌+◌, ◌*◌, ◌<◌, ◌≤◌, ◌&&◌, ◌||◌, Bool, true, false, cond, not, leb, ltb, List, [], ◌∷◌, ◌++◌, length, sum, map, drop, get_or, slice_index, Option, Some, None, IfNone, is_none, refl, sym, ap, ap₂, subst, ◌∙◌, ◌⊎◌, inl, inr, arith, le-leb}
use Rattle.std.specs.Prelude.{◌==◌, ◌-◌, ◌^◌, find, option_map, option_and_then, is_some, position}
use Rattle.std.proofs.Math.Path.{fun_ext}
use Rattle.std.proofs.lemmas.Bool.{cases_lt, lt-ltb, le-ltb, lt-leb}
use Rattle.std.proofs.lemmas.List.{at_drop_more, at_drop_all}
use Rattle.std.proofs.lemmas.List.Elements.{All-from_recursion}
use Rattle.std.proofs.lemmas.List.Sums.{sum_by-le}
use Rattle.arrayvec.specs.ArrayVec.{ArrayVec}
use Rattle.mk_net.specs.declared.words.Pair.{Pair}
use Rattle.mk_net.specs.declared.words.PairText.{PairText}
use Rattle.mk_net.specs.Bounds.{million, max_values}
use Rattle.mk_net.specs.Events.{speaks_of, AreApart, pairs_asked}
use Rattle.mk_net.specs.Firsts.{fault_if, or_else, first_of}
use Rattle.mk_net.specs.Network.{Variable, sizes}
use Rattle.mk_net.specs.Named.{variable_named}
use Rattle.mk_sets.specs.Sets.{VarSet, is_member}
use Rattle.mk_net.proofs.Networks.{size_at}
use Rattle.mk_exact.specs.History.{Entry, trades}
use Rattle.mk_states.proofs.Sums.{each_weaker}
use Rattle.mk_spread.specs.Spreads.{SpreadAsked, asked_of}
use Rattle.mk_tree.specs.Given.{GivenTree, home, holds_event}
use Rattle.mk_tree.specs.Held.{IsHeldAt}
use Rattle.mk_tree.proofs.Held.{home_is_held}
use Rattle.mk_file.specs.declared.market_file.MarketFile.{MarketFile}
use Rattle.mk_file.specs.MarketOf.{market_of}
use Rattle.mk_command.specs.declared.command.Command.TheVariants.{Bounds, Spread, Prices}
use Rattle.mk_reply.specs.declared.refusal.Refusal.{Refusal}
use Rattle.mk_reply.specs.declared.refusal.Refusal.TheVariants.{NoVariable, Twice, Wide, Range, Numbers}
use Rattle.mk_rules.specs.Refusals.{names_in, known_pairs, spread_named, settled, no_user, no_variable, unknown, twice, stale, resolved, impossible, wide, wide_spread, numbers, ranges, sums, full, passes, least_share, refusals_by_record}
use Rattle.mk_rules.proofs.Unrefused.{not_faulted, condition_agrees}
use Rattle.mk_rules.proofs.Spreads.{spread_parts, spread_is, numbers_in_range}
use Rattle.mk_record.specs.Refused.{IsSpreadQuestionFor}
use Rattle.mk_record.specs.inner.Gathered.{IsGathered}
use Rattle.mk_record.proofs.KnownVariables.{variable_of_number}
use Rattle.mk_record.proofs.Gathering.{speaks_more}
use Rattle.mk_record.proofs.Refusing.{applies, passed, first_of_one, wide_is, has_home}

-- ---- the first of several refusals

-- one of the front that applies is the first
pub front_applies : {F : Type 0} (front later : List (Option F)) (why : F) → Some why ≡ first_of front → Some why ≡ first_of (front ++ later)
front_applies [] later why h = cc
front_applies (None ∷ front) later why h = front_applies front later why h
front_applies (Some x ∷ front) later why h = h

pub front_passed : {F : Type 0} (front later : List (Option F)) (found : Option F) → None ≡ first_of front → found ≡ first_of later → found ≡ first_of (front ++ later)
front_passed [] later found e h = h
front_passed (None ∷ front) later found e h = front_passed front later found e h
front_passed (Some x ∷ front) later found e h = cc

pub first_of_three : {F : Type 0} (a b c : Option F) → or_else a (or_else b c) ≡ first_of (a ∷ b ∷ c ∷ [])
first_of_three None None c = first_of_one c
first_of_three None (Some x) c = refl
first_of_three (Some x) b c = refl

-- ---- what is asked

-- what is refused once the variable and the pairs of the condition are known
pub spread_refused_for : (network : List Variable) (name : List ℕ) (number : ℕ) (v : Variable) (ps : List PairText) (condition : List Pair) (repeated : Option (List ℕ))
    → variable_named network name ≡ Some (number, v) → None ≡ unknown network ps → IsGathered network ps condition repeated
    → or_else (no_variable network name) (or_else (unknown network ps) (twice (name ∷ names_in ps))) ≡ option_map Twice (cond (speaks_of condition number) (Some name) repeated)
spread_refused_for network name number v ps condition repeated named known g =
    ap (λ (o : Option (ℕ × Variable)). or_else (fault_if (is_none o) (NoVariable name)) (or_else (unknown network ps) (twice (name ∷ names_in ps)))) named
    ∙ ap (λ (o : Option Refusal). or_else o (twice (name ∷ names_in ps))) (sym known)
    ∙ ap (option_map Twice) (g.first name number v named)

-- a pair that is not known is refused behind a variable that is
pub refused_by_pairs : (network : List Variable) (name : List ℕ) (number : ℕ) (v : Variable) (ps : List PairText) (why : Refusal) → variable_named network name ≡ Some (number, v)
    → Some why ≡ unknown network ps → Some why ≡ or_else (no_variable network name) (or_else (unknown network ps) (twice (name ∷ names_in ps)))
refused_by_pairs network name number v ps why named h =
    ap (λ (o : Option Refusal). or_else o (twice (name ∷ names_in ps))) h
    ∙ ap (λ (o : Option (ℕ × Variable)). or_else (fault_if (is_none o) (NoVariable name)) (or_else (unknown network ps) (twice (name ∷ names_in ps)))) (sym named)

pub spread_is_named : (network : List Variable) (name : List ℕ) (number : ℕ) (v : Variable) (ps : List PairText) (condition : List Pair) (repeated : Option (List ℕ)) (spread : SpreadAsked)
    → variable_named network name ≡ Some (number, v) → IsGathered network ps condition repeated → repeated ≡ None → spread ≡ record { variable = number; condition = condition }
    → spread_named network name ps ≡ Some spread
spread_is_named network name number v ps condition repeated spread named g none is =
    rw is (ap (option_map (λ (numbered : ℕ × Variable). record { variable = numbered.0; condition = known_pairs network ps })) named
    ∙ ap (λ (pairs : List Pair). Some (record { variable = number; condition = pairs })) (sym (subst (λ (o : Option (List ℕ)). IfNone o (condition ≡ known_pairs network ps)) none g.whole)))

-- ---- what can be answered

-- the front of pairs that give no variable twice
pub front_apart : (ps : List Pair) (y : Pair) → AreApart (ps ++ y ∷ []) → AreApart ps
front_apart [] y h = tt
front_apart (p ∷ ps) y h = (first (speaks_of ps p.variable) (p.variable == y.variable) (sym (speaks_more ps y p.variable) ∙ h.0), front_apart ps y h.1)
  where
    first : (a b : Bool) → (a || b) ≡ false → a ≡ false
    first true b h = cc
    first false b h = refl

-- homes depend on the variables of pairs alone
same_holds : (set : VarSet) (condition : List Pair) (a b : Pair) → a.variable ≡ b.variable → holds_event (condition ++ a ∷ []) set ≡ holds_event (condition ++ b ∷ []) set
same_holds set [] a b same = ap (λ (v : ℕ). is_member set v && true) same
same_holds set (p ∷ condition) a b same = ap (λ (rest : Bool). is_member set p.variable && rest) (same_holds set condition a b same)

each_home : (tree : GivenTree) (condition : List Pair) (a b : Pair) → a.variable ≡ b.variable → home tree (condition ++ a ∷ []) ≡ home tree (condition ++ b ∷ [])
each_home tree condition a b same = ap (λ (test : VarSet → Bool). option_map (λ (k : ℕ). k + 1) (position test tree.cliques)) (fun_ext (λ set. same_holds set condition a b same))

-- the home of the first value holds each
pub value_is_held : (tree : GivenTree) (at : ℕ) (spread : SpreadAsked) (value : ℕ)
    → home tree (pairs_asked (asked_of spread 0)) ≡ Some at
    → IsHeldAt tree at (pairs_asked (asked_of spread value))
value_is_held tree at spread value at_home = home_is_held tree at _
    (each_home tree spread.condition _ _ refl ∙ at_home)

-- a distribution is wide exactly where its variable's first value has no home
pub spread_is_homeless : (file : MarketFile) (H : List Entry) (v : List ℕ) (ps : List PairText) (spread : SpreadAsked) → spread_named file.net v ps ≡ Some spread
    → wide_spread (market_of file) H v ps ≡ fault_if (is_none (home file.tree (pairs_asked (asked_of spread 0)))) Wide
spread_is_homeless file H v ps spread named =
    let fits = spread_is file.net v ps spread named in
    ap (option_and_then (λ (s : SpreadAsked). wide (market_of file).cliques (s.variable ∷ map (λ (p : Pair). p.variable) s.condition))) named
    ∙ ap (λ (b : Bool). fault_if b Wide) (wide_is file.net spread.condition (record { variable = spread.variable; value = 0 }) fits.variable fits.condition file.tree)

-- a distribution that none of its refusals meets can be answered
pub can_answer_spread : (file : MarketFile) (H : List Entry) (v : List ℕ) (ps : List PairText) (spread : SpreadAsked) → spread_named file.net v ps ≡ Some spread → AreApart spread.condition
    → speaks_of spread.condition spread.variable ≡ false → resolved file.net H v ≡ None
    → impossible file.net H ps ≡ None
    → fault_if (is_none (home file.tree (pairs_asked (asked_of spread 0)))) Wide ≡ None → IsSpreadQuestionFor (market_of file) file.tree H v ps spread
can_answer_spread file H v ps spread named apart variable_apart free agreed held =
    let parts = spread_parts file.net v ps spread named in
    record {
      named = named;
      answered = record {
        in_order = record {
          in_range = spread_is file.net v ps spread named;
          apart = apart;
          variable_apart = variable_apart;
          unresolved = rw parts.1 at (not_faulted _ _ free);
        };
        agrees = rw parts.2 (condition_agrees file.net H ps agreed);
        home = λ value. ap is_some (each_home file.tree spread.condition _ _ refl) ∙ has_home (home file.tree (pairs_asked (asked_of spread 0))) held;
      };
    }

-- ---- the shares of a distribution

-- as many shares as values
pub numbers_are : (network : List Variable) (name : List ℕ) (k : ℕ) (v : Variable) (to : List ℕ) (size : ℕ) → variable_named network name ≡ Some (k, v) → k < length network
    → size ≡ slice_index (sizes network) k → fault_if (not (length to == size)) (Numbers (length to)) ≡ numbers network name to
numbers_are network name k v to size named inside sized =
    ap (λ (n : ℕ). fault_if (not (length to == n)) (Numbers (length to))) (sized ∙ size_at network k inside ∙ ap (λ (x : Variable). length x.values) (sym (variable_of_number network name k v named)))
    ∙ ap (λ (o : Option (ℕ × Variable)). fault_if (passes (λ (numbered : ℕ × Variable). not (length to == length (numbered.1).values)) o) (Numbers (length to))) (sym named)

-- a share is not from a least to a most
abbrev pub is_beyond : ℕ → ℕ → ℕ → Bool
is_beyond least most n = not (leb least n && leb n most)

-- the first share that is not in range
range_passed : (least most n : ℕ) (rest : List ℕ) → None ≡ fault_if (is_beyond least most n) (Range n) → ranges least most (n ∷ rest) ≡ ranges least most rest
range_passed least most n rest h = at (is_beyond least most n) h
  where
    at : (b : Bool) → None ≡ fault_if b (Range n) → option_map Range (cond b (Some n) (find (is_beyond least most) rest)) ≡ ranges least most rest
    at true h = cc
    at false h = refl

range_failed : (least most n : ℕ) (rest : List ℕ) (why : Refusal) → Some why ≡ fault_if (is_beyond least most n) (Range n) → Some why ≡ ranges least most (n ∷ rest)
range_failed least most n rest why h = at (is_beyond least most n) h
  where
    at : (b : Bool) → Some why ≡ fault_if b (Range n) → Some why ≡ option_map Range (cond b (Some n) (find (is_beyond least most) rest))
    at true h = h
    at false h = cc

module _ (least most : ℕ) (xs : List ℕ) (k : ℕ) (within : k < length xs) (so_far : ranges least most (drop k xs) ≡ ranges least most xs) where
  here : ranges least most (get_or xs k 0 ∷ drop (k + 1) xs) ≡ ranges least most xs
  here = sym (at_drop_more (ranges least most) xs k 0 within) ∙ so_far

  pub ranges_passed : None ≡ fault_if (is_beyond least most (get_or xs k 0)) (Range (get_or xs k 0)) → ranges least most (drop (k + 1) xs) ≡ ranges least most xs
  ranges_passed h = sym (range_passed least most (get_or xs k 0) (drop (k + 1) xs) h) ∙ here

  pub ranges_failed : (why : Refusal) → Some why ≡ fault_if (is_beyond least most (get_or xs k 0)) (Range (get_or xs k 0)) → Some why ≡ ranges least most xs
  ranges_failed why h = range_failed least most (get_or xs k 0) (drop (k + 1) xs) why h ∙ here

pub ranges_ended : (least most : ℕ) (xs : List ℕ) (k : ℕ) → length xs ≤ k → ranges least most (drop k xs) ≡ ranges least most xs → None ≡ ranges least most xs
ranges_ended least most xs k h so_far = sym (at_drop_all (ranges least most) xs k h) ∙ so_far

-- a number below the least is such a share, and another one is where it is above the most
pub below_least : (least most n : ℕ) → n < least → ltb n least ≡ is_beyond least most n
below_least least most n p = lt-ltb n least p ∙ ap (λ (b : Bool). not (b && leb n most)) (sym (lt-leb least n p))

pub from_least : (least most n : ℕ) → least ≤ n → ltb most n ≡ is_beyond least most n
from_least least most n p = at (cases_lt most n) ∙ ap (λ (b : Bool). not (b && leb n most)) (sym (le-leb least n p))
  where
    at : (most < n) ⊎ (n ≤ most) → ltb most n ≡ not (leb n most)
    at (inl q) = lt-ltb most n q ∙ ap not (sym (lt-leb n most q))
    at (inr q) = le-ltb most n q ∙ ap not (sym (le-leb n most q))

-- shares that are in range have a sum that fits
pub sum_fits : (least : ℕ) (to : List ℕ) → length to ≤ max_values → None ≡ ranges least (million - 1) to → sum to < 2 ^ 32
sum_fits least to few h =
    let below : sum to ≤ length to * 999999 = sum_by-le (λ n. n) 999999 to
    (All-from_recursion (λ n. n ≤ 999999) to (each_weaker (λ n. (least ≤ n) × (n ≤ 999999)) (λ n. n ≤ 999999) (λ n e. e.1) to (numbers_in_range least 999999 to (sym h)))) in
    omega (arith, below, few)

-- ---- the refusals of a question, one step after the other

module _ (file : MarketFile) (H : List Entry) (v : List ℕ) (ps : List PairText) where
  -- what words are refused for, and what a question is that is asked by them
  abbrev asking : List (Option Refusal)
  asking = no_variable file.net v ∷ unknown file.net ps ∷ twice (v ∷ names_in ps) ∷ []

  asking_is : or_else (no_variable file.net v) (or_else (unknown file.net ps) (twice (v ∷ names_in ps))) ≡ first_of asking
  asking_is = first_of_three (no_variable file.net v) (unknown file.net ps) (twice (v ∷ names_in ps))

  abbrev answering : List (Option Refusal)
  answering = resolved file.net H v ∷ impossible file.net H ps ∷ wide_spread (market_of file) H v ps ∷ []

  pub spread_resolved : (why : Refusal) → Some why ≡ resolved file.net H v → Some why ≡ first_of answering
  spread_resolved why h = applies (resolved file.net H v) (impossible file.net H ps ∷ wide_spread (market_of file) H v ps ∷ []) why h

  pub spread_impossible : (why : Refusal) → None ≡ resolved file.net H v → Some why ≡ impossible file.net H ps → Some why ≡ first_of answering
  spread_impossible why e h =
      passed (resolved file.net H v) (impossible file.net H ps ∷ wide_spread (market_of file) H v ps ∷ []) (Some why) e
      (applies (impossible file.net H ps) (wide_spread (market_of file) H v ps ∷ []) why h)

  -- ---- the refusals of prices

  module _ (pairs : ArrayVec PairText) (given : pairs.items ≡ ps) where
    abbrev IsFirstOfPrices : Option Refusal → Type 0
    IsFirstOfPrices found = found ≡ first_of (refusals_by_record (market_of file) H
        (Prices v pairs))

    prices_are : first_of (settled H ∷ (asking ++ answering))
        ≡ first_of (refusals_by_record (market_of file) H (Prices v pairs))
    prices_are =
        ap (λ (qs : List PairText). first_of (settled H ∷ no_variable file.net v
        ∷ unknown file.net qs ∷ twice (v ∷ names_in qs) ∷ resolved file.net H v
        ∷ impossible file.net H qs ∷ wide_spread (market_of file) H v qs ∷ [])) (sym given)

    pub prices_settled : (why : Refusal) → Some why ≡ settled H → IsFirstOfPrices (Some why)
    prices_settled why h = applies _ (asking ++ answering) why h ∙ prices_are

    pub prices_unasked : (why : Refusal) → None ≡ settled H
        → Some why ≡ or_else (no_variable file.net v) (or_else (unknown file.net ps)
        (twice (v ∷ names_in ps))) → IsFirstOfPrices (Some why)
    prices_unasked why e h =
        passed _ (asking ++ answering) _ e (front_applies asking answering why (h ∙ asking_is))
        ∙ prices_are

    pub prices_answered : (found : Option Refusal) → None ≡ settled H
        → None ≡ or_else (no_variable file.net v) (or_else (unknown file.net ps)
        (twice (v ∷ names_in ps))) → found ≡ first_of answering → IsFirstOfPrices found
    prices_answered found e g h =
        passed _ (asking ++ answering) _ e (front_passed asking answering _ (g ∙ asking_is) h)
        ∙ prices_are

  module _ (u : List ℕ) (pairs : ArrayVec PairText) (given : pairs.items ≡ ps) where
    bounds_are : first_of (settled H ∷ no_user H u ∷ (asking ++ answering)) ≡ first_of (refusals_by_record (market_of file) H (Bounds u v pairs))
    bounds_are =
        ap (λ (qs : List PairText). first_of (settled H ∷ no_user H u ∷ no_variable file.net v ∷ unknown file.net qs ∷ twice (v ∷ names_in qs)
        ∷ resolved file.net H v ∷ impossible file.net H qs ∷ wide_spread (market_of file) H v qs ∷ [])) (sym given)

    pub bounds_settled : (why : Refusal) → Some why ≡ settled H → Some why ≡ first_of (refusals_by_record (market_of file) H (Bounds u v pairs))
    bounds_settled why h = applies _ (no_user H u ∷ (asking ++ answering)) why h ∙ bounds_are

    pub bounds_of_nobody : (why : Refusal) → None ≡ settled H → Some why ≡ no_user H u → Some why ≡ first_of (refusals_by_record (market_of file) H (Bounds u v pairs))
    bounds_of_nobody why e h = passed _ (no_user H u ∷ (asking ++ answering)) _ e (applies _ (asking ++ answering) why h) ∙ bounds_are

    pub bounds_unasked : (why : Refusal) → None ≡ settled H → None ≡ no_user H u
        → Some why ≡ or_else (no_variable file.net v) (or_else (unknown file.net ps) (twice (v ∷ names_in ps))) → Some why ≡ first_of (refusals_by_record (market_of file) H (Bounds u v pairs))
    bounds_unasked why e f h =
        passed _ (no_user H u ∷ (asking ++ answering)) _ e (passed _ (asking ++ answering) _ f (front_applies asking answering why (h ∙ asking_is))) ∙ bounds_are

    pub bounds_answered : (found : Option Refusal) → None ≡ settled H → None ≡ no_user H u
        → None ≡ or_else (no_variable file.net v) (or_else (unknown file.net ps) (twice (v ∷ names_in ps))) → found ≡ first_of answering
        → found ≡ first_of (refusals_by_record (market_of file) H (Bounds u v pairs))
    bounds_answered found e f g h =
        passed _ (no_user H u ∷ (asking ++ answering)) _ e (passed _ (asking ++ answering) _ f (front_passed asking answering _ (g ∙ asking_is) h)) ∙ bounds_are

    -- ---- and those of an edit

    module _ (to : List ℕ) (shares : ArrayVec ℕ) (listed : shares.items ≡ to) (seen : Option ℕ) where
      abbrev sharing : List (Option Refusal)
      sharing = numbers file.net v to ∷ ranges (least_share (market_of file)) (million - 1) to ∷ sums to ∷ []

      abbrev filling : List (Option Refusal)
      filling = full file.max_trades (length (trades H)) ∷ []

      abbrev TheFirst : Option Refusal → Type 0
      TheFirst found = found ≡ first_of (refusals_by_record (market_of file) H (Spread u v pairs shares seen))

      spread_refusals_are : first_of (settled H ∷ no_user H u ∷ (asking ++ stale H seen ∷ (answering ++ (sharing ++ filling)))) ≡ first_of (refusals_by_record (market_of file) H (Spread u v pairs shares seen))
      spread_refusals_are =
          ap₂ (λ (qs : List PairText) (Xs : List ℕ). first_of (settled H ∷ no_user H u ∷ no_variable file.net v ∷ unknown file.net qs ∷ twice (v ∷ names_in qs) ∷ stale H seen
          ∷ resolved file.net H v ∷ impossible file.net H qs ∷ wide_spread (market_of file) H v qs
          ∷ numbers file.net v Xs ∷ ranges (least_share (market_of file)) (million - 1) Xs ∷ sums Xs ∷ full file.max_trades (length (trades H)) ∷ [])) (sym given) (sym listed)

      pub spread_settled : (why : Refusal) → Some why ≡ settled H → TheFirst (Some why)
      spread_settled why h = applies _ (no_user H u ∷ (asking ++ stale H seen ∷ (answering ++ (sharing ++ filling)))) why h ∙ spread_refusals_are

      module _ (unsettled : None ≡ settled H) where
        pub spread_of_nobody : (why : Refusal) → Some why ≡ no_user H u → TheFirst (Some why)
        spread_of_nobody why h =
            passed _ (no_user H u ∷ (asking ++ stale H seen ∷ (answering ++ (sharing ++ filling)))) _ unsettled (applies _ (asking ++ stale H seen ∷ (answering ++ (sharing ++ filling))) why h)
            ∙ spread_refusals_are

        module _ (joined : None ≡ no_user H u) where
          behind_user : (found : Option Refusal) → found ≡ first_of (asking ++ stale H seen ∷ (answering ++ (sharing ++ filling))) → TheFirst found
          behind_user found h =
              passed _ (no_user H u ∷ (asking ++ stale H seen ∷ (answering ++ (sharing ++ filling)))) _ unsettled
              (passed _ (asking ++ stale H seen ∷ (answering ++ (sharing ++ filling))) _ joined h) ∙ spread_refusals_are

          pub spread_unasked : (why : Refusal) → Some why ≡ or_else (no_variable file.net v) (or_else (unknown file.net ps) (twice (v ∷ names_in ps))) → TheFirst (Some why)
          spread_unasked why h = behind_user (Some why) (front_applies asking (stale H seen ∷ (answering ++ (sharing ++ filling))) why (h ∙ asking_is))

          module _ (asked : None ≡ or_else (no_variable file.net v) (or_else (unknown file.net ps) (twice (v ∷ names_in ps)))) where
            behind_asking : (found : Option Refusal) → found ≡ first_of (stale H seen ∷ (answering ++ (sharing ++ filling))) → TheFirst found
            behind_asking found h = behind_user found (front_passed asking (stale H seen ∷ (answering ++ (sharing ++ filling))) found (asked ∙ asking_is) h)

            pub spread_stale : (why : Refusal) → Some why ≡ stale H seen → TheFirst (Some why)
            spread_stale why h = behind_asking (Some why) (applies _ (answering ++ (sharing ++ filling)) why h)

            module _ (present : None ≡ stale H seen) where
              pub spread_unanswered : (why : Refusal) → Some why ≡ first_of answering → TheFirst (Some why)
              spread_unanswered why h = behind_asking (Some why) (passed _ (answering ++ (sharing ++ filling)) _ present (front_applies answering (sharing ++ filling) why h))

              module _ (answered : None ≡ first_of answering) where
                behind_answering : (found : Option Refusal) → found ≡ first_of (sharing ++ filling) → TheFirst found
                behind_answering found h =
                    behind_asking found (passed _ (answering ++ (sharing ++ filling)) found present (front_passed answering (sharing ++ filling) found answered h))

                pub spread_unshared : (why : Refusal) → Some why ≡ first_of sharing → TheFirst (Some why)
                spread_unshared why h = behind_answering (Some why) (front_applies sharing filling why h)

                pub spread_filled : None ≡ first_of sharing → (found : Option Refusal) (most : ℕ) → found ≡ full most (length (trades H)) → most ≡ file.max_trades → TheFirst found
                spread_filled shared found most h same =
                    behind_answering found
                    (front_passed sharing filling found shared (h ∙ ap (λ (n : ℕ). full n (length (trades H))) same ∙ first_of_one (full file.max_trades (length (trades H)))))
