-- What is known of a command that meets none of its refusals.
use Rattle.std.proofs.Common.{◌≡◌, ℕ, zero, suc, ◌+◌, ◌<◌, ◌≤◌, ◌&&◌, ◌||◌, not, Bool, true, false, cond, leb, List, [], ◌∷◌, Option, Some, None, is_none, length, refl, sym, ap, ◌∙◌, subst, arith}
use Rattle.std.specs.Prelude.{◌==◌, option_map, option_and_then, find}
use Rattle.std.specs.List.{AllByRecursion, enumerate_from, list_any, position_or_len, filter_map, cons_option}
use Rattle.std.proofs.lemmas.Bool.{leb-true, and_parts, eqb-true, eq-eqb}
use Rattle.mk_net.specs.declared.words.Pair.{Pair}
use Rattle.mk_net.specs.declared.words.PairText.{PairText}
use Rattle.mk_net.specs.declared.words.QuestionText.{QuestionText}
use Rattle.mk_names.specs.Texts.{same_text}
use Rattle.mk_net.specs.Network.{Variable}
use Rattle.mk_net.specs.Named.{pair_named, variable_named, value_named}
use Rattle.mk_net.specs.Asked.{Asked}
use Rattle.mk_net.specs.Events.{speaks_of}
use Rattle.mk_net.specs.Firsts.{fault_if, first_of}
use Rattle.mk_net.proofs.Named.{pair_variable_in_range, pair_value_in_range}
use Rattle.mk_exact.specs.History.{Entry, users, resolutions}
use Rattle.mk_exact.specs.Market.{Market}
use Rattle.mk_states.specs.OfNetwork.{IsPairOf, IsQuestionOf}
use Rattle.mk_exact.specs.Laws.{AgreesWith}
use Rattle.mk_rules.specs.Refusals.{question_named, pairs_of, known_pairs, variables_in, user_number, has_joined, is_resolved, contradicts, passes, is_wide, no_user, unknown, resolved, impossible, wide_question, range, unresolved}

-- where the first of several refusals is none, none of them applies
pub none_applies : {F : Type 0} (refusals : List (Option F)) → first_of refusals ≡ None → AllByRecursion (λ o. o ≡ None) refusals
none_applies [] h = tt
none_applies (None ∷ later) h = (refl, none_applies later h)
none_applies (Some fault ∷ later) h = cc

pub not_faulted : {F : Type 0} (test : Bool) (fault : F) → fault_if test fault ≡ None → test ≡ false
not_faulted false fault h = refl
not_faulted true fault h = cc

pub not_mapped : {X Y : Type 0} (f : X → Y) (o : Option X) → option_map f o ≡ None → o ≡ None
not_mapped f None h = refl
not_mapped f (Some x) h = cc

-- a name that stands in a list has a place in it
place_of_any : {X : Type 0} (test : X → Bool) (xs : List X) → list_any test xs ≡ true → position_or_len test xs < length xs
place_of_any test [] h = absurd (cc)
place_of_any test (x ∷ xs) h = at (test x) (place_of_any test xs) h
  where
    at : (b : Bool) → (list_any test xs ≡ true → position_or_len test xs < length xs) → (b || list_any test xs) ≡ true
        → cond (not b) (1 + position_or_len test xs) 0 < length (x ∷ xs)
    at true later h = omega arith
    at false later h = let inside : position_or_len test xs < length xs = later h in omega arith

pub user_in_range : (H : List Entry) (u : List ℕ) → no_user H u ≡ None → user_number H u < length (users H)
user_in_range H u h = place_of_any (same_text u) (users H) (joined (has_joined H u) (not_faulted _ _ h))
  where
    joined : (b : Bool) → not b ≡ false → b ≡ true
    joined true h = refl
    joined false h = cc

pub number_in_range : (most n : ℕ) → range most n ≡ None → (1 ≤ n) × (n ≤ most)
number_in_range most n h = let parts = and_parts (leb 1 n) (leb n most) (within (leb 1 n && leb n most) (not_faulted _ _ h)) in (leb-true 1 n parts.0, leb-true n most parts.1)
  where
    within : (b : Bool) → not b ≡ false → b ≡ true
    within true h = refl
    within false h = cc

-- words that name a pair
IsKnown : List Variable → PairText → Type 0
IsKnown network p = (pair : Pair) × (pair_named network p ≡ Some pair) × IsPairOf network pair

known : (network : List Variable) (p : PairText) (o : Option Pair) → pair_named network p ≡ o → is_none o ≡ false → IsKnown network p
unfolding IsKnown
known network p None e h = absurd (cc)
known network p (Some pair) e h = (pair, e, record { variable = pair_variable_in_range network p pair (sym e); value = pair_value_in_range network p pair (sym e) })

each_known : (network : List Variable) (ps : List PairText) → find (λ p. is_none (pair_named network p)) ps ≡ None → AllByRecursion (IsKnown network) ps
each_known network [] h = tt
each_known network (p ∷ ps) h = at (is_none (pair_named network p)) refl (each_known network ps) h
  where
    at : (b : Bool) → is_none (pair_named network p) ≡ b → (find (λ p. is_none (pair_named network p)) ps ≡ None → AllByRecursion (IsKnown network) ps)
        → cond b (Some p) (find (λ p. is_none (pair_named network p)) ps) ≡ None → AllByRecursion (IsKnown network) (p ∷ ps)
    at true e later h = cc
    at false e later h = (known network p (pair_named network p) refl e, later h)

condition_fits : (network : List Variable) (ps : List PairText) → AllByRecursion (IsKnown network) ps → AllByRecursion (IsPairOf network) (filter_map (pair_named network) ps)
unfolding IsKnown
condition_fits network [] h = tt
condition_fits network (p ∷ ps) h = rw (h.0.1) (h.0.2, condition_fits network ps h.1)

-- a resolved pair that is known
pub pair_known : (network : List Variable) (p : PairText) → unknown network (p ∷ []) ≡ None → (pair : Pair) × (pair_named network p ≡ Some pair) × IsPairOf network pair
unfolding IsKnown
pair_known network p h = (each_known network (p ∷ []) (not_mapped _ _ h)).0

-- a question whose pairs are known
pub question_known : (network : List Variable) (q : QuestionText) (asked : Asked) → unknown network (pairs_of q) ≡ None → question_named network q ≡ Some asked → IsQuestionOf network asked
unfolding IsKnown
question_known network q asked h e =
    let each : AllByRecursion (IsKnown network) (pairs_of q) = each_known network (pairs_of q) (not_mapped _ _ h) in
    let condition : List Pair = filter_map (pair_named network) q.condition.items in
    let is : asked ≡ record { target = each.0.0; condition = condition } = the_value (sym e ∙ ap (option_map (λ (t : Pair). record { target = t; condition = condition })) each.0.1) in
    rw is (record { target = each.0.2; condition = condition_fits network q.condition.items each.1 })
  where
    the_value : {a b : Asked} → Some a ≡ Some b → a ≡ b
    the_value h = cc

-- the variable of a pair that is known
pub variable_known : (network : List Variable) (p : PairText) (pair : Pair) → pair_named network p ≡ Some pair → (v : Variable) × (variable_named network p.variable ≡ Some (pair.variable, v))
variable_known network p pair h = at (variable_named network p.variable) refl h
  where
    place : (k : ℕ) (o : Option ℕ) → option_map (λ (x : ℕ). record { variable = k; value = x }) o ≡ Some pair → k ≡ pair.variable
    place k None h = cc
    place k (Some x) h = ap (λ (o : Option Pair). elim o [ None ↦ k | Some t ↦ t.variable ]) h

    at : (o : Option (ℕ × Variable)) → variable_named network p.variable ≡ o → option_and_then (value_named p.value) o ≡ Some pair
        → (v : Variable) × (variable_named network p.variable ≡ Some (pair.variable, v))
    at None e h = cc
    at (Some (k, v)) e h = (v, e ∙ ap (λ (n : ℕ). Some (n, v)) (place k _ h))

pub not_resolved : (network : List Variable) (H : List Entry) (p : PairText) (pair : Pair) → pair_named network p ≡ Some pair → resolved network H p.variable ≡ None
    → speaks_of (resolutions H) pair.variable ≡ false
not_resolved network H p pair named h =
    let known = variable_known network p pair named in
    rw known.1 at (not_faulted _ _ h)

-- the target of a question
pub target_named : (network : List Variable) (q : QuestionText) (asked : Asked) → question_named network q ≡ Some asked
    → (pair_named network q.target ≡ Some asked.target) × (asked.condition ≡ known_pairs network q.condition.items)
target_named network q asked h = at (pair_named network q.target) refl h
  where
    at : (o : Option Pair) → pair_named network q.target ≡ o → option_map (λ (t : Pair). record { target = t; condition = known_pairs network q.condition.items }) o ≡ Some asked
        → (pair_named network q.target ≡ Some asked.target) × (asked.condition ≡ known_pairs network q.condition.items)
    at None e h = cc
    at (Some t) e h = let same : record { target = t; condition = known_pairs network q.condition.items } ≡ asked = cc in (e ∙ ap (λ (a : Asked). Some a.target) same, ap (λ (a : Asked). a.condition) (sym same))

-- a question that is not wide
pub not_wide : (market : Market) (H : List Entry) (q : QuestionText) (asked : Asked) → question_named market.network q ≡ Some asked → wide_question market H q ≡ None
    → is_wide market.cliques (asked.target.variable ∷ variables_in asked.condition) ≡ false
not_wide market H q asked named h =
    let parts = target_named market.network q asked named in
    ap (λ (ps : List Pair). is_wide market.cliques (asked.target.variable ∷ variables_in ps)) parts.1
    ∙ ap (λ (o : Option Pair). is_wide market.cliques (variables_in (cons_option o (known_pairs market.network q.condition.items)))) (sym parts.0)
    ∙ not_faulted _ _ h

-- a question whose pairs are known is one of the network
pub question_exists : (network : List Variable) (q : QuestionText) → unknown network (pairs_of q) ≡ None → (asked : Asked) × (question_named network q ≡ Some asked)
unfolding IsKnown
question_exists network q h =
    let each : AllByRecursion (IsKnown network) (pairs_of q) = each_known network (pairs_of q) (not_mapped _ _ h) in
    (record { target = each.0.0; condition = known_pairs network q.condition.items }, ap (option_map (λ (t : Pair). record { target = t; condition = known_pairs network q.condition.items })) each.0.1)

-- a pair that contradicts no resolution agrees with each
agrees_with : (p : Pair) (rs : List Pair) → list_any (λ (r : Pair). (r.variable == p.variable) && not (r.value == p.value)) rs ≡ false → AllByRecursion (AgreesWith p) rs
agrees_with p [] h = tt
agrees_with p (r ∷ rs) h = at (r.variable == p.variable) refl (r.value == p.value) refl h (agrees_with p rs)
  where
    at : (a : Bool) → (r.variable == p.variable) ≡ a → (b : Bool) → (r.value == p.value) ≡ b
        → ((a && not b) || list_any (λ (r : Pair). (r.variable == p.variable) && not (r.value == p.value)) rs) ≡ false
        → (list_any (λ (r : Pair). (r.variable == p.variable) && not (r.value == p.value)) rs ≡ false → AllByRecursion (AgreesWith p) rs) → AllByRecursion (AgreesWith p) (r ∷ rs)
    at true e true f h later = (λ same. eqb-true r.value p.value f, later h)
    at true e false f h later = cc
    at false e b f h later = (λ same. absurd (let equal = eq-eqb r.variable p.variable same in cc), later h)

abbrev Agree : List Variable → List Entry → List PairText → Type 0
Agree network H ps = AllByRecursion (λ p. AllByRecursion (AgreesWith p) (resolutions H)) (known_pairs network ps)

agree : (network : List Variable) (H : List Entry) (ps : List PairText) → find (λ p. passes (contradicts H) (pair_named network p)) ps ≡ None → Agree network H ps
agree network H [] h = tt
agree network H (p ∷ ps) h = at (pair_named network p) h (agree network H ps)
  where
    of_pair : (pair : Pair) (b : Bool) → contradicts H pair ≡ b → cond b (Some p) (find (λ p. passes (contradicts H) (pair_named network p)) ps) ≡ None
        → (find (λ p. passes (contradicts H) (pair_named network p)) ps ≡ None → Agree network H ps) → AllByRecursion (AgreesWith pair) (resolutions H) × Agree network H ps
    of_pair pair true e h later = cc
    of_pair pair false e h later = (agrees_with pair (resolutions H) e, later h)

    at : (o : Option Pair) → cond (passes (contradicts H) o) (Some p) (find (λ p. passes (contradicts H) (pair_named network p)) ps) ≡ None
        → (find (λ p. passes (contradicts H) (pair_named network p)) ps ≡ None → Agree network H ps)
        → AllByRecursion (λ p. AllByRecursion (AgreesWith p) (resolutions H)) (cons_option o (known_pairs network ps))
    at None h later = later h
    at (Some pair) h later = of_pair pair (contradicts H pair) refl h later

pub condition_agrees : (network : List Variable) (H : List Entry) (ps : List PairText) → impossible network H ps ≡ None
    → AllByRecursion (λ p. AllByRecursion (AgreesWith p) (resolutions H)) (known_pairs network ps)
condition_agrees network H ps h = agree network H ps (not_mapped _ _ h)

-- where no variable is open, each is resolved
abbrev first_open : List Entry → ℕ → List Variable → Option (ℕ × Variable)
first_open H n vs = find (λ (numbered : ℕ × Variable). not (is_resolved H (numbered.0))) (enumerate_from n vs)

each_resolved : (H : List Entry) (n : ℕ) (vs : List Variable) → first_open H n vs ≡ None
    → (v k : ℕ) → n + k ≡ v → k < length vs → is_resolved H v ≡ true
each_resolved H n [] h v k e inside = absurd (omega arith)
each_resolved H n (x ∷ vs) h v k e inside = at (is_resolved H n) refl h (λ rest j f within. each_resolved H (n + 1) vs rest v j f within) k e inside
  where
    at : (b : Bool) → is_resolved H n ≡ b → cond (not b) (Some (n, x)) (first_open H (n + 1) vs) ≡ None
        → (first_open H (n + 1) vs ≡ None → (j : ℕ) → n + 1 + j ≡ v → j < length vs → is_resolved H v ≡ true)
        → (k : ℕ) → n + k ≡ v → k < length (x ∷ vs) → is_resolved H v ≡ true
    at false is h later k e inside = cc
    at true is h later zero e inside = let same : n ≡ v = omega arith in subst (λ (w : ℕ). is_resolved H w ≡ true) same is
    at true is h later (suc k) e inside = later h k (omega arith) (omega arith)

pub all_resolved : (network : List Variable) (H : List Entry) → unresolved network H ≡ None → (v : ℕ) → v < length network → is_resolved H v ≡ true
all_resolved network H h v inside = each_resolved H 0 network (not_mapped _ _ h) v v (omega arith) inside
