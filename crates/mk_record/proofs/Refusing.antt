-- What is refused, and what is known where nothing is.
use Rattle.std.proofs.Common.{◌≡◌, ℕ, suc, zero, ◌+◌, ◌<◌, ◌≤◌, Bool, true, false, cond, not, ltb, ◌&&◌, ◌||◌, List, [], ◌∷◌, ◌++◌, length, drop, map, filter, slice_index_or, ◌⊎◌, inl, inr, Option, Some, None, is_none, refl, sym, ap, ap₂, subst, ◌∙◌, arith}
use Rattle.std.specs.Prelude.{◌==◌, ◌-◌, find, option_map, is_some, position, slice_get, Result, Ok}
use Rattle.std.specs.Prelude.{Err, IfOk, IsErrAnd}
use Rattle.std.specs.List.{list_any, list_all, cons_option, position_or_len, enumerate_from, range_with_len, AllByRecursion}
use Rattle.std.proofs.lemmas.Bool.{eqb-true, eq-eqb, cases_eq, cases_lt, lt-ltb, le-ltb, ltb-true, ltb-false}
use Rattle.std.proofs.lemmas.List.Folds.{find_at}
use Rattle.std.proofs.lemmas.Option.{slice_get_past, slice_get-get_or}
use Rattle.mk_net.specs.declared.words.Pair.{Pair}
use Rattle.mk_net.specs.declared.words.PairText.{PairText}
use Rattle.mk_net.specs.declared.words.QuestionText.{QuestionText}
use Rattle.mk_net.specs.Asked.{Asked}
use Rattle.mk_net.specs.Bounds.{max_condition, million}
use Rattle.mk_net.specs.Events.{speaks_of, AreApart, IsQuestion, pairs_asked}
use Rattle.mk_net.specs.Firsts.{fault_if, or_else, first_of}
use Rattle.mk_net.specs.Network.{Variable}
use Rattle.mk_net.specs.Named.{pair_named, variable_at}
use Rattle.mk_sets.specs.Sets.{VarSet, is_member}
use Rattle.mk_exact.specs.History.{Entry, is_settled}
use Rattle.mk_states.specs.OfNetwork.{IsPairOf}
use Rattle.mk_tree.specs.Given.{GivenTree, home, holds_event}
use Rattle.mk_tree.specs.Tests.{members}
use Rattle.mk_file.specs.declared.market_file.MarketFile.{MarketFile}
use Rattle.mk_file.specs.MarketOf.{market_of}
use Rattle.mk_command.specs.declared.command.Command.TheVariants.{Price, Edit}
use Rattle.mk_reply.specs.declared.refusal.Refusal.{Refusal}
use Rattle.mk_reply.specs.declared.refusal.Refusal.TheVariants.{Settled, Unknown, Resolved, Wide, Unresolved, Impossible}
use Rattle.mk_rules.specs.Refusals.{pairs_of, names_in, variables_in, known_pairs, question_named, is_resolved, contradicts, passes, is_wide, unknown, resolved, impossible, wide_question, unresolved, twice, settled, no_user, stale, range, trades_full, refusals_by_record}
use Rattle.mk_rules.proofs.Unrefused.{not_mapped, question_known, target_named, variable_known, not_resolved, condition_agrees}
use Rattle.mk_record.specs.Refused.{refusal_in, IsQuestionFor}

-- one that applies is the first, where those before it do not
pub applies : {F : Type 0} (one : Option F) (later : List (Option F)) (why : F) → Some why ≡ one → Some why ≡ first_of (one ∷ later)
applies None later why h = cc
applies (Some x) later why h = h

pub passed : {F : Type 0} (one : Option F) (later : List (Option F)) (found : Option F) → None ≡ one → found ≡ first_of later → found ≡ first_of (one ∷ later)
passed None later found e h = h
passed (Some x) later found e h = cc

pub first_of_one : {F : Type 0} (one : Option F) → one ≡ first_of (one ∷ [])
first_of_one None = refl
first_of_one (Some x) = refl

-- the first variable that is not resolved, from a number on
unfoldable pub open_from : List Entry → List Variable → ℕ → Option (ℕ × Variable)
open_from H network k = find (λ (numbered : ℕ × Variable). not (is_resolved H (numbered.0))) (enumerate_from k (drop k network))

rest_from : (network : List Variable) (k : ℕ) → k < length network → drop k network ≡ variable_at network k ∷ drop (suc k) network
rest_from [] k h = absurd (omega arith)
rest_from (v ∷ vs) zero h = refl
rest_from (v ∷ vs) (suc k) h = rest_from vs k (omega arith)

open_here : (H : List Entry) (network : List Variable) (k : ℕ) → k < length network
    → open_from H network k ≡ cond (not (is_resolved H k)) (Some (k, variable_at network k)) (open_from H network (k + 1))
unfolding open_from
open_here H network k h =
    ap (λ (vs : List Variable). find (λ (numbered : ℕ × Variable). not (is_resolved H (numbered.0))) (enumerate_from k vs)) (rest_from network k h)
    ∙ ap (λ (n : ℕ). cond (not (is_resolved H k)) (Some (k, variable_at network k)) (find (λ (numbered : ℕ × Variable). not (is_resolved H (numbered.0))) (enumerate_from (k + 1) (drop n network)))) next
  where
    next : suc k ≡ k + 1
    next = omega arith

pub open_kept : (H : List Entry) (network : List Variable) (k : ℕ) → k < length network → is_resolved H k ≡ true
    → open_from H network k ≡ open_from H network 0 → open_from H network (k + 1) ≡ open_from H network 0
open_kept H network k h e kept = sym (open_here H network k h ∙ ap (λ (b : Bool). cond (not b) (Some (k, variable_at network k)) (open_from H network (k + 1))) e) ∙ kept

pub open_found : (H : List Entry) (network : List Variable) (k : ℕ) → k < length network → is_resolved H k ≡ false
    → open_from H network k ≡ open_from H network 0 → unresolved network H ≡ Some (Unresolved (variable_at network k).name)
unfolding open_from
open_found H network k h e kept =
    ap (option_map (λ (numbered : ℕ × Variable). Unresolved (numbered.1).name))
    (sym kept ∙ open_here H network k h ∙ ap (λ (b : Bool). cond (not b) (Some (k, variable_at network k)) (open_from H network (k + 1))) e)

pub open_none : (H : List Entry) (network : List Variable) (k : ℕ) → length network ≤ k → open_from H network k ≡ open_from H network 0 → unresolved network H ≡ None
unfolding open_from
open_none H network k h kept = ap (option_map (λ (numbered : ℕ × Variable). Unresolved (numbered.1).name)) (sym kept ∙ ended)
  where
    all_dropped : (vs : List Variable) (n : ℕ) → length vs ≤ n → drop n vs ≡ []
    all_dropped [] zero i = refl
    all_dropped [] (suc n) i = refl
    all_dropped (v ∷ vs) zero i = absurd (omega arith)
    all_dropped (v ∷ vs) (suc n) i = all_dropped vs n (omega arith)

    ended : open_from H network k ≡ None
    ended = ap (λ (vs : List Variable). find (λ (numbered : ℕ × Variable). not (is_resolved H (numbered.0))) (enumerate_from k vs)) (all_dropped network k h)

-- some pairs that are all known
abbrev pub AllKnown : List Variable → List PairText → Type 0
AllKnown network ps = AllByRecursion (λ p. is_none (pair_named network p) ≡ false) ps

each_known : (network : List Variable) (ps : List PairText) → find (λ p. is_none (pair_named network p)) ps ≡ None → AllKnown network ps
each_known network [] h = tt
each_known network (p ∷ ps) h = at (is_none (pair_named network p)) refl (each_known network ps) h
  where
    at : (b : Bool) → is_none (pair_named network p) ≡ b → (find (λ p. is_none (pair_named network p)) ps ≡ None → AllKnown network ps)
        → cond b (Some p) (find (λ p. is_none (pair_named network p)) ps) ≡ None → AllKnown network (p ∷ ps)
    at true e later h = cc
    at false e later h = (e, later h)

pub all_known_of : (network : List Variable) (ps : List PairText) → unknown network ps ≡ None → AllKnown network ps
all_known_of network ps h = each_known network ps (not_mapped _ _ h)

pub others_known : (network : List Variable) (p : PairText) (ps : List PairText) → unknown network (p ∷ ps) ≡ None → unknown network ps ≡ None
others_known network p ps h = at (is_none (pair_named network p)) h
  where
    at : (b : Bool) → option_map Unknown (cond b (Some p) (find (λ p. is_none (pair_named network p)) ps)) ≡ None → unknown network ps ≡ None
    at true h = cc
    at false h = h

one_known_each : (network : List Variable) (ps : List PairText) → AllKnown network ps → length (known_pairs network ps) ≡ length ps
one_known_each network [] h = refl
one_known_each network (p ∷ ps) h = at (pair_named network p) h.0 (one_known_each network ps h.1)
  where
    at : (o : Option Pair) → is_none o ≡ false → length (known_pairs network ps) ≡ length ps → length (cons_option o (known_pairs network ps)) ≡ length (p ∷ ps)
    at None h e = cc
    at (Some x) h e = ap suc e

same_place : (network : List Variable) (H : List Entry) (ps : List PairText) → AllKnown network ps
    → position_or_len (contradicts H) (known_pairs network ps) ≡ position_or_len (λ p. passes (contradicts H) (pair_named network p)) ps
same_place network H [] h = refl
same_place network H (p ∷ ps) h = at (pair_named network p) h.0 (same_place network H ps h.1)
  where
    at : (o : Option Pair) → is_none o ≡ false
        → position_or_len (contradicts H) (known_pairs network ps) ≡ position_or_len (λ p. passes (contradicts H) (pair_named network p)) ps
        → position_or_len (contradicts H) (cons_option o (known_pairs network ps)) ≡ cond (not (passes (contradicts H) o)) (1 + position_or_len (λ p. passes (contradicts H) (pair_named network p)) ps) 0
    at None h e = cc
    at (Some x) h e = ap (λ (n : ℕ). cond (not (contradicts H x)) (1 + n) 0) e

-- the first pair that a resolution contradicts, by its place among the numbers
contradicted_at : (network : List Variable) (H : List Entry) (ps : List PairText) (d : PairText) (b : Bool) → AllKnown network ps
    → ltb (position_or_len (contradicts H) (known_pairs network ps)) (length (known_pairs network ps)) ≡ b
    → find (λ p. passes (contradicts H) (pair_named network p)) ps
    ≡ option_map (λ (k : ℕ). slice_index_or ps k d) (cond b (Some (position_or_len (contradicts H) (known_pairs network ps))) None)
contradicted_at network H ps d b known e =
    find_at (λ p. passes (contradicts H) (pair_named network p)) ps ∙ ap (λ (n : ℕ). slice_get ps n) (sym (same_place network H ps known)) ∙ at b e
  where
    n : ℕ
    n = position_or_len (contradicts H) (known_pairs network ps)

    at : (b : Bool) → ltb n (length (known_pairs network ps)) ≡ b → slice_get ps n ≡ option_map (λ (k : ℕ). slice_index_or ps k d) (cond b (Some n) None)
    at true e = slice_get-get_or ps n d (subst (λ (m : ℕ). n < m) (one_known_each network ps known) (ltb-true n (length (known_pairs network ps)) e))
    at false e = slice_get_past ps n (subst (λ (m : ℕ). m ≤ n) (one_known_each network ps known) (ltb-false n (length (known_pairs network ps)) e))

pub contradicted_is : (network : List Variable) (H : List Entry) (ps : List PairText) (pairs : List Pair) (d : PairText) → unknown network ps ≡ None → pairs ≡ known_pairs network ps
    → impossible network H ps ≡ option_map (λ (k : ℕ). Impossible (slice_index_or ps k d)) (position (contradicts H) pairs)
contradicted_is network H ps pairs d known e =
    rw e (ap (option_map Impossible) (contradicted_at network H ps d _ (all_known_of network ps known) refl) ∙ at (ltb (position_or_len (contradicts H) (known_pairs network ps)) (length (known_pairs network ps))))
  where
    at : (b : Bool) → option_map Impossible (option_map (λ (k : ℕ). slice_index_or ps k d) (cond b (Some (position_or_len (contradicts H) (known_pairs network ps))) None))
        ≡ option_map (λ (k : ℕ). Impossible (slice_index_or ps k d)) (cond b (Some (position_or_len (contradicts H) (known_pairs network ps))) None)
    at true = refl
    at false = refl

pub one_each : (network : List Variable) (ps words : List PairText) (pairs : List Pair) → unknown network ps ≡ None → pairs ≡ known_pairs network ps → words ≡ ps → length pairs ≡ length words
one_each network ps words pairs known e f = rw (e, f) (one_known_each network ps (all_known_of network ps known))

-- the pairs of a question that is known
pairs_known : (network : List Variable) (q : QuestionText) (asked : Asked) → question_named network q ≡ Some asked → known_pairs network (pairs_of q) ≡ asked.target ∷ asked.condition
pairs_known network q asked named =
    let parts = target_named network q asked named in
    ap (λ (o : Option Pair). cons_option o (known_pairs network q.condition.items)) parts.0 ∙ ap (λ (ps : List Pair). asked.target ∷ ps) (sym parts.1)

-- some item passes a test exactly where there is a first that does
any_of : {X : Type 0} (test : X → Bool) (xs : List X) → list_any test xs ≡ ltb (position_or_len test xs) (length xs)
any_of test [] = refl
any_of test (x ∷ xs) = at (test x) (any_of test xs)
  where
    at : (b : Bool) → list_any test xs ≡ ltb (position_or_len test xs) (length xs) → (b || list_any test xs) ≡ ltb (cond (not b) (1 + position_or_len test xs) 0) (length (x ∷ xs))
    at true h = sym (lt-ltb 0 (length (x ∷ xs)) (omega arith))
    at false h = h ∙ more (cases_lt (position_or_len test xs) (length xs))
      where
        more : ((position_or_len test xs < length xs) ⊎ (length xs ≤ position_or_len test xs)) → ltb (position_or_len test xs) (length xs) ≡ ltb (1 + position_or_len test xs) (length (x ∷ xs))
        more (inl k) = lt-ltb _ _ k ∙ sym (lt-ltb (1 + position_or_len test xs) (length (x ∷ xs)) (omega arith))
        more (inr k) = le-ltb _ _ k ∙ sym (le-ltb (1 + position_or_len test xs) (length (x ∷ xs)) (omega arith))

no_place : {X : Type 0} (test : X → Bool) (xs : List X) → not (list_any test xs) ≡ is_none (position test xs)
no_place test xs = ap not (any_of test xs) ∙ at (ltb (position_or_len test xs) (length xs))
  where
    at : (b : Bool) → not b ≡ is_none (cond b (Some (position_or_len test xs)) None)
    at true = refl
    at false = refl

-- the members of a set, among the variables from one on
not_earlier : (m : ℕ → Bool) (x a n : ℕ) → x < a → list_any (λ v. v == x) (filter m (range_with_len a n)) ≡ false
not_earlier m x a zero h = refl
not_earlier m x a (suc n) h = at (m a) (not_earlier m x (a + 1) n (omega arith)) (other (a == x) refl)
  where
    other : (b : Bool) → (a == x) ≡ b → (a == x) ≡ false
    other true e = absurd (omega (arith, eqb-true a x e, h))
    other false e = e

    at : (b : Bool) → list_any (λ v. v == x) (filter m (range_with_len (a + 1) n)) ≡ false → (a == x) ≡ false
        → list_any (λ v. v == x) (cond b (a ∷ filter m (range_with_len (a + 1) n)) (filter m (range_with_len (a + 1) n))) ≡ false
    at true later e = rw e later
    at false later e = later

pub among : (m : ℕ → Bool) (x a n : ℕ) → a ≤ x → x < a + n → list_any (λ v. v == x) (filter m (range_with_len a n)) ≡ m x
among m x a zero h k = absurd (omega arith)
among m x a (suc n) h k = at (cases_eq a x) (m a) refl (λ d. among m x (a + 1) n (omega (arith, d)) (omega arith))
  where
    differs : (b : Bool) → (a == x) ≡ b → (a ≡ x → ⊥) → (a == x) ≡ false
    differs true e d = absurd (d (eqb-true a x e))
    differs false e d = e

    at : ((a ≡ x) ⊎ (a ≡ x → ⊥)) → (b : Bool) → m a ≡ b → ((a ≡ x → ⊥) → list_any (λ v. v == x) (filter m (range_with_len (a + 1) n)) ≡ m x)
        → list_any (λ v. v == x) (cond b (a ∷ filter m (range_with_len (a + 1) n)) (filter m (range_with_len (a + 1) n))) ≡ m x
    at (inl e) true is later = rw (eq-eqb a x e) (sym is ∙ ap m e)
    at (inl e) false is later = not_earlier m x (a + 1) n (omega (arith, e)) ∙ sym is ∙ ap m e
    at (inr d) true is later = rw (differs (a == x) refl d) (later d)
    at (inr d) false is later = later d

no_home : (tree : GivenTree) (event : List Pair) → is_none (position (holds_event event) tree.cliques) ≡ is_none (home tree event)
no_home tree event = at (position (holds_event event) tree.cliques)
  where
    at : (o : Option ℕ) → is_none o ≡ is_none (option_map (λ (k : ℕ). k + 1) o)
    at None = refl
    at (Some k) = refl

module _ (network : List Variable) where
  holds_same : (set : VarSet) (pairs : List Pair) → AllByRecursion (IsPairOf network) pairs
      → list_all (λ x. list_any (λ v. v == x) (members network set)) (variables_in pairs) ≡ holds_event pairs set
  holds_same set [] fits = refl
  holds_same set (p ∷ pairs) fits = ap₂ (λ a b. a && b) (among (is_member set) p.variable 0 (length network) (omega arith) (omega (arith, fits.0.variable))) (holds_same set pairs fits.1)

  target_last : (set : VarSet) (pairs : List Pair) (target : Pair) → (is_member set target.variable && holds_event pairs set) ≡ holds_event (pairs ++ target ∷ []) set
  target_last set [] target = refl
  target_last set (p ∷ pairs) target = swap (is_member set target.variable) (is_member set p.variable) (holds_event pairs set) ∙ ap (λ (b : Bool). is_member set p.variable && b) (target_last set pairs target)
    where
      swap : (a b c : Bool) → (a && (b && c)) ≡ (b && (a && c))
      swap true b c = refl
      swap false true c = refl
      swap false false c = refl

  abbrev covers : List ℕ → List ℕ → Bool
  covers variables clique = list_all (λ x. list_any (λ v. v == x) clique) variables

  module _ (pairs : List Pair) (target : Pair) (inside : target.variable < length network) (fits : AllByRecursion (IsPairOf network) pairs) where
    covers_same : (set : VarSet) → covers (target.variable ∷ variables_in pairs) (members network set) ≡ holds_event (pairs ++ target ∷ []) set
    covers_same set = ap₂ (λ a b. a && b) (among (is_member set) target.variable 0 (length network) (omega arith) (omega (arith, inside))) (holds_same set pairs fits) ∙ target_last set pairs target

    some_covers : (cliques : List VarSet) → list_any (covers (target.variable ∷ variables_in pairs)) (map (members network) cliques) ≡ list_any (holds_event (pairs ++ target ∷ [])) cliques
    some_covers [] = refl
    some_covers (set ∷ cliques) = ap₂ (λ a b. a || b) (covers_same set) (some_covers cliques)

    -- variables are wide exactly where pairs of theirs have no home
    pub wide_is : (tree : GivenTree) → is_wide (map (members network) tree.cliques) (target.variable ∷ variables_in pairs) ≡ is_none (home tree (pairs ++ target ∷ []))
    wide_is tree = ap not (some_covers tree.cliques) ∙ no_place (holds_event (pairs ++ target ∷ [])) tree.cliques ∙ no_home tree (pairs ++ target ∷ [])

-- a question is refused as wide exactly where it has no home
pub wide_is_homeless : (file : MarketFile) (H : List Entry) (q : QuestionText) (asked : Asked) → question_named file.net q ≡ Some asked → unknown file.net (pairs_of q) ≡ None
    → wide_question (market_of file) H q ≡ fault_if (is_none (home file.tree (pairs_asked asked))) Wide
wide_is_homeless file H q asked named known =
    ap (λ (ps : List Pair). fault_if (is_wide (map (members file.net) file.tree.cliques) (variables_in ps)) Wide) (pairs_known file.net q asked named)
    ∙ (let fits = question_known file.net q asked known named in ap (λ (b : Bool). fault_if b Wide) (wide_is file.net asked.condition asked.target fits.target.variable fits.condition file.tree))

pub has_home : (o : Option ℕ) → fault_if (is_none o) Wide ≡ None → is_some o ≡ true
has_home None h = cc
has_home (Some k) h = refl

-- a question that none of its refusals meets can be answered
pub can_answer : (file : MarketFile) (H : List Entry) (q : QuestionText) (asked : Asked) → question_named file.net q ≡ Some asked → unknown file.net (pairs_of q) ≡ None → IsQuestion asked
    → resolved file.net H q.target.variable ≡ None → impossible file.net H q.condition.items ≡ None → fault_if (is_none (home file.tree (pairs_asked asked))) Wide ≡ None
    → IsQuestionFor (market_of file) file.tree H q asked
can_answer file H q asked named known question free agreed held =
    let parts = target_named file.net q asked named in
    record {
      named = named;
      answered = record {
        in_order = record {
          in_range = question_known file.net q asked known named;
          apart = question.apart;
          target_apart = question.target_apart;
          unresolved = not_resolved file.net H q.target asked.target parts.0 free;
        };
        agrees = rw parts.1 (condition_agrees file.net H q.condition.items agreed);
        home = has_home (home file.tree (pairs_asked asked)) held;
      };
    }

-- a list with no items is empty
pub none_held : {X : Type 0} (xs : List X) → (length xs == 0) ≡ true → xs ≡ []
none_held [] h = refl
none_held (x ∷ xs) h = absurd (let none : length (x ∷ xs) ≡ 0 = eqb-true (length (x ∷ xs)) 0 h in omega (arith, none))

-- a question without a condition, whose target is not resolved, and which has a home
module _ (file : MarketFile) (H : List Entry) (q : QuestionText) (asked : Asked) (named : question_named file.net q ≡ Some asked) (known : unknown file.net (pairs_of q) ≡ None)
    (plain : q.condition.items ≡ []) (free : is_resolved H asked.target.variable ≡ false) (held : is_some (home file.tree (pairs_asked asked)) ≡ true) where
  plain_free : resolved file.net H q.target.variable ≡ None
  plain_free =
      let number = variable_known file.net q.target asked.target (target_named file.net q asked named).0 in
      ap (λ (o : Option (ℕ × Variable)). fault_if (passes (λ (numbered : ℕ × Variable). is_resolved H (numbered.0)) o) (Resolved q.target.variable)) number.1
      ∙ ap (λ (b : Bool). fault_if b (Resolved q.target.variable)) free

  plain_agreed : impossible file.net H q.condition.items ≡ None
  plain_agreed = ap (impossible file.net H) plain

  at_home : fault_if (is_none (home file.tree (pairs_asked asked))) Wide ≡ None
  at_home = not_homeless (home file.tree (pairs_asked asked)) held
    where
      not_homeless : (o : Option ℕ) → is_some o ≡ true → fault_if (is_none o) Wide ≡ None
      not_homeless None h = cc
      not_homeless (Some k) h = refl

  pub plain_unrefused : is_settled H ≡ false → twice (names_in (pairs_of q)) ≡ None → first_of (refusals_by_record (market_of file) H (Price q)) ≡ None
  plain_unrefused running once =
      none_of_six _ _ _ _ _ _ (ap (λ (b : Bool). fault_if b Settled) running) known once plain_free plain_agreed (wide_is_homeless file H q asked named known ∙ at_home)
    where
      none_of_six : (a b c d e f : Option Refusal) → a ≡ None → b ≡ None → c ≡ None → d ≡ None → e ≡ None → f ≡ None → first_of (a ∷ b ∷ c ∷ d ∷ e ∷ f ∷ []) ≡ None
      none_of_six a b c d e f ha hb hc hd he hf = rw (ha, hb, hc, hd, he, hf) refl

  plain_question : IsQuestion asked
  plain_question =
      let none : asked.condition ≡ [] = (target_named file.net q asked named).1 ∙ ap (known_pairs file.net) plain in
      record {
        few = subst (λ (ps : List Pair). length ps ≤ max_condition) (sym none) (omega arith);
        apart = subst AreApart (sym none) tt;
        target_apart = subst (λ (ps : List Pair). speaks_of ps asked.target.variable ≡ false) (sym none) refl;
      }

  pub plain_answered : IsQuestionFor (market_of file) file.tree H q asked
  plain_answered = can_answer file H q asked named known plain_question plain_free plain_agreed at_home

pub where_ok : {T P : Type 0} (r : Result T Refusal) → (refusal_in r ≡ None → P) → IfOk r (λ _. P)
where_ok (Ok x) h = h refl
where_ok (Err why) h = tt

pub last_refusal : (a b c found wide : Option Refusal) → a ≡ None → b ≡ None → c ≡ wide → found ≡ wide → found ≡ or_else a (or_else b (or_else c None))
last_refusal a b c found wide e f g h = rw (e, f, g) (h ∙ at wide)
  where
    at : (o : Option Refusal) → o ≡ or_else o None
    at None = refl
    at (Some why) = refl

-- the numbers of a question in words, as its parts give them
pub pair_is : (network : List Variable) (q : QuestionText) (asked : Asked) (target : Pair) → question_named network q ≡ Some asked → target ≡ asked.target → pair_named network q.target ≡ Some target
pair_is network q asked target named e = (target_named network q asked named).0 ∙ ap (λ (p : Pair). Some p) (sym e)

pub pairs_are : (network : List Variable) (q : QuestionText) (asked : Asked) (condition : List Pair) (words : List PairText) → question_named network q ≡ Some asked
    → condition ≡ asked.condition → words ≡ q.condition.items → condition ≡ known_pairs network words
pairs_are network q asked condition words named e f = e ∙ (target_named network q asked named).1 ∙ ap (known_pairs network) (sym f)

pub slice_known : (network : List Variable) (q : QuestionText) (words : List PairText) → words ≡ q.condition.items → unknown network (pairs_of q) ≡ None → unknown network words ≡ None
slice_known network q words e known = ap (unknown network) e ∙ others_known network q.target q.condition.items known

-- what a question is refused for by its target, and by its condition
module _ (file : MarketFile) (H : List Entry) (q : QuestionText) where
  pub question_resolved : (why : Refusal) → Some why ≡ resolved file.net H q.target.variable
      → Some why ≡ first_of (resolved file.net H q.target.variable ∷ impossible file.net H q.condition.items ∷ wide_question (market_of file) H q ∷ [])
  question_resolved why h = applies (resolved file.net H q.target.variable) (impossible file.net H q.condition.items ∷ wide_question (market_of file) H q ∷ []) why h

  pub question_impossible : (why : Refusal) → None ≡ resolved file.net H q.target.variable → Some why ≡ impossible file.net H q.condition.items
      → Some why ≡ first_of (resolved file.net H q.target.variable ∷ impossible file.net H q.condition.items ∷ wide_question (market_of file) H q ∷ [])
  question_impossible why e h =
      passed (resolved file.net H q.target.variable) (impossible file.net H q.condition.items ∷ wide_question (market_of file) H q ∷ []) (Some why) e
      (applies (impossible file.net H q.condition.items) (wide_question (market_of file) H q ∷ []) why h)

-- what a resolution is refused for at last
pub resolution_refused : (network : List Variable) (H : List Entry) (p : PairText) (found : Option Refusal) → None ≡ settled H → None ≡ unknown network (p ∷ []) → found ≡ resolved network H p.variable
    → found ≡ first_of (settled H ∷ unknown network (p ∷ []) ∷ resolved network H p.variable ∷ [])
resolution_refused network H p found e f h =
    passed (settled H) (unknown network (p ∷ []) ∷ resolved network H p.variable ∷ []) found e
    (passed (unknown network (p ∷ [])) (resolved network H p.variable ∷ []) found f (h ∙ first_of_one (resolved network H p.variable)))

-- a refusal behind five that do not apply
refused_sixth : (settled user unknown twice stale free agreed wide later : Option Refusal) (why : Refusal) → None ≡ settled → None ≡ user → None ≡ or_else unknown twice → None ≡ stale
    → Some why ≡ or_else free (or_else agreed (or_else wide None))
    → Some why ≡ or_else settled (or_else user (or_else unknown (or_else twice (or_else stale (or_else free (or_else agreed (or_else wide later)))))))
refused_sixth None None None None None (Some x) agreed wide later why e f g h i = i
refused_sixth None None None None None None (Some x) wide later why e f g h i = i
refused_sixth None None None None None None None (Some x) later why e f g h i = i
refused_sixth None None None None None None None None later why e f g h i = cc
refused_sixth (Some x) user unknown twice stale free agreed wide later why e f g h i = cc
refused_sixth None (Some x) unknown twice stale free agreed wide later why e f g h i = cc
refused_sixth None None (Some x) twice stale free agreed wide later why e f g h i = cc
refused_sixth None None None (Some x) stale free agreed wide later why e f g h i = cc
refused_sixth None None None None (Some x) free agreed wide later why e f g h i = cc

pub edit_refused : (file : MarketFile) (H : List Entry) (name : List ℕ) (q : QuestionText) (to : ℕ) (at : Option ℕ) (why : Refusal) → None ≡ settled H → None ≡ no_user H name
    → None ≡ or_else (unknown file.net (pairs_of q)) (twice (names_in (pairs_of q))) → None ≡ stale H at
    → Some why ≡ first_of (resolved file.net H q.target.variable ∷ impossible file.net H q.condition.items ∷ wide_question (market_of file) H q ∷ [])
    → Some why ≡ first_of (refusals_by_record (market_of file) H (Edit name q to at))
edit_refused file H name q to at why e f g h i =
    refused_sixth (settled H) (no_user H name) (unknown file.net (pairs_of q)) (twice (names_in (pairs_of q))) (stale H at) (resolved file.net H q.target.variable)
    (impossible file.net H q.condition.items) (wide_question (market_of file) H q) (or_else (range (million - 1) to) (or_else (trades_full (market_of file) H) None)) why e f g h i

pub error_kept : {T : Type 0} (r : Result T Refusal) (why : Refusal) → IsErrAnd r (λ e. e ≡ why) → refusal_in r ≡ Some why
error_kept (Ok x) why h = absurd h
error_kept (Err e) why h = ap (λ (w : Refusal). Some w) h
