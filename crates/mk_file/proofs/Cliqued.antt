-- The names of a clique, read one by one.
use Rattle.std.proofs.Common.{◌≡◌, ℕ, suc, ◌+◌, ◌<◌, List, [], ◌∷◌, ◌++◌, map, length, take, drop, get_or, string_bytes, String, Global, Bool, true, false, cond, ◌||◌, ◌==◌, Some, None, All, inl, inr, refl, sym, ap, subst, ◌∙◌, arith, drop-cons}
use Rattle.std.specs.Prelude.{position}
use Rattle.std.specs.List.{list_any, list_all}
use Rattle.std.proofs.lemmas.Bool.{ltb-true, eqb-true, eq-eqb, and_parts, and_right, or_cases}
use Rattle.std.proofs.lemmas.List.{map-append, take_more, take-append-drop}
use Rattle.std.proofs.lemmas.List.Sums.{passes_at_first}
use Rattle.std.proofs.lemmas.List.Folds.{list_all-append}
use Rattle.mk_names.specs.Name.{IsName}
use Rattle.mk_net.specs.Named.{nobody}
use Rattle.mk_net.specs.Network.{Variable}
use Rattle.mk_sets.specs.Sets.{VarSet, is_member, no_variables, with_member, set_of}
use Rattle.mk_names.specs.Texts.{same_text}
use Rattle.mk_net.specs.Checked.{has_double}
use Rattle.mk_sets.proofs.Members.{set_of_none, set_of_more}
use Rattle.mk_names.proofs.SameText.{equal_of_same_text, same_text_of_equal}
use Rattle.mk_file.specs.inner.Known.{number_in, is_known_in, is_bad_clique, set_in, IsSetOf}

same_answer : (p q : Bool) → (p ≡ true → q ≡ true) → (q ≡ true → p ≡ true) → p ≡ q
same_answer true q there back = sym (there refl)
same_answer false true there back = back refl
same_answer false false there back = refl

same_turned : (a b : List ℕ) → same_text a b ≡ true → same_text b a ≡ true
same_turned a b same = same_text_of_equal b a (sym (equal_of_same_text a b same))

-- the name of the variable that a known name has
named : (network : List Variable) (a : List ℕ) → is_known_in network a ≡ true → a ≡ (get_or network (number_in network a) nobody).name
named network a known =
    equal_of_same_text a _ (passes_at_first (λ (v : Variable). same_text a v.name) network nobody (ltb-true (number_in network a) (length network) known))

-- two known names have one number exactly where they are the same
same_number : (network : List Variable) (a b : List ℕ) → is_known_in network a ≡ true → is_known_in network b ≡ true
    → (number_in network a == number_in network b) ≡ same_text a b
same_number network a b known_a known_b = same_answer _ _
    (λ one. same_text_of_equal a b (named network a known_a
    ∙ ap (λ (k : ℕ). (get_or network k nobody).name) (eqb-true (number_in network a) (number_in network b) one) ∙ sym (named network b known_b)))
    (λ same. eq-eqb (number_in network a) (number_in network b) (ap (number_in network) (equal_of_same_text a b same)))

among : (network : List Variable) (a : List ℕ) (done : List (List ℕ)) → is_known_in network a ≡ true → list_all (is_known_in network) done ≡ true
    → list_any (λ (d : List ℕ). number_in network a == number_in network d) done ≡ list_any (same_text a) done
among network a [] known all = refl
among network a (d ∷ ds) known all =
    let parts = and_parts (is_known_in network d) (list_all (is_known_in network) ds) all in
    rw (same_number network a d known parts.0, among network a ds known parts.1) refl

or_turned : (p q r : Bool) → p || (q || r) ≡ q || (p || r)
or_turned true true r = refl
or_turned true false r = refl
or_turned false q r = refl

any_push : {X : Type 0} (test : X → Bool) (xs : List X) (x : X) → list_any test (xs ++ x ∷ []) ≡ test x || list_any test xs
any_push test [] x = refl
any_push test (y ∷ ys) x = ap (λ rest. test y || rest) (any_push test ys x) ∙ or_turned (test y) (test x) (list_any test ys)

or_mixed : (s a h l : Bool) → (s || a) || (h || l) ≡ (a || h) || (s || l)
or_mixed true true h l = refl
or_mixed true false true l = refl
or_mixed true false false l = refl
or_mixed false true h l = refl
or_mixed false false h l = refl

double_push : (done : List (List ℕ)) (name : List ℕ) → has_double (done ++ name ∷ []) ≡ has_double done || list_any (same_text name) done
double_push [] name = refl
double_push (d ∷ ds) name =
    rw (any_push (same_text d) ds name, double_push ds name, same_answer (same_text d name) (same_text name d) (same_turned d name) (same_turned name d))
    (or_mixed (same_text name d) (list_any (same_text d) ds) (has_double ds) (list_any (same_text name) ds))

or_first : (p q : Bool) → p ≡ true → p || q ≡ true
or_first true q h = refl
or_first false q h = cc

or_second : (p q : Bool) → q ≡ true → p || q ≡ true
or_second true q h = refl
or_second false q h = h

any_there : (d name : List ℕ) (ds rest : List (List ℕ)) → same_text d name ≡ true → list_any (same_text d) (ds ++ name ∷ rest) ≡ true
any_there d name [] rest same = or_first (same_text d name) (list_any (same_text d) rest) same
any_there d name (e ∷ es) rest same = or_second (same_text d e) (list_any (same_text d) (es ++ name ∷ rest)) (any_there d name es rest same)

double_there : (done : List (List ℕ)) (name : List ℕ) (rest : List (List ℕ)) → list_any (same_text name) done ≡ true
    → has_double (done ++ name ∷ rest) ≡ true
double_there [] name rest found = cc
double_there (d ∷ ds) name rest found =
    elim (or_cases (same_text name d) (list_any (same_text name) ds) found) [
      | inl same ↦ or_first (list_any (same_text d) (ds ++ name ∷ rest)) (has_double (ds ++ name ∷ rest)) (any_there d name ds rest (same_turned name d same))
      | inr later ↦ or_second (list_any (same_text d) (ds ++ name ∷ rest)) (has_double (ds ++ name ∷ rest)) (double_there ds name rest later)
    ]

-- the names that were read, and their set
pub record ReadsClique (network : List Variable) (done : List (List ℕ)) (set : VarSet) : Type 0 where
  pub known : list_all (is_known_in network) done ≡ true
  pub apart : has_double done ≡ false
  pub set_is : set ≡ set_in network done
  pub members : (x : ℕ) → is_member set x ≡ list_any (λ (d : List ℕ). x == number_in network d) done

-- whether the set has the number of one name more
held : (network : List Variable) (done : List (List ℕ)) (set : VarSet) (name : List ℕ) → ReadsClique network done set → is_known_in network name ≡ true
    → is_member set (number_in network name) ≡ list_any (same_text name) done
held network done set name reads known = reads.members (number_in network name) ∙ among network name done known reads.known

pub reads_none : (network : List Variable) (set : VarSet) → set ≡ no_variables → ((x : ℕ) → is_member set x ≡ false) → ReadsClique network [] set
reads_none network set empty none = record { known = refl; apart = refl; set_is = empty ∙ sym set_of_none; members = none }

pub reads_more : (network : List Variable) (done : List (List ℕ)) (name : List ℕ) (set next : VarSet) → ReadsClique network done set
    → is_known_in network name ≡ true → is_member set (number_in network name) ≡ false → next ≡ with_member (number_in network name) set
    → ((x : ℕ) → is_member next x ≡ (x == number_in network name) || is_member set x) → ReadsClique network (done ++ name ∷ []) next
reads_more network done name set next reads known new next_is next_members = record {
  known = list_all-append (is_known_in network) done (name ∷ []) ∙ rw (reads.known, known) refl;
  apart = double_push done name ∙ rw (reads.apart, ← held network done set name reads known, new) refl;
  set_is = next_is ∙ ap (with_member (number_in network name)) reads.set_is
      ∙ set_of_more (map (number_in network) done) (number_in network name)
      ∙ ap set_of (sym (map-append (number_in network) done (name ∷ [])));
  members = λ x. next_members x ∙ ap (λ (rest : Bool). (x == number_in network name) || rest) (reads.members x)
      ∙ sym (any_push (λ (d : List ℕ). x == number_in network d) done name);
}

pub bad_unknown : (network : List Variable) (done : List (List ℕ)) (name : List ℕ) (rest : List (List ℕ)) → is_known_in network name ≡ false
    → is_bad_clique network (done ++ name ∷ rest) ≡ true
bad_unknown network done name rest unknown =
    rw (list_all-append (is_known_in network) done (name ∷ rest), unknown, and_right (list_all (is_known_in network) done) false refl) refl

pub bad_double : (network : List Variable) (done : List (List ℕ)) (set : VarSet) (name : List ℕ) (rest : List (List ℕ)) → ReadsClique network done set
    → is_known_in network name ≡ true → is_member set (number_in network name) ≡ true → is_bad_clique network (done ++ name ∷ rest) ≡ true
bad_double network done set name rest reads known old =
    or_second _ (has_double (done ++ name ∷ rest)) (double_there done name rest (sym (held network done set name reads known) ∙ old))

pub good_clique : (network : List Variable) (names : List (List ℕ)) (set : VarSet) → ReadsClique network names set → is_bad_clique network names ≡ false
good_clique network names set reads = rw (reads.known, reads.apart) refl

abbrev sb : String Global → List ℕ
sb s = string_bytes s

no_number : (within : Bool) (k : ℕ) → (within ≡ true → ⊥) → cond within (Some k) None ≡ None
no_number true k outside = absurd (outside refl)
no_number false k outside = refl

-- no variable has a text that is no name
pub unnamed : (network : List Variable) (a : List ℕ) → All (λ (v : Variable). IsName v.name) network → (IsName a → ⊥)
    → position (λ (v : Variable). same_text a v.name) network ≡ None
unnamed network a names other = no_number (is_known_in network a) (number_in network a) (λ known.
    let within : number_in network a < length network = ltb-true (number_in network a) (length network) known in
    let is_named : IsName (get_or network (number_in network a) nobody).name = names (number_in network a) nobody within in
    let P : List ℕ → Type 0 = λ t. IsName t in other (subst P (sym (named network a known)) is_named))

located : (within : Bool) (k number : ℕ) → Some number ≡ cond within (Some k) None → (within ≡ true) × (number ≡ k)
located true k number found = (refl, cc)
located false k number found = cc

lost : (within : Bool) (k : ℕ) → None ≡ cond within (Some k) None → within ≡ false
lost true k found = cc
lost false k found = refl

-- the names in front of one that is read, and those behind it
parted : (names : List (String Global)) (i : ℕ) (name : String Global) → i < length names → name ≡ get_or names i name
    → map sb names ≡ map sb (take i names) ++ string_bytes name ∷ map sb (drop (suc i) names)
parted names i name within read =
    let split : names ≡ take i names ++ name ∷ drop (suc i) names =
    sym (take-append-drop i names) ∙ ap (λ rest. take i names ++ rest) (drop-cons names i name within ∙ ap (λ x. x ∷ drop (suc i) names) (sym read)) in
    ap (λ xs. map sb xs) split ∙ map-append sb (take i names) (name ∷ drop (suc i) names)

pub clique_more : (network : List Variable) (names : List (String Global)) (i : ℕ) (name : String Global) (set next : VarSet) (number : ℕ)
    → i < length names → name ≡ get_or names i name → ReadsClique network (map sb (take i names)) set
    → Some number ≡ position (λ (v : Variable). same_text (string_bytes name) v.name) network → is_member set number ≡ false → next ≡ with_member number set
    → ((x : ℕ) → is_member next x ≡ (x == number) || is_member set x) → ReadsClique network (map sb (take (i + 1) names)) next
clique_more network names i name set next number within read reads found new next_is members =
    let there = located (is_known_in network (sb name)) (number_in network (sb name)) number found in
    let done : map sb (take (i + 1) names) ≡ map sb (take i names) ++ sb name ∷ [] =
    ap (λ xs. map sb xs) (take_more names i name within ∙ ap (λ x. take i names ++ x ∷ []) (sym read)) ∙ map-append sb (take i names) (name ∷ []) in
    let P : List (List ℕ) → Type 0 = λ done. ReadsClique network done next in
    subst P (sym done) (reads_more network (map sb (take i names)) (sb name) set next reads there.0
    (ap (λ (k : ℕ). is_member set k) (sym there.1) ∙ new) (next_is ∙ ap (λ (k : ℕ). with_member k set) there.1)
    (λ x. members x ∙ ap (λ (k : ℕ). (x == k) || is_member set x) there.1))

pub clique_unknown : (network : List Variable) (names : List (String Global)) (i : ℕ) (name : String Global)
    → i < length names → name ≡ get_or names i name → None ≡ position (λ (v : Variable). same_text (string_bytes name) v.name) network
    → is_bad_clique network (map sb names) ≡ true
clique_unknown network names i name within read found =
    ap (is_bad_clique network) (parted names i name within read)
    ∙ bad_unknown network (map sb (take i names)) (sb name) (map sb (drop (suc i) names)) (lost (is_known_in network (sb name)) (number_in network (sb name)) found)

pub clique_double : (network : List Variable) (names : List (String Global)) (i : ℕ) (name : String Global) (set : VarSet) (number : ℕ)
    → i < length names → name ≡ get_or names i name → ReadsClique network (map sb (take i names)) set
    → Some number ≡ position (λ (v : Variable). same_text (string_bytes name) v.name) network → is_member set number ≡ true
    → is_bad_clique network (map sb names) ≡ true
clique_double network names i name set number within read reads found old =
    let there = located (is_known_in network (sb name)) (number_in network (sb name)) number found in
    ap (is_bad_clique network) (parted names i name within read)
    ∙ bad_double network (map sb (take i names)) set (sb name) (map sb (drop (suc i) names)) reads there.0 (ap (λ (k : ℕ). is_member set k) (sym there.1) ∙ old)

within_any : (network : List Variable) (x : ℕ) (done : List (List ℕ)) → list_all (is_known_in network) done ≡ true
    → list_any (λ (d : List ℕ). x == number_in network d) done ≡ true → x < length network
within_any network x [] known found = cc
within_any network x (d ∷ ds) known found =
    let parts = and_parts (is_known_in network d) (list_all (is_known_in network) ds) known in
    elim (or_cases (x == number_in network d) (list_any (λ (d : List ℕ). x == number_in network d) ds) found) [
      | inl same ↦ omega (arith, eqb-true x (number_in network d) same, ltb-true (number_in network d) (length network) parts.0)
      | inr later ↦ within_any network x ds parts.1 later
    ]

pub clique_within : (network : List Variable) (names : List (List ℕ)) (set : VarSet) → ReadsClique network names set → IsSetOf network set
clique_within network names set reads = λ x member. within_any network x names reads.known (sym (reads.members x) ∙ member)
