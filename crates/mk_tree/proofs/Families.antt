-- The set of a variable and its parents lies in a set where that set holds each of them.
use Rattle.std.specs.Prelude.{◌≡◌, ℕ, ◌+◌, ◌<◌, ◌≤◌, List, length, Bool, true, false, ◌&&◌, ◌||◌, ◌==◌, ◌⊎◌, ◌↔◌, take, get_or}
use Rattle.std.specs.List.{list_all}
use Rattle.std.proofs.Common.{refl, sym, ap, ◌∙◌, inl, inr}
use Rattle.std.proofs.lemmas.Bool.{and_parts, and_from, or_cases, or_left, or_right, eqb-true, eq-eqb, cases_Bool, both_ways, false_from_ne_true}
use Rattle.std.proofs.lemmas.List.{take_all}
use Rattle.std.proofs.lemmas.List.Folds.{list_all_more}
use Rattle.mk_sets.specs.Sets.{VarSet, is_member, IsSubset}

-- a test that decides a fact is the test that decides it
pub same_test : {P : Type 0} (a b : Bool) → ((a ≡ true) ↔ P) → (P ↔ (b ≡ true)) → a ≡ b
same_test a b first second = at (cases_Bool a)
  where
    at : ((a ≡ true) ⊎ (a ≡ false)) → a ≡ b
    at (inl e) = e ∙ sym (second.0 (first.0 e))
    at (inr e) = e ∙ sym (false_from_ne_true b (λ t. both_ways a e (first.1 (second.1 t))))

and_regroups : (a b c : Bool) → ((a && b) && c) ≡ (a && (b && c))
and_regroups true b c = refl
and_regroups false b c = refl

-- the set with one variable more
pub more_within : (set family more : VarSet) (variable : ℕ) (test : Bool) → ((x : ℕ) → is_member more x ≡ (x == variable) || is_member family x)
    → (IsSubset family set ↔ (test ≡ true)) → IsSubset more set ↔ ((test && is_member set variable) ≡ true)
more_within set family more variable test is_more before = (
  λ subset. and_from test (is_member set variable)
      (before.0 (λ x e. subset x (is_more x ∙ or_right (x == variable) (is_member family x) e)))
      (subset variable (is_more variable ∙ or_left (variable == variable) (is_member family variable) (eq-eqb variable variable refl))),
  λ e x member.
      let parts = and_parts test (is_member set variable) e in
      at x parts (or_cases (x == variable) (is_member family x) (sym (is_more x) ∙ member)),
)
  where
    at : (x : ℕ) → (test ≡ true) × (is_member set variable ≡ true) → (((x == variable) ≡ true) ⊎ (is_member family x ≡ true)) → is_member set x ≡ true
    at x parts (inl same) = ap (λ (k : ℕ). is_member set k) (eqb-true x variable same) ∙ parts.1
    at x parts (inr member) = before.1 parts.0 x member

-- a set holds a variable and the first i of some more
abbrev pub holds_some : VarSet → ℕ → List ℕ → ℕ → Bool
holds_some set variable parents i = is_member set variable && list_all (is_member set) (take i parents)

-- a set stands for a variable and the first i of its parents
abbrev pub IsFamily : VarSet → ℕ → List ℕ → ℕ → Type 0
IsFamily family variable parents i = (set : VarSet) → IsSubset family set ↔ (holds_some set variable parents i ≡ true)

pub family_begins : (none one : VarSet) (variable : ℕ) (parents : List ℕ) → ((x : ℕ) → is_member none x ≡ false)
    → ((x : ℕ) → is_member one x ≡ (x == variable) || is_member none x) → IsFamily one variable parents 0
family_begins none one variable parents empty is_one set =
    let nothing : IsSubset none set ↔ (true ≡ true) = (λ subset. refl, λ e x member. absurd (both_ways (is_member none x) (empty x) member)) in
    let both = more_within set none one variable true is_one nothing in
    (λ subset. and_from (is_member set variable) true (both.0 subset) refl, λ e. both.1 ((and_parts (is_member set variable) true e).0))

pub family_grows : (family more : VarSet) (variable : ℕ) (parents : List ℕ) (i d : ℕ) → i < length parents
    → ((x : ℕ) → is_member more x ≡ (x == get_or parents i d) || is_member family x)
    → IsFamily family variable parents i → IsFamily more variable parents (i + 1)
family_grows family more variable parents i d within is_more before set =
    let both = more_within set family more (get_or parents i d) (holds_some set variable parents i) is_more (before set) in
    let same : holds_some set variable parents (i + 1) ≡ (holds_some set variable parents i && is_member set (get_or parents i d)) =
    ap (λ (t : Bool). is_member set variable && t) (list_all_more (is_member set) parents i d within)
    ∙ sym (and_regroups (is_member set variable) (list_all (is_member set) (take i parents)) (is_member set (get_or parents i d))) in
    (λ subset. same ∙ both.0 subset, λ e. both.1 (sym same ∙ e))

pub family_ends : (family : VarSet) (variable : ℕ) (items parents : List ℕ) (i : ℕ) → length items ≤ i → items ≡ parents → IsFamily family variable items i
    → (set : VarSet) → IsSubset family set ↔ ((is_member set variable && list_all (is_member set) parents) ≡ true)
family_ends family variable items parents i past same are set =
    let whole : holds_some set variable items i ≡ (is_member set variable && list_all (is_member set) parents) =
    ap (λ (xs : List ℕ). is_member set variable && list_all (is_member set) xs) (take_all i items past ∙ same) in
    (λ subset. sym whole ∙ (are set).0 subset, λ e. (are set).1 (whole ∙ e))
