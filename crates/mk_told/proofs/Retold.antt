-- Replies whose own words are those of a command and of the next change.
use Rattle.std.specs.Prelude.{◌≡◌, ℕ, ◌<◌, zero, suc, List, [], ◌∷◌, length, map, Bool, true, false}
use Rattle.std.specs.Prelude.{not, Some, slice_get, ◌↔◌, ◌&&◌, ◌+◌, ◌⊎◌}
use Rattle.std.proofs.Common.{refl, sym, ap, ap₂, ◌∙◌, subst, arith, get_or, inl, inr}
use Rattle.std.proofs.lemmas.Bool.{cases_eq}
use Rattle.std.proofs.lemmas.List.{length-map}
use Rattle.mk_names.specs.Texts.{same_text}
use Rattle.mk_net.specs.declared.words.PairText.{PairText}
use Rattle.mk_names.specs.inner.TextLaws.{both, equal_of_same_text, same_text_of_equal}
use Rattle.mk_record.specs.declared.users.Member.{Member}
use Rattle.mk_record.specs.Members.{names_of}
use Rattle.mk_reply.specs.declared.payments.Payment.{Payment}
use Rattle.mk_reply.specs.declared.reply.Reply.{Reply}

-- a reply that is `made` of a thing and a revision tells of another thing and revision where both are the same
pub told_again : {A : Type 0} (made : A → ℕ → Reply) (told : Reply) (a b : A) (at next : ℕ)
    (found : Bool) → told ≡ made a at → a ≡ b → (made a at ≡ made b next → at ≡ next)
    → ((found ≡ true) ↔ (at ≡ next)) → (found ≡ true) ↔ (told ≡ made b next)
told_again made told a b at next found is same apart when = (
  λ yes. is ∙ ap₂ made same (when.0 yes),
  λ agrees. when.1 (apart (sym is ∙ agrees)),
)

-- a reply tells of nothing else than it does
pub told_otherwise : (told given wanted : Reply) (found : Bool) → told ≡ given
    → (given ≡ wanted → ⊥) → found ≡ false → (found ≡ true) ↔ (told ≡ wanted)
told_otherwise told given wanted found is differs none = (
  λ yes. absurd (let no : true ≡ false = sym yes ∙ none in cc),
  λ agrees. absurd (differs (sym is ∙ agrees)),
)

pub equal_names : (user name : List ℕ) → true ≡ same_text user name → user ≡ name
equal_names user name same = equal_of_same_text user name (sym same)

pub unlike_names : (user name : List ℕ) → false ≡ same_text user name → user ≡ name → ⊥
unlike_names user name other same =
    let no : false ≡ true = other ∙ same_text_of_equal user name same in absurd (cc)

-- two pairs of words are the same, or not
abbrev pub same_pair : PairText → PairText → Bool
same_pair pair words = same_text pair.variable words.variable && same_text pair.value words.value

pub equal_of_same_pair : (pair words : PairText) → true ≡ same_pair pair words → pair ≡ words
equal_of_same_pair pair words same =
    let parts = both (same_text pair.variable words.variable)
    (same_text pair.value words.value) (sym same) in
    ap₂ (λ (v w : List ℕ). record { variable = v; value = w })
    (equal_of_same_text pair.variable words.variable parts.0)
    (equal_of_same_text pair.value words.value parts.1)

same_pair_refl : (pair : PairText) → same_pair pair pair ≡ true
same_pair_refl pair = rw (
  same_text_of_equal pair.variable pair.variable refl,
  same_text_of_equal pair.value pair.value refl,
) refl

pub unlike_pairs : (pair words : PairText) → false ≡ same_pair pair words → pair ≡ words → ⊥
unlike_pairs pair words other same =
    let yes : same_pair pair words ≡ true =
    ap (λ (p : PairText). same_pair pair p) (sym same) ∙ same_pair_refl pair in
    let no : false ≡ true = other ∙ yes in absurd (cc)

-- a payment to another user than the next
user_at : (payments : List Payment) (u : ℕ) (other : Payment) → u < length payments
    → slice_get (map (λ (p : Payment). p.user) payments) u ≡ Some (get_or payments u other).user
user_at [] u other within = absurd (omega (arith, within))
user_at (p ∷ ps) zero other within = refl
user_at (p ∷ ps) (suc u) other within = user_at ps u other (omega (arith, within))

is_some : (a b : List ℕ) → Some a ≡ Some b → a ≡ b
is_some a b e = cc

pub paid_another : (payments : List Payment) (names : List (List ℕ)) (u : ℕ) (other : Payment)
    (name : List ℕ) → u < length payments
    → true ≡ not (same_text (get_or payments u other).user name) → slice_get names u ≡ Some name
    → map (λ (p : Payment). p.user) payments ≡ names → ⊥
paid_another payments names u other name within differs its agrees =
    let same : (get_or payments u other).user ≡ name = is_some _ _
    (sym (user_at payments u other within)
    ∙ ap (λ (xs : List (List ℕ)). slice_get xs u) agrees ∙ its) in
    let yes : same_text (get_or payments u other).user name ≡ true =
    same_text_of_equal (get_or payments u other).user name same in
    let no : true ≡ false = differs ∙ ap not yes in
    absurd (cc)

-- as many payments as names, each to the user of its place
abbrev pub AgreeBefore : List Payment → List (List ℕ) → ℕ → Type 0
AgreeBefore payments names n = (u : ℕ) → u < n
    → slice_get (map (λ (p : Payment). p.user) payments) u ≡ slice_get names u

pub none_agree : (payments : List Payment) (names : List (List ℕ)) → AgreeBefore payments names 0
none_agree payments names = λ u before. absurd (omega (arith, before))

pub one_agrees : (payments : List Payment) (names : List (List ℕ)) (n : ℕ) (other : Payment)
    (name : List ℕ) → n < length payments
    → false ≡ not (same_text (get_or payments n other).user name) → slice_get names n ≡ Some name
    → AgreeBefore payments names n → AgreeBefore payments names (n + 1)
one_agrees payments names n other name within same its so_far = λ u before. at u before
    (cases_eq u n)
  where
    unsaid : (b : Bool) → false ≡ not b → b ≡ true
    unsaid true said = refl
    unsaid false said = absurd (cc)

    here : slice_get (map (λ (p : Payment). p.user) payments) n ≡ slice_get names n
    here = user_at payments n other within
        ∙ ap (λ (x : List ℕ). Some x) (equal_of_same_text (get_or payments n other).user name
        (unsaid (same_text (get_or payments n other).user name) same)) ∙ sym its

    at : (u : ℕ) → u < n + 1 → (u ≡ n) ⊎ (u ≡ n → ⊥)
        → slice_get (map (λ (p : Payment). p.user) payments) u ≡ slice_get names u
    at u before (inl e) = subst (λ (k : ℕ). slice_get (map (λ (p : Payment). p.user) payments) k
        ≡ slice_get names k) (sym e) here
    at u before (inr differs) = so_far u (omega (arith, before, differs))

pub all_agree : (payments : List Payment) (names : List (List ℕ))
    → length payments ≡ length names → AgreeBefore payments names (length payments)
    → map (λ (p : Payment). p.user) payments ≡ names
all_agree [] [] count each = refl
all_agree [] (n ∷ ns) count each = absurd (omega (arith, count))
all_agree (p ∷ ps) [] count each = absurd (omega (arith, count))
all_agree (p ∷ ps) (n ∷ ns) count each =
    ap₂ (λ (x : List ℕ) (xs : List (List ℕ)). x ∷ xs) (is_some p.user n (each 0 (omega arith)))
    (all_agree ps ns (omega (arith, count)) (λ u within. each (suc u) (omega (arith, within))))

pub as_many_names : {E P : Type 0} (members : List (Member E P))
    → length (names_of members) ≡ length members
as_many_names {E} {P} members = length-map members (λ (m : Member E P). m.name)
