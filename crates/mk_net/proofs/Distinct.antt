-- Where no two texts are the same: in a list without a double, among the names of a faultless draft, and among the numbers of
-- parents.
use Rattle.std.specs.Prelude.{◌≡◌, ◌≢◌, ℕ, ◌+◌, ◌-◌, ◌<◌, List, [], ◌∷◌, map, length, take, Bool, true, false, cond, not, nat_lt, All, get_or}
use Rattle.std.specs.List.{list_any, position_or_len}
use Rattle.std.proofs.Common.{refl, sym, ap, ◌∙◌, arith, one-add}
use Rattle.std.proofs.lemmas.List.{get_or-map, get_or-take, length-map, length-take}
use Rattle.std.proofs.lemmas.List.Kept.{AllPairs-cons}
use Rattle.std.proofs.lemmas.List.Elements.{All-map, All-head, All-tail}
use Rattle.mk_names.specs.Texts.{same_text}
use Rattle.mk_names.specs.inner.TextLaws.{same_text_of_equal, equal_of_same_text}
use Rattle.mk_net.specs.Network.{AreDistinct}
use Rattle.mk_net.specs.Drafts.{DraftOfVariable}
use Rattle.mk_net.specs.Checked.{has_double, number_of, is_before}
use Rattle.mk_net.proofs.Taken.{neither_of, any_at, none_before}

pub distinct_texts : (texts : List (List ℕ)) → has_double texts ≡ false → AreDistinct texts
distinct_texts [] h = λ i j d p q. absurd (omega arith)
distinct_texts (t ∷ ts) h =
    let parts = neither_of (list_any (same_text t) ts) (has_double ts) h in
    AllPairs-cons (λ x y. x ≢ y) t ts
    (λ k d within same. let other : same_text t (get_or ts k d) ≡ false = any_at (same_text t) ts k d (parts.0) within in let alike = same_text_of_equal t (get_or ts k d) same in absurd (cc))
    (distinct_texts ts (parts.1))

-- the place of the first that passes holds one that does
pub found_at : {X : Type 0} (p : X → Bool) (xs : List X) (d : X) → position_or_len p xs < length xs → p (get_or xs (position_or_len p xs) d) ≡ true
found_at p [] d h = absurd (omega (arith, h))
found_at p (x ∷ xs) d h = choose (p x) refl h (found_at p xs d)
  where
    choose : (b : Bool) → p x ≡ b → cond (not b) (1 + position_or_len p xs) 0 < length (x ∷ xs)
        → (position_or_len p xs < length xs → p (get_or xs (position_or_len p xs) d) ≡ true) → p (get_or (x ∷ xs) (cond (not b) (1 + position_or_len p xs) 0) d) ≡ true
    choose true e h rest = e
    choose false e h rest = rw one-add (rest (omega (arith, h)))

pub no_draft : DraftOfVariable
no_draft = record { name = []; values = []; parents = []; rows = [] }

-- known names of one number are the same
same_number : (draft : List DraftOfVariable) (a b : List ℕ) → number_of draft a < length draft → number_of draft a ≡ number_of draft b → a ≡ b
same_number draft a b known same =
    let first : same_text a (get_or draft (number_of draft a) no_draft).name ≡ true = found_at (λ (v : DraftOfVariable). same_text a v.name) draft no_draft known in
    let second : same_text b (get_or draft (number_of draft b) no_draft).name ≡ true = found_at (λ (v : DraftOfVariable). same_text b v.name) draft no_draft (omega (arith, known, same)) in
    equal_of_same_text a (get_or draft (number_of draft a) no_draft).name first
    ∙ ap (λ (n : ℕ). (get_or draft n no_draft).name) same
    ∙ sym (equal_of_same_text b (get_or draft (number_of draft b) no_draft).name second)

pub distinct_numbers : (draft : List DraftOfVariable) (texts : List (List ℕ)) → has_double texts ≡ false → All (λ (t : List ℕ). number_of draft t < length draft) texts
    → AreDistinct (map (number_of draft) texts)
distinct_numbers draft [] h known = λ i j d p q. absurd (omega arith)
distinct_numbers draft (t ∷ ts) h known =
    let parts = neither_of (list_any (same_text t) ts) (has_double ts) h in
    AllPairs-cons (λ x y. x ≢ y) (number_of draft t) (map (number_of draft) ts)
    (All-map (λ (n : ℕ). number_of draft t ≢ n) (number_of draft) ts
    (λ k d within same.
    let other : same_text t (get_or ts k d) ≡ false = any_at (same_text t) ts k d (parts.0) within in
    let alike = same_text_of_equal t (get_or ts k d) (same_number draft t (get_or ts k d) (All-head (λ (t : List ℕ). number_of draft t < length draft) t ts known) same) in
    absurd (cc)))
    (distinct_numbers draft ts (parts.1) (All-tail (λ (t : List ℕ). number_of draft t < length draft) t ts known))

-- where no variable has the name of an earlier one, their names differ
pub distinct_names : (draft : List DraftOfVariable) → ((k : ℕ) → k < length draft → is_before draft (1 + k) (get_or draft k no_draft).name ≡ false)
    → AreDistinct (map (λ (v : DraftOfVariable). v.name) draft)
distinct_names draft fresh i j d p q same =
    let within : j < length draft = omega (arith, q, length-map draft (λ (v : DraftOfVariable). v.name)) in
    let name : List ℕ = (get_or draft j no_draft).name in
    let later : nat_lt (number_of draft name) j ≡ false = ap (λ (n : ℕ). nat_lt (number_of draft name) n) (let e : j ≡ 1 + j - 1 = omega arith in e) ∙ fresh j within in
    let none : list_any (λ (v : DraftOfVariable). same_text name v.name) (take j draft) ≡ false = none_before (λ (v : DraftOfVariable). same_text name v.name) draft j later in
    let other : same_text name (get_or (take j draft) i no_draft).name ≡ false = any_at (λ (v : DraftOfVariable). same_text name v.name) (take j draft) i no_draft none (omega (arith, p, within, length-take j draft)) in
    let earlier : get_or (take j draft) i no_draft ≡ get_or draft i no_draft = get_or-take j draft i no_draft p in
    let first : get_or (map (λ (v : DraftOfVariable). v.name) draft) i d ≡ (get_or draft i no_draft).name = get_or-map (λ (v : DraftOfVariable). v.name) draft i no_draft d (omega (arith, p, within)) in
    let second : get_or (map (λ (v : DraftOfVariable). v.name) draft) j d ≡ name = get_or-map (λ (v : DraftOfVariable). v.name) draft j no_draft d within in
    let alike : same_text name (get_or (take j draft) i no_draft).name ≡ true = same_text_of_equal name (get_or (take j draft) i no_draft).name
    (sym second ∙ sym same ∙ first ∙ ap (λ (v : DraftOfVariable). v.name) (sym earlier)) in
    absurd (cc)
