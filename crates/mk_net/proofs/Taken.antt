-- Names that are not yet taken: in a list without a double, in a map and in a set.
use Rattle.std.specs.Prelude.{◌≡◌, ◌≢◌, All, ℕ, zero, suc, ◌+◌, ◌<◌, ◌≤◌, List, [], ◌∷◌, ◌++◌}
use Rattle.std.specs.Prelude.{length, take, Bool, true, false, ◌||◌, cond, not, nat_lt}
use Rattle.std.specs.List.{list_any, position_or_len}
use Rattle.std.proofs.Common.{refl, sym, ap, ◌∙◌, arith, get_or}
use Rattle.std.proofs.lemmas.Bool.{ltb-false, le-ltb}
use Rattle.std.proofs.lemmas.List.{get_or-take, get_or_default, length-take}
use Rattle.std.proofs.lemmas.List.Folds.{list_any_none}
use Rattle.indexmap.specs.IndexMap.{insert_entry}
use Rattle.indexmap.specs.IndexSet.{insert_key}
use Rattle.mk_names.specs.Texts.{same_text}
use Rattle.mk_names.specs.inner.TextLaws.{same_text_equiv, equal_of_same_text}
use Rattle.mk_net.specs.Network.{AreDistinct}
use Rattle.mk_net.specs.Checked.{has_double}

pub neither_of : (p q : Bool) → p || q ≡ false → (p ≡ false) × (q ≡ false)
neither_of true q h = cc
neither_of false q h = (refl, h)

pub any_at : {X : Type 0} (p : X → Bool) (xs : List X) (i : ℕ) (d : X) → list_any p xs ≡ false → i < length xs → p (get_or xs i d) ≡ false
any_at p [] i d h within = absurd (omega (arith, within))
any_at p (x ∷ xs) zero d h within = (neither_of (p x) (list_any p xs) h).0
any_at p (x ∷ xs) (suc i) d h within = any_at p xs i d ((neither_of (p x) (list_any p xs) h).1) (omega (arith, within))

-- a text of a list without a double is none of the earlier ones
pub untaken : (texts : List (List ℕ)) (i : ℕ) (d : List ℕ) → has_double texts ≡ false → i < length texts →
    list_any (same_text (get_or texts i d)) (take i texts) ≡ false
untaken [] i d h within = absurd (omega (arith, within))
untaken (t ∷ ts) zero d h within = refl
untaken (t ∷ ts) (suc i) d h within =
    let parts = neither_of (list_any (same_text t) ts) (has_double ts) h in
    let here : same_text t (get_or ts i d) ≡ false = any_at (same_text t) ts i d (parts.0) (omega (arith, within)) in
    let turned : same_text (get_or ts i d) t ≡ false = same_text_equiv.symm (get_or ts i d) t ∙ here in
    rw turned (untaken ts i d (parts.1) (omega (arith, within)))

-- where the first that passes is not among the first few, none of these passes
pub none_before : {X : Type 0} (p : X → Bool) (xs : List X) (i : ℕ) → nat_lt (position_or_len p xs) i ≡ false → list_any p (take i xs) ≡ false
none_before p [] zero h = refl
none_before p [] (suc i) h = refl
none_before p (x ∷ xs) zero h = refl
none_before p (x ∷ xs) (suc i) h = choose (p x) refl h (none_before p xs i)
  where
    choose : (b : Bool) → p x ≡ b → nat_lt (cond (not b) (1 + position_or_len p xs) 0) (suc i) ≡ false →
        (nat_lt (position_or_len p xs) i ≡ false → list_any p (take i xs) ≡ false) → p x || list_any p (take i xs) ≡ false
    choose true e h later = absurd (let past : suc i ≤ 0 = ltb-false 0 (suc i) h in omega arith)
    choose false e h later =
        let past : suc i ≤ 1 + position_or_len p xs = ltb-false (1 + position_or_len p xs) (suc i) h in
        let rest : nat_lt (position_or_len p xs) i ≡ false = le-ltb (position_or_len p xs) i (omega arith) in
        rw e (later rest)

not_same : (a b : List ℕ) → a ≢ b → same_text a b ≡ false
not_same a b other = choose (same_text a b) refl
  where
    choose : (found : Bool) → same_text a b ≡ found → same_text a b ≡ false
    choose true e = absurd (other (equal_of_same_text a b e))
    choose false e = e

-- a text of a list of different ones is none of the earlier ones
pub distinct_untaken : (texts : List (List ℕ)) (i : ℕ) (d : List ℕ) → AreDistinct texts
    → i < length texts →
    list_any (same_text (get_or texts i d)) (take i texts) ≡ false
distinct_untaken texts i d distinct within =
    list_any_none (same_text (get_or texts i d)) (take i texts)
    (λ j e inside.
    let before : j < i = omega (arith, inside, length-take i texts) in
    not_same (get_or texts i d) (get_or (take i texts) j e)
    (λ same. distinct j i e before within
    (sym (get_or-take i texts j e before) ∙ sym same ∙ get_or_default texts i d e within)))

-- and so is one that differs from each
pub others_untaken : (name : List ℕ) (texts : List (List ℕ)) → All (λ t. name ≢ t) texts →
    list_any (same_text name) texts ≡ false
others_untaken name texts other =
    list_any_none (same_text name) texts (λ i d inside. not_same name (get_or texts i d)
    (other i d inside))

-- an untaken name goes to the end
pub inserted_name : (names : List (List ℕ)) (name : List ℕ) → list_any (same_text name) names ≡ false →
    insert_key same_text names name ≡ names ++ name ∷ []
inserted_name names name h = rw h refl

pub inserted_entry : {X : Type 0} (entries : List (List ℕ × X)) (name : List ℕ) (v : X) →
    list_any (λ (e : List ℕ × X). same_text name (e.0)) entries ≡ false →
    insert_entry same_text entries name v ≡ entries ++ (name, v) ∷ []
inserted_entry [] name v h = refl
inserted_entry {X} (e ∷ es) name v h =
    let parts = neither_of (same_text name (e.0)) (list_any (λ (e : List ℕ × X). same_text name (e.0)) es) h in
    rw (parts.0) (ap (λ (rest : List (List ℕ × X)). e ∷ rest) (inserted_entry es name v (parts.1)))
