-- `same_text` is equality of texts, and texts that are equal are hashed alike.
use Rattle.std.specs.Prelude.{◌≡◌, ℕ, List, [], ◌∷◌, Bool, true, false, ◌&&◌, ◌==◌, IsTrue}
use Rattle.std.proofs.Common.{refl, sym, ap, ◌∙◌}
use Rattle.std.specs.Cmp.{IsEquivalence, decided}
use Rattle.std.specs.Hash as fed
use Rattle.std.proofs.lemmas.Bool.{eqb-true, eq-eqb}
use Rattle.mk_names.specs.Texts.{same_text}

pub same_text_refl : (a : List ℕ) → same_text a a ≡ true
same_text_refl [] = refl
same_text_refl (x ∷ xs) = rw (eq-eqb x x refl, same_text_refl xs)

pub same_text_of_equal : (a b : List ℕ) → a ≡ b → same_text a b ≡ true
same_text_of_equal a b e = ap (λ (b : List ℕ). same_text a b) (sym e) ∙ same_text_refl a

pub both : (p q : Bool) → p && q ≡ true → (p ≡ true) × (q ≡ true)
both true true h = (refl, refl)
both true false h = cc
both false q h = cc

pub equal_of_same_text : (a b : List ℕ) → same_text a b ≡ true → a ≡ b
equal_of_same_text [] [] h = refl
equal_of_same_text [] (y ∷ ys) h = cc
equal_of_same_text (x ∷ xs) [] h = cc
equal_of_same_text (x ∷ xs) (y ∷ ys) h =
    let parts : ((x == y) ≡ true) × (same_text xs ys ≡ true) = both (x == y) (same_text xs ys) h in
    let first : x ≡ y = eqb-true x y (parts.0) in
    let rest : xs ≡ ys = equal_of_same_text xs ys (parts.1) in
    cc

pub same_text_equiv : IsEquivalence same_text
same_text_equiv = decided same_text (λ a b. (equal_of_same_text a b, same_text_of_equal a b))

pub alike_fed : (a b : List ℕ) → IsTrue (same_text a b) → fed.slice fed.u8 a ≡ fed.slice fed.u8 b
alike_fed a b h = ap (λ (t : List ℕ). fed.slice fed.u8 t) (equal_of_same_text a b h)
