-- `same_text` says whether two texts are equal.
use Rattle.std.specs.Prelude.{◌≡◌, ℕ, List, [], ◌∷◌, Bool, ◌&&◌, eqb}
use Rattle.std.proofs.Common.{refl, ap}
use Rattle.std.specs.Cmp.Lexicographic.{pointwise}
use Rattle.mk_names.specs.Texts.{same_text}
pub use Rattle.mk_names.specs.inner.TextLaws.{same_text_refl, same_text_of_equal, both, equal_of_same_text}

pub pointwise_is_same_text : (a b : List ℕ) → pointwise eqb a b ≡ same_text a b
pointwise_is_same_text [] [] = refl
pointwise_is_same_text [] (y ∷ ys) = refl
pointwise_is_same_text (x ∷ xs) [] = refl
pointwise_is_same_text (x ∷ xs) (y ∷ ys) = ap (λ (rest : Bool). eqb x y && rest) (pointwise_is_same_text xs ys)
