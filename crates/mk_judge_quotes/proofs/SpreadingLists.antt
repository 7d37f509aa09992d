-- Shares inside of intervals, place by place.
use Rattle.std.proofs.Common.{◌≡◌, ℕ, zero, suc, ◌<◌, List, [], ◌∷◌, length, get_or, arith}
use Rattle.std.specs.List.{AllZip}

pub zip_at : {A B : Type 0} (R : A → B → Type 0) (xs : List A) (ys : List B) (i : ℕ) (d : A) (e : B) → AllZip R xs ys → i < length xs → R (get_or xs i d) (get_or ys i e)
zip_at R [] ys i d e h k = absurd (omega arith)
zip_at R (x ∷ xs) [] i d e h k = absurd h
zip_at R (x ∷ xs) (y ∷ ys) zero d e h k = h.0
zip_at R (x ∷ xs) (y ∷ ys) (suc i) d e h k = zip_at R xs ys i d e h.1 (omega arith)

pub zip_from : {A B : Type 0} (R : A → B → Type 0) (xs : List A) (ys : List B) (d : A) (e : B) → length xs ≡ length ys
    → ((k : ℕ) → k < length xs → R (get_or xs k d) (get_or ys k e)) → AllZip R xs ys
zip_from R [] [] d e l h = tt
zip_from R [] (y ∷ ys) d e l h = absurd (omega arith)
zip_from R (x ∷ xs) [] d e l h = absurd (omega arith)
zip_from R (x ∷ xs) (y ∷ ys) d e l h = (h 0 (omega arith), zip_from R xs ys d e (omega arith) (λ k p. h (suc k) (omega arith)))

pub zip_long : {A B : Type 0} (R : A → B → Type 0) (xs : List A) (ys : List B) → AllZip R xs ys → length xs ≡ length ys
zip_long R [] [] h = omega arith
zip_long R [] (y ∷ ys) h = absurd h
zip_long R (x ∷ xs) [] h = absurd h
zip_long R (x ∷ xs) (y ∷ ys) h = omega (arith, zip_long R xs ys h.1)
