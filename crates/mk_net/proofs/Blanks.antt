-- An item put behind the first few of a list whose other places are blank.
use Rattle.std.specs.Prelude.{◌≡◌, ℕ, zero, suc, ◌-◌, ◌<◌, List, [], ◌∷◌, ◌++◌, length, take, drop}
use Rattle.std.specs.Prelude.{replicate, slice_set}
use Rattle.std.proofs.Common.{refl, sym, ap, ◌∙◌, arith, length-append, length-take}

pub set_behind : {X : Type 0} (xs : List X) (n : ℕ) (x : X) → n < length xs →
    take (suc n) (slice_set xs n x) ≡ take n xs ++ x ∷ []
set_behind [] n x h = absurd (omega (arith, h))
set_behind (y ∷ ys) zero x h = refl
set_behind (y ∷ ys) (suc n) x h = ap (λ rest. y ∷ rest) (set_behind ys n x (omega (arith, h)))

pub set_length : {X : Type 0} (xs : List X) (n : ℕ) (x : X) → length (slice_set xs n x) ≡ length xs
set_length [] n x = refl
set_length (y ∷ ys) zero x = refl
set_length (y ∷ ys) (suc n) x = ap suc (set_length ys n x)

set_rest : {X : Type 0} (xs : List X) (n : ℕ) (x : X) → n < length xs →
    drop (suc n) (slice_set xs n x) ≡ drop (suc n) xs
set_rest [] n x h = absurd (omega (arith, h))
set_rest (y ∷ ys) zero x h = refl
set_rest (y ∷ ys) (suc n) x h = set_rest ys n x (omega (arith, h))

split_at : {X : Type 0} (n : ℕ) (xs : List X) → take n xs ++ drop n xs ≡ xs
split_at zero xs = refl
split_at (suc n) [] = refl
split_at (suc n) (x ∷ xs) = ap (λ rest. x ∷ rest) (split_at n xs)

behind : {X : Type 0} (n : ℕ) (front rest : List X) → n ≡ length front → drop n (front ++ rest)
    ≡ rest
behind zero [] rest h = refl
behind zero (x ∷ xs) rest h = absurd (omega (arith, h))
behind (suc n) [] rest h = absurd (omega (arith, h))
behind (suc n) (x ∷ xs) rest h = behind n xs rest (omega (arith, h))

one_fewer : {X : Type 0} (blank : X) (k n : ℕ) (xs : List X) → drop n xs ≡ replicate (suc k) blank →
    drop (suc n) xs ≡ replicate k blank
one_fewer blank k zero [] h = cc
one_fewer blank k zero (x ∷ xs) h = cc
one_fewer blank k (suc n) [] h = cc
one_fewer blank k (suc n) (x ∷ xs) h = one_fewer blank k n xs h

-- a list of so many items, of which the first n are no blanks, and then one more is none
pub blanks_longer : {X : Type 0} (blank : X) (most : ℕ) (xs : List X) (n : ℕ) (x : X) →
    length xs ≡ most → n < most → take n xs ++ replicate (most - length (take n xs)) blank ≡ xs →
    take (suc n) (slice_set xs n x) ++ replicate (most - length (take (suc n) (slice_set xs n x)))
    blank
    ≡ slice_set xs n x
blanks_longer {X} blank most xs n x whole more padded =
    let inside : n < length xs = omega (arith, whole, more) in
    let size : length (take n xs) ≡ n = grind (arith, length-take {A = X}, whole, more) in
    let blanks : drop n xs ≡ replicate (most - n) blank =
    ap (drop n) (sym padded) ∙ behind n (take n xs) (replicate (most - length (take n xs)) blank)
    (sym size)
    ∙ ap (λ (k : ℕ). replicate (most - k) blank) size in
    let count : most - n ≡ suc (most - (suc n)) = omega (arith, more) in
    let fewer : drop (suc n) xs ≡ replicate (most - (suc n)) blank =
    one_fewer blank (most - (suc n)) n xs (blanks ∙ ap (λ (k : ℕ). replicate k blank) count) in
    let front : take (suc n) (slice_set xs n x) ≡ take n xs ++ x ∷ [] = set_behind xs n x inside in
    let front_size : length (take (suc n) (slice_set xs n x)) ≡ suc n =
    ap length front ∙ omega (arith, length-append (take n xs) (x ∷ []), size) in
    ap (λ (k : ℕ). take (suc n) (slice_set xs n x) ++ replicate (most - k) blank) front_size
    ∙ ap (λ (rest : List X). take (suc n) (slice_set xs n x) ++ rest)
    (sym (set_rest xs n x inside ∙ fewer))
    ∙ split_at (suc n) (slice_set xs n x)
