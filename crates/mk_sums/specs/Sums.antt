-- Nested sums over assignments, which give each variable a value.
use Rattle.std.specs.Prelude.{◌≡◌, ℕ, zero, suc, Bool, true, false, cond, ◌==◌, ◌||◌, List, [], ◌∷◌}

-- the assignment with the value v at x
abbrev pub upd : (ℕ → ℕ) → ℕ → ℕ → ℕ → ℕ
upd a x v y = cond (y == x) v (a y)

-- the exact plus of f over the numbers below a bound
abbrev pub plus_below : (ℕ → ℕ → ℕ) → ℕ → (ℕ → ℕ) → ℕ
plus_below plus zero f = 0
plus_below plus (suc n) f = plus (plus_below plus n f) (f n)

-- the exact plus of f over all values of the listed variables that are in the set; each other variable keeps its value in a
abbrev pub over : (ℕ → ℕ → ℕ) → (ℕ → ℕ) → (ℕ → Bool) → List ℕ → ((ℕ → ℕ) → ℕ) → (ℕ → ℕ) → ℕ
over plus size set [] f a = f a
over plus size set (x ∷ xs) f a =
    cond (set x) (plus_below plus (size x) (λ v. over plus size set xs f (upd a x v))) (over plus size set xs f a)

-- f reads no variable outside the set
abbrev pub Within : (ℕ → Bool) → ((ℕ → ℕ) → ℕ) → Type 0
Within set f = (a b : ℕ → ℕ) → ((x : ℕ) → set x ≡ true → a x ≡ b x) → f a ≡ f b

-- f reads no variable of the set
abbrev pub Blind : (ℕ → Bool) → ((ℕ → ℕ) → ℕ) → Type 0
Blind set f = (a : ℕ → ℕ) (x v : ℕ) → set x ≡ true → f (upd a x v) ≡ f a

-- a variable is listed
abbrev pub listed : List ℕ → ℕ → Bool
listed [] x = false
listed (y ∷ ys) x = (x == y) || listed ys x
