-- Least values that are present: each is one of the values, and at most each that is present.
use Rattle.std.proofs.Common.{◌≡◌, ℕ, suc, zero, ◌+◌, ◌*◌, ◌<◌, ◌≤◌, ◌⊎◌, inl, inr, List, [], ◌∷◌}
use Rattle.std.proofs.Common.{refl}
use Rattle.std.proofs.Common.{sym, ap, ◌∙◌, arith}
use Rattle.std.specs.List.{AllByRecursion, range_with_len}
use Rattle.std.proofs.lemmas.Bool.{cases_eq, cases_lt}
use Rattle.mk_states.specs.States.{states, plus_over, IsState}
use Rattle.mk_states.proofs.Sums.{plus_over-states}
use Rattle.mk_sums.proofs.States.{is_plus}
use Rattle.mk_cell.specs.Least.{least, least-zero, least-at_zero, least-both}
use Rattle.mk_cell.specs.Passes.{plus_below}
use Rattle.mk_semiring.specs.Least.{absent_or_present, least_lawful}

-- ---- of two

pub at_most_left : (a b : ℕ) → 0 < a → (0 < least a b) × (least a b ≤ a)
at_most_left a b p = at (absent_or_present b)
  where
    at : ((b ≡ 0) ⊎ (0 < b)) → (0 < least a b) × (least a b ≤ a)
    at (inl z) = let e : least a b ≡ a = ap (least a) z ∙ least-at_zero a in (
      omega (arith, e),
      omega (arith, e),
    )
    at (inr q) = let e = least-both a b p q in (omega (arith, e), omega (arith, e))

pub at_most_right : (a b : ℕ) → 0 < b → (0 < least a b) × (least a b ≤ b)
at_most_right a b q =
    let e = least_lawful.commutes a b in let h = at_most_left b a q in (
      omega (arith, e, h.0),
      omega (arith, e, h.1),
    )

pub is_either : (a b : ℕ) → (least a b ≡ a) ⊎ (least a b ≡ b)
is_either a b = by (absent_or_present a) (absent_or_present b)
  where
    less : 0 < a → 0 < b → ((a < b) ⊎ (b ≤ a)) → (least a b ≡ a) ⊎ (least a b ≡ b)
    less p q (inl l) = let e = least-both a b p q in inl (omega (arith, e))
    less p q (inr l) = let e = least-both a b p q in inr (omega (arith, e))

    by : ((a ≡ 0) ⊎ (0 < a)) → ((b ≡ 0) ⊎ (0 < b)) → (least a b ≡ a) ⊎ (least a b ≡ b)
    by (inl z) y = inr (ap (λ k. least k b) z ∙ least-zero b)
    by (inr p) (inl z) = inl (ap (least a) z ∙ least-at_zero a)
    by (inr p) (inr q) = less p q (cases_lt a b)

-- ---- of the numbers below a bound

pub below_has : (n : ℕ) (f : ℕ → ℕ) (c : ℕ) → c < n → 0 < f c
    → (0 < plus_below least n f) × (plus_below least n f ≤ f c)
below_has zero f c l p = absurd (omega arith)
below_has (suc n) f c l p = at (cases_eq c n) (λ d. below_has n f c (omega (arith, d)) p)
  where
    at : ((c ≡ n) ⊎ (c ≡ n → ⊥)) → ((c ≡ n → ⊥)
        → (0 < plus_below least n f) × (plus_below least n f ≤ f c))
        → (0 < least (plus_below least n f) (f n)) × (least (plus_below least n f) (f n) ≤ f c)
    at (inl e) before =
        let g : f c ≡ f n = ap f e in
        let h = at_most_right (plus_below least n f) (f n) (omega (arith, g)) in
        (h.0, omega (arith, h.1, g))
    at (inr d) before =
        let h = before d in let k = at_most_left (plus_below least n f) (f n) h.0
        in (k.0, omega (arith, k.1, h.1))

pub below_attained : (n : ℕ) (f : ℕ → ℕ)
    → (plus_below least n f ≡ 0) ⊎ ((c : ℕ) × (c < n) × (f c ≡ plus_below least n f))
below_attained zero f = inl refl
below_attained (suc n) f = at (is_either (plus_below least n f) (f n)) (below_attained n f)
  where
    at : ((least (plus_below least n f) (f n) ≡ plus_below least n f) ⊎ (least (plus_below least n
        f) (f n) ≡ f n))
        → ((plus_below least n f ≡ 0) ⊎ ((c : ℕ) × (c < n) × (f c ≡ plus_below least n f)))
        → (least (plus_below least n f) (f n) ≡ 0) ⊎ ((c : ℕ) × (c < suc n) × (f c ≡ least
        (plus_below least n f) (f n)))
    at (inl e) (inl z) = inl (e ∙ z)
    at (inl e) (inr h) = inr (h.0, omega (arith, h.1), h.2 ∙ sym e)
    at (inr e) h = inr (n, omega arith, sym e)

-- a common factor goes out
pub below-times : (k n : ℕ) (f : ℕ → ℕ) → plus_below least n (λ c. k * f c) ≡ k * plus_below least
    n f
below-times k zero f = omega arith
below-times k (suc n) f =
    ap (λ y. least y (k * f n)) (below-times k n f)
    ∙ sym (least_lawful.distributes k (plus_below least n f) (f n))

-- of equal values
pub below_each : (n : ℕ) (f g : ℕ → ℕ) → ((c : ℕ) → c < n → f c ≡ g c)
    → plus_below least n f ≡ plus_below least n g
below_each zero f g h = refl
below_each (suc n) f g h =
    ap (λ y. least y (f n)) (below_each n f g (λ c l. h c (omega arith)))
    ∙ ap (least (plus_below least n g)) (h n (omega arith))

-- ---- of a list

pub over_attained : {X : Type 0} (P : X → Type 0) (f : X → ℕ) (xs : List X) → AllByRecursion P xs
    → (plus_over least 0 f xs ≡ 0) ⊎ ((x : X) × P x × (f x ≡ plus_over least 0 f xs))
over_attained P f [] h = inl refl
over_attained {X} P f (x ∷ xs) h = at (is_either (f x) (plus_over least 0 f xs)) (over_attained P f
    xs h.1)
  where
    at : ((least (f x) (plus_over least 0 f xs) ≡ f x) ⊎ (least (f x) (plus_over least 0 f xs) ≡
        plus_over least 0 f xs))
        → ((plus_over least 0 f xs ≡ 0) ⊎ ((y : X) × P y × (f y ≡ plus_over least 0 f xs)))
        → (least (f x) (plus_over least 0 f xs) ≡ 0) ⊎ ((y : X) × P y × (f y ≡ least (f x)
        (plus_over least 0 f xs)))
    at (inl e) r = inr (x, h.0, sym e)
    at (inr e) (inl z) = inl (e ∙ z)
    at (inr e) (inr r) = inr (r.0, r.1, r.2 ∙ sym e)

numbers_have : (f : ℕ → ℕ) (n a v : ℕ) → a ≤ v → v < a + n → 0 < f v
    → (0 < plus_over least 0 f (range_with_len a n)) × (plus_over least 0 f (range_with_len a n) ≤
    f v)
numbers_have f zero a v h k p = absurd (omega arith)
numbers_have f (suc n) a v h k p = at (cases_eq v a) (λ d. numbers_have f n (a + 1) v (omega
    (arith, d)) (omega arith) p)
  where
    rest : ℕ
    rest = plus_over least 0 f (range_with_len (a + 1) n)

    at : ((v ≡ a) ⊎ (v ≡ a → ⊥)) → ((v ≡ a → ⊥) → (0 < rest) × (rest ≤ f v))
        → (0 < least (f a) rest) × (least (f a) rest ≤ f v)
    at (inl e) later =
        let g : f v ≡ f a = ap f e in
        let i = at_most_left (f a) rest (omega (arith, g)) in
        (i.0, omega (arith, i.1, g))
    at (inr d) later =
        let i = later d in let j = at_most_right (f a) rest i.0 in (j.0, omega (arith, j.1, i.1))

-- each state is listed
pub states_have : (sizes : List ℕ) (f : List ℕ → ℕ) (s : List ℕ) → IsState sizes s → 0 < f s
    → (0 < plus_over least 0 f (states sizes)) × (plus_over least 0 f (states sizes) ≤ f s)
states_have [] f [] is p = at_most_left (f []) 0 p
states_have [] f (v ∷ s) is p = let e = is.one_each in absurd (omega (arith, e))
states_have (n ∷ ns) f [] is p = let e = is.one_each in absurd (omega (arith, e))
states_have (n ∷ ns) f (v ∷ s) is p =
    let g : ℕ → ℕ = λ w. plus_over least 0 (λ (t : List ℕ). f (w ∷ t)) (states ns) in
    let rest : IsState ns s = record {
      one_each = let e = is.one_each in omega (arith, e);
      in_range = λ k l. is.in_range (suc k) (omega arith);
    } in
    let inner = states_have ns (λ t. f (v ∷ t)) s rest p in
    let first = is.in_range 0 (omega arith) in
    let outer = numbers_have g n 0 v (omega arith) (omega (arith, first)) inner.0 in
    let e = plus_over-states least 0 (is_plus least least_lawful) f n ns in
    (omega (arith, e, outer.0), omega (arith, e, outer.1, inner.1))
