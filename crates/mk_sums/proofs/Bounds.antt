-- Every sum is at most the sum over all states, where the full values are at least 1.
use Rattle.std.proofs.Common.{◌≡◌, ℕ, suc, zero, ◌+◌, ◌<◌, ◌≤◌, Bool, true, false, cond, ◌⊎◌, inl, inr, eqb, List, [], ◌∷◌, refl, sym, ap, subst, arith, le_refl, eq-eqb, ne_eqb}
use Rattle.std.proofs.Math.Path.{fun_ext}
use Rattle.std.proofs.Math.Nat.{mul-le-mul}
use Rattle.std.proofs.lemmas.Bool.{cases_eq, or_left, or_right}
use Rattle.mk_states.specs.Lawful.{Lawful}
use Rattle.mk_sums.specs.Sums.{upd, plus_below, over, listed}
use Rattle.mk_sums.specs.Trees.{times_of}
use Rattle.mk_sums.specs.Cells.{InRange}

le_then : (a b c : ℕ) → a ≤ b → b ≤ c → a ≤ c
le_then a b c h k = omega arith

pub sum_grows : (n : ℕ) (f g : ℕ → ℕ) → ((v : ℕ) → v < n → f v ≤ g v) → plus_below ◌+◌ n f ≤ plus_below ◌+◌ n g
sum_grows zero f g h = omega arith
sum_grows (suc n) f g h = let p = sum_grows n f g (λ v q. h v (omega arith)) in let r = h n (omega arith) in omega (arith, p, r)

pub sum_has : (n v : ℕ) (f : ℕ → ℕ) → v < n → f v ≤ plus_below ◌+◌ n f
sum_has zero v f h = absurd (omega arith)
sum_has (suc n) v f h = at (cases_eq v n) (sum_has n v f)
  where
    at : ((v ≡ n) ⊎ (v ≡ n → ⊥)) → (v < n → f v ≤ plus_below ◌+◌ n f) → f v ≤ plus_below ◌+◌ n f + f n
    at (inl e) ih = let p : f v ≡ f n = ap f e in omega (arith, p)
    at (inr d) ih = let p : f v ≤ plus_below ◌+◌ n f = ih (omega arith) in omega (arith, p)

plus_at_most : (plus : ℕ → ℕ → ℕ) → Lawful plus → (n : ℕ) (f : ℕ → ℕ) → plus_below plus n f ≤ plus_below ◌+◌ n f
plus_at_most plus law zero f = omega arith
plus_at_most plus law (suc n) f = let p = plus_at_most plus law n f in let q = law.bounded (plus_below plus n f) (f n) in omega (arith, p, q)

pub over_at_most : (plus : ℕ → ℕ → ℕ) → Lawful plus → (size : ℕ → ℕ) (set : ℕ → Bool) (xs : List ℕ) (f : (ℕ → ℕ) → ℕ) (a : ℕ → ℕ) → over plus size set xs f a ≤ over ◌+◌ size set xs f a
over_at_most plus law size set [] f a = le_refl (f a)
over_at_most plus law size set (x ∷ xs) f a = at (over_at_most plus law size set xs f) (set x)
  where
    at : ((d : ℕ → ℕ) → over plus size set xs f d ≤ over ◌+◌ size set xs f d) → (b : Bool)
        → cond b (plus_below plus (size x) (λ v. over plus size set xs f (upd a x v))) (over plus size set xs f a)
        ≤ cond b (plus_below ◌+◌ (size x) (λ v. over ◌+◌ size set xs f (upd a x v))) (over ◌+◌ size set xs f a)
    at ih true =
        le_then _ (plus_below ◌+◌ (size x) (λ v. over plus size set xs f (upd a x v))) _
        (plus_at_most plus law (size x) (λ v. over plus size set xs f (upd a x v)))
        (sum_grows (size x) (λ v. over plus size set xs f (upd a x v)) (λ v. over ◌+◌ size set xs f (upd a x v)) (λ v _. ih (upd a x v)))
    at ih false = ih a

upd_itself : (a : ℕ → ℕ) (x : ℕ) → a ≡ upd a x (a x)
upd_itself a x = fun_ext (λ y. at y (cases_eq y x))
  where
    at : (y : ℕ) → ((y ≡ x) ⊎ (y ≡ x → ⊥)) → a y ≡ upd a x (a x) y
    at y (inl e) = rw (eq-eqb y x e) (ap a e)
    at y (inr d) = rw (ne_eqb y x d)

upd_in_range : (size : ℕ → ℕ) (vars : List ℕ) (a : ℕ → ℕ) (x v : ℕ) → InRange size vars a → v < size x → InRange size vars (upd a x v)
upd_in_range size vars a x v h k y p = at (cases_eq y x)
  where
    at : ((y ≡ x) ⊎ (y ≡ x → ⊥)) → upd a x v y < size y
    at (inl e) = rw (eq-eqb y x e) (subst (λ z. v < size z) (sym e) k)
    at (inr d) = rw (ne_eqb y x d) (h y p)

module _ (size : ℕ → ℕ) (vars : List ℕ) (set : ℕ → Bool) (f g : (ℕ → ℕ) → ℕ) (grows : (t : ℕ → ℕ) → InRange size vars t → f t ≤ g t) where
  pub over_grows : (xs : List ℕ) → ((x : ℕ) → listed xs x ≡ true → listed vars x ≡ true) → (a : ℕ → ℕ) → InRange size vars a
      → over ◌+◌ size set xs f a ≤ over ◌+◌ size (λ x. true) xs g a
  over_grows [] inside a h = grows a h
  over_grows (x ∷ xs) inside a h = at (over_grows xs (λ y p. inside y (or_right (eqb y x) (listed xs y) p))) (set x)
    where
      all : (v : ℕ) → ℕ
      all v = over ◌+◌ size (λ y. true) xs g (upd a x v)

      here : a x < size x
      here = h x (inside x (or_left (eqb x x) (listed xs x) (eq-eqb x x refl)))

      at : ((d : ℕ → ℕ) → InRange size vars d → over ◌+◌ size set xs f d ≤ over ◌+◌ size (λ y. true) xs g d) → (b : Bool)
          → cond b (plus_below ◌+◌ (size x) (λ v. over ◌+◌ size set xs f (upd a x v))) (over ◌+◌ size set xs f a) ≤ plus_below ◌+◌ (size x) all
      at ih true = sum_grows (size x) (λ v. over ◌+◌ size set xs f (upd a x v)) all (λ v p. ih (upd a x v) (upd_in_range size vars a x v h p))
      at ih false =
          le_then _ (all (a x)) _
          (subst (λ (d : ℕ → ℕ). over ◌+◌ size set xs f a ≤ over ◌+◌ size (λ y. true) xs g d) (upd_itself a x) (ih a h))
          (sum_has (size x) (a x) all here)

times_grow : (m : ℕ) (placed full : ℕ → (ℕ → ℕ) → ℕ) (set : ℕ → Bool) (t : ℕ → ℕ) → ((j : ℕ) → 1 ≤ j → j ≤ m → (placed j t ≤ full j t) × (1 ≤ full j t))
    → times_of set m placed t ≤ times_of (λ j. true) m full t
times_grow zero placed full set t h = le_refl 1
times_grow (suc k) placed full set t h = mul-le-mul (times_grow k placed full set t (λ j p q. h j p (omega arith))) (at (set (suc k)))
  where
    at : (b : Bool) → cond b (placed (suc k) t) 1 ≤ full (suc k) t
    at true = (h (suc k) (omega arith) (omega arith)).0
    at false = (h (suc k) (omega arith) (omega arith)).1

pub sums_bound : (plus : ℕ → ℕ → ℕ) (size : ℕ → ℕ) (vars : List ℕ) (placed full : ℕ → (ℕ → ℕ) → ℕ) (m : ℕ) → Lawful plus
    → ((j : ℕ) (t : ℕ → ℕ) → 1 ≤ j → j ≤ m → InRange size vars t → (placed j t ≤ full j t) × (1 ≤ full j t))
    → (variables_of cliques_of : ℕ → Bool) (s : ℕ → ℕ) → InRange size vars s
    → (over plus size variables_of vars (times_of cliques_of m placed) s ≤ over ◌+◌ size variables_of vars (times_of cliques_of m placed) s)
    × (over ◌+◌ size variables_of vars (times_of cliques_of m placed) s ≤ over ◌+◌ size (λ x. true) vars (times_of (λ j. true) m full) s)
sums_bound plus size vars placed full m law h variables_of cliques_of s r = (
  over_at_most plus law size variables_of vars (times_of cliques_of m placed) s,
  over_grows size vars variables_of (times_of cliques_of m placed) (times_of (λ j. true) m full) (λ t k. times_grow m placed full cliques_of t (λ j p q. h j t p q k)) vars (λ x p. p) s r,
)
