-- Nested sums: in any order, with factors that go out, and over sets that are put together.
use Rattle.std.proofs.Common.{◌≡◌, ℕ, suc, zero, ◌*◌, Bool, true, false, cond, ◌||◌, ◌⊎◌, inl, inr, eqb, List, [], ◌∷◌, refl, sym, ap, ◌∙◌, mul_comm, mul-zero, eq-eqb, ne_eqb}
use Rattle.std.proofs.Math.Path.{fun_ext}
use Rattle.std.proofs.lemmas.Bool.{cases_eq, cases_Bool, both_ways, eqb-true}
use Rattle.mk_states.specs.Lawful.{Lawful}
use Rattle.mk_sums.specs.Sums.{upd, plus_below, over, Within, Blind, listed}

pub upd_apart : (a : ℕ → ℕ) (x y v w : ℕ) → (x ≡ y → ⊥) → upd (upd a y w) x v ≡ upd (upd a x v) y w
upd_apart a x y v w d = fun_ext (λ z. at z (cases_Bool (eqb z x)) (cases_Bool (eqb z y)))
  where
    at : (z : ℕ) → ((eqb z x ≡ true) ⊎ (eqb z x ≡ false)) → ((eqb z y ≡ true) ⊎ (eqb z y ≡ false)) → cond (eqb z x) v (cond (eqb z y) w (a z)) ≡ cond (eqb z y) w (cond (eqb z x) v (a z))
    at z (inl p) (inl q) = absurd (d (sym (eqb-true z x p) ∙ eqb-true z y q))
    at z (inl p) (inr q) = rw (p, q)
    at z (inr p) (inl q) = rw (p, q)
    at z (inr p) (inr q) = rw (p, q)

pub apart_by : (set : ℕ → Bool) (x y : ℕ) → set x ≡ true → set y ≡ false → x ≡ y → ⊥
apart_by set x y p q e = both_ways (set y) q (sym (ap set e) ∙ p)

module _ (plus : ℕ → ℕ → ℕ) (law : Lawful plus) where
  pub plus_crossed : (a b c d : ℕ) → plus (plus a b) (plus c d) ≡ plus (plus a c) (plus b d)
  plus_crossed a b c d =
      law.associates a b (plus c d)
      ∙ ap (plus a) (sym (law.associates b c d) ∙ ap (λ e. plus e d) (law.commutes b c) ∙ law.associates c b d)
      ∙ sym (law.associates a c (plus b d))

  pub plus_below-none : (n : ℕ) → plus_below plus n (λ v. 0) ≡ 0
  plus_below-none zero = refl
  plus_below-none (suc n) = ap (λ e. plus e 0) (plus_below-none n) ∙ law.neutral 0

  pub plus_below-plus : (n : ℕ) (f g : ℕ → ℕ) → plus_below plus n (λ v. plus (f v) (g v)) ≡ plus (plus_below plus n f) (plus_below plus n g)
  plus_below-plus zero f g = sym (law.neutral 0)
  plus_below-plus (suc n) f g = ap (λ e. plus e (plus (f n) (g n))) (plus_below-plus n f g) ∙ plus_crossed _ _ _ _

  pub plus_below-times : (n k : ℕ) (f : ℕ → ℕ) → plus_below plus n (λ v. k * f v) ≡ k * plus_below plus n f
  plus_below-times zero k f = sym (mul-zero k)
  plus_below-times (suc n) k f = ap (λ e. plus e (k * f n)) (plus_below-times n k f) ∙ sym (law.distributes k (plus_below plus n f) (f n))

  pub plus_below-swap : (n m : ℕ) (f : ℕ → ℕ → ℕ) → plus_below plus n (λ v. plus_below plus m (f v)) ≡ plus_below plus m (λ w. plus_below plus n (λ v. f v w))
  plus_below-swap zero m f = sym (plus_below-none m)
  plus_below-swap (suc n) m f = ap (λ e. plus e (plus_below plus m (f n))) (plus_below-swap n m f) ∙ sym (plus_below-plus m (λ w. plus_below plus n (λ v. f v w)) (f n))

  module _ (size : ℕ → ℕ) where
    -- a sum over a variable outside the set goes in
    pub over_goes_in : (set : ℕ → Bool) (xs : List ℕ) (n x : ℕ) (g : (ℕ → ℕ) → ℕ) (a : ℕ → ℕ) → set x ≡ false
        → over plus size set xs (λ b. plus_below plus n (λ v. g (upd b x v))) a ≡ plus_below plus n (λ v. over plus size set xs g (upd a x v))
    over_goes_in set [] n x g a h = refl
    over_goes_in set (y ∷ ys) n x g a h = at (λ d. over_goes_in set ys n x g d h) (set y) refl
      where
        at : ((d : ℕ → ℕ) → over plus size set ys (λ b. plus_below plus n (λ v. g (upd b x v))) d ≡ plus_below plus n (λ v. over plus size set ys g (upd d x v)))
            → (b : Bool) → set y ≡ b
            → cond b (plus_below plus (size y) (λ w. over plus size set ys (λ b. plus_below plus n (λ v. g (upd b x v))) (upd a y w))) (over plus size set ys (λ b. plus_below plus n (λ v. g (upd b x v))) a)
            ≡ plus_below plus n (λ v. cond b (plus_below plus (size y) (λ w. over plus size set ys g (upd (upd a x v) y w))) (over plus size set ys g (upd a x v)))
        at ih true e =
            ap (plus_below plus (size y)) (fun_ext (λ w. ih (upd a y w) ∙ ap (plus_below plus n) (fun_ext (λ v. ap (over plus size set ys g) (upd_apart a x y v w (λ q. apart_by set y x e h (sym q)))))))
            ∙ plus_below-swap (size y) n (λ w v. over plus size set ys g (upd (upd a x v) y w))
        at ih false e = ih a

    -- a factor that reads no summed variable goes out
    pub over-times : (set : ℕ → Bool) (xs : List ℕ) (g f : (ℕ → ℕ) → ℕ) (a : ℕ → ℕ) → Blind set g → over plus size set xs (λ b. g b * f b) a ≡ g a * over plus size set xs f a
    over-times set [] g f a h = refl
    over-times set (y ∷ ys) g f a h = at (λ d. over-times set ys g f d h) (set y) refl
      where
        at : ((d : ℕ → ℕ) → over plus size set ys (λ b. g b * f b) d ≡ g d * over plus size set ys f d)
            → (b : Bool) → set y ≡ b
            → cond b (plus_below plus (size y) (λ w. over plus size set ys (λ b. g b * f b) (upd a y w))) (over plus size set ys (λ b. g b * f b) a)
            ≡ g a * cond b (plus_below plus (size y) (λ w. over plus size set ys f (upd a y w))) (over plus size set ys f a)
        at ih true e =
            ap (plus_below plus (size y)) (fun_ext (λ w. ih (upd a y w) ∙ ap (λ k. k * over plus size set ys f (upd a y w)) (h a y w e)))
            ∙ plus_below-times (size y) (g a) (λ w. over plus size set ys f (upd a y w))
        at ih false e = ih a

    -- over two sets with nothing in common
    pub over-union : (s t : ℕ → Bool) (xs : List ℕ) (f : (ℕ → ℕ) → ℕ) (a : ℕ → ℕ) → ((x : ℕ) → s x ≡ true → t x ≡ false)
        → over plus size (λ x. s x || t x) xs f a ≡ over plus size s xs (over plus size t xs f) a
    over-union s t [] f a h = refl
    over-union s t (y ∷ ys) f a h = at (λ d. over-union s t ys f d h) (s y) (t y) refl refl
      where
        at : ((d : ℕ → ℕ) → over plus size (λ x. s x || t x) ys f d ≡ over plus size s ys (over plus size t ys f) d)
            → (b c : Bool) → s y ≡ b → t y ≡ c
            → cond (b || c) (plus_below plus (size y) (λ w. over plus size (λ x. s x || t x) ys f (upd a y w))) (over plus size (λ x. s x || t x) ys f a)
            ≡ cond b
            (plus_below plus (size y) (λ w. over plus size s ys (λ d. cond c (plus_below plus (size y) (λ v. over plus size t ys f (upd d y v))) (over plus size t ys f d)) (upd a y w)))
            (over plus size s ys (λ d. cond c (plus_below plus (size y) (λ v. over plus size t ys f (upd d y v))) (over plus size t ys f d)) a)
        at ih true true p q = absurd (both_ways (t y) (h y p) q)
        at ih true false p q = ap (plus_below plus (size y)) (fun_ext (λ w. ih (upd a y w)))
        at ih false true p q = ap (plus_below plus (size y)) (fun_ext (λ w. ih (upd a y w))) ∙ sym (over_goes_in s ys (size y) y (over plus size t ys f) a p)
        at ih false false p q = ih a

    pub over_blind : (s t : ℕ → Bool) (xs : List ℕ) (f : (ℕ → ℕ) → ℕ) → Blind s f → ((x : ℕ) → s x ≡ true → t x ≡ false) → Blind s (over plus size t xs f)
    over_blind s t [] f h k a x v e = h a x v e
    over_blind s t (y ∷ ys) f h k a x v e = at (over_blind s t ys f h k) (t y) refl
      where
        at : Blind s (over plus size t ys f) → (b : Bool) → t y ≡ b
            → cond b (plus_below plus (size y) (λ w. over plus size t ys f (upd (upd a x v) y w))) (over plus size t ys f (upd a x v))
            ≡ cond b (plus_below plus (size y) (λ w. over plus size t ys f (upd a y w))) (over plus size t ys f a)
        at ih true q = ap (plus_below plus (size y)) (fun_ext (λ w. ap (over plus size t ys f) (sym (upd_apart a x y v w (λ p. apart_by t y x q (k x e) (sym p)))) ∙ ih (upd a y w) x v e))
        at ih false q = ih a x v e

    -- two sums side by side, neither of which reads what the other sums
    pub side_split : (s t : ℕ → Bool) (xs : List ℕ) (f g : (ℕ → ℕ) → ℕ) (a : ℕ → ℕ) → ((x : ℕ) → s x ≡ true → t x ≡ false) → Blind t f → Blind s g
        → over plus size (λ x. s x || t x) xs (λ b. f b * g b) a ≡ over plus size s xs f a * over plus size t xs g a
    side_split s t xs f g a apart bf bg =
        over-union s t xs (λ b. f b * g b) a apart
        ∙ ap (λ (h : (ℕ → ℕ) → ℕ). over plus size s xs h a) (fun_ext (λ b. over-times t xs f g b bf ∙ mul_comm (f b) (over plus size t xs g b)))
        ∙ over-times s xs (over plus size t xs g) f a (over_blind s t xs g bg apart)
        ∙ mul_comm (over plus size t xs g a) (over plus size s xs f a)

    -- sets that agree on the list
    pub over_agree : (s t : ℕ → Bool) (xs : List ℕ) (f : (ℕ → ℕ) → ℕ) (a : ℕ → ℕ) → ((x : ℕ) → listed xs x ≡ true → s x ≡ t x) → over plus size s xs f a ≡ over plus size t xs f a
    over_agree s t [] f a h = refl
    over_agree s t (y ∷ ys) f a h =
        ap (λ b. cond b (plus_below plus (size y) (λ w. over plus size s ys f (upd a y w))) (over plus size s ys f a)) (h y (first y (listed ys y)))
        ∙ ap (λ (g : (ℕ → ℕ) → ℕ). cond (t y) (plus_below plus (size y) (λ w. g (upd a y w))) (g a)) (fun_ext (λ d. over_agree s t ys f d (λ x p. h x (later (eqb x y) (listed ys x) p))))
      where
        first : (y : ℕ) (b : Bool) → (eqb y y || b) ≡ true
        first y b = rw (eq-eqb y y refl)

        later : (b c : Bool) → c ≡ true → (b || c) ≡ true
        later true c e = refl
        later false c e = e

    pub over_nothing : (s : ℕ → Bool) (xs : List ℕ) (f : (ℕ → ℕ) → ℕ) (a : ℕ → ℕ) → ((x : ℕ) → s x ≡ false) → over plus size s xs f a ≡ f a
    over_nothing s [] f a h = refl
    over_nothing s (y ∷ ys) f a h = rw (h y) (over_nothing s ys f a h)

pub Blind_within : (s t : ℕ → Bool) (f : (ℕ → ℕ) → ℕ) → Within t f → ((x : ℕ) → s x ≡ true → t x ≡ false) → Blind s f
Blind_within s t f h k a x v e = h (upd a x v) a (λ y q. at y (cases_eq y x) q)
  where
    at : (y : ℕ) → ((y ≡ x) ⊎ (y ≡ x → ⊥)) → t y ≡ true → upd a x v y ≡ a y
    at y (inl p) q = absurd (both_ways (t x) (k x e) (sym (ap t p) ∙ q))
    at y (inr d) q = rw (ne_eqb y x d)

pub Blind-times : (s : ℕ → Bool) (f g : (ℕ → ℕ) → ℕ) → Blind s f → Blind s g → Blind s (λ b. f b * g b)
Blind-times s f g h k a x v e = ap (λ n. n * g (upd a x v)) (h a x v e) ∙ ap (λ n. f a * n) (k a x v e)
