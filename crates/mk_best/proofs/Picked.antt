-- The value with the greatest lower end, and how near the greatest weight stays.
use Rattle.std.proofs.Common.{◌≡◌, ℕ, zero, suc, ◌+◌, ◌<◌, ◌≤◌, ◌⊎◌, inl, inr, max}
use Rattle.std.proofs.Common.{◌↔◌, Bool, true, false, sym, subst, arith, le_trans, le_refl}
use Rattle.std.specs.List.{range_with_len}
use Rattle.std.proofs.lemmas.Bool.{cases_lt}
use Rattle.mk_states.specs.States.{numbers_below, plus_over}
use Rattle.mk_scaled.specs.Near.{IsNear, near_between, near_self}
use Rattle.mk_semiring.specs.declared.held.Held.{Held}
use Rattle.mk_semiring.specs.declared.held.Held.TheVariants.{Absent, Present}
use Rattle.mk_semiring.specs.Held.{HeldEncloses, IsHeldExact}
use Rattle.mk_answers.specs.inner.Found.{IsBeliefIn, max_side_grade}
use Rattle.mk_best.specs.inner.Picks.{low_of, IsPickOf}

-- the lower end of a belief is not above its number, and near it; with nothing rounded it is not
-- below
low_below : (b : Held) (v : ℕ) → HeldEncloses b v → low_of b ≤ v
low_below Absent v h = omega arith
low_below (Present e) v h = h.lower

low_exact : (b : Held) (v : ℕ) → HeldEncloses b v → IsHeldExact b → v ≤ low_of b
low_exact Absent v h x = omega (arith, h)
low_exact (Present e) v h x = omega (arith, h.upper, x.same)

low_near : (b : Held) (small : Type 0) (v : ℕ) → IsBeliefIn b small v
    → IsNear (low_of b) v max_side_grade
low_near Absent small v b =
    let z : v ≡ 0 = b.encloses in
    subst (λ n. IsNear 0 n max_side_grade) (sym z) (near_self 0 max_side_grade)
low_near (Present e) small v b =
    near_between e.lo e.lo v e.hi max_side_grade (le_refl e.lo) b.encloses.upper b.grade.0.near

not_above : (x y : ℕ) (b : Bool) → (x < y → b ≡ true) → b ≡ false → y ≤ x
not_above x y b p e = at (cases_lt x y)
  where
    at : ((x < y) ⊎ (y ≤ x)) → y ≤ x
    at (inl l) = absurd (let f = p l in cc)
    at (inr l) = l

module _ (f : ℕ → ℕ) (small : Type 0) where
  pub pick_none : IsPickOf 0 f small 0 0
  pick_none = record {
    within = omega arith;
    below = omega arith;
    near = λ x l. absurd (omega (arith, l));
    none_above = λ s x l. absurd (omega (arith, l));
    first = λ s x l. absurd (omega (arith, l));
  }

  module _ (n best low : ℕ) (b : Held) (p : IsPickOf n f small best low)
      (has : IsBeliefIn b small (f n)) where
    at_or_before : (P : ℕ → Type 0) → ((x : ℕ) → x < n → P x) → P n → (x : ℕ) → x < n + 1 → P x
    at_or_before P before here x l = at (cases_lt x n)
      where
        at : ((x < n) ⊎ (n ≤ x)) → P x
        at (inl r) = before x r
        at (inr r) = let e : n ≡ x = omega (arith, l, r) in subst P e here

    -- the next value is better
    pub pick_next : low < low_of b → IsPickOf (n + 1) f small n (low_of b)
    pick_next above = record {
      within = omega arith;
      below = low_below b (f n) has.encloses;
      near = at_or_before (λ x. IsNear (low_of b) (f x) max_side_grade)
          (λ x l. near_between low (low_of b) (f x) (f x) max_side_grade (omega (arith, above))
          (le_refl (f x)) (p.near x l))
          (low_near b small (f n) has);
      none_above = λ s. at_or_before (λ x. f x ≤ low_of b)
          (λ x l. let a = p.none_above s x l in omega (arith, a, above))
          (low_exact b (f n) has.encloses (has.exact s));
      first = λ s x l. let a = p.none_above s x l in omega (arith, a, above);
    }

    -- it is not
    pub pick_stays : low_of b ≤ low → IsPickOf (n + 1) f small best low
    pick_stays not_above = record {
      within = let w = p.within in omega (arith, w);
      below = p.below;
      near = at_or_before (λ x. IsNear low (f x) max_side_grade) p.near
          (near_between (low_of b) low (f n) (f n) max_side_grade not_above (le_refl (f n))
          (low_near b small (f n) has));
      none_above = λ s. at_or_before (λ x. f x ≤ low) (p.none_above s)
          (let a = low_exact b (f n) has.encloses (has.exact s) in omega (arith, a, not_above));
      first = p.first;
    }

    -- so, of a test that tells whether it is
    pub pick_more : (above : Bool) → (above ≡ true) ↔ (low < low_of b)
        → (above ≡ true → IsPickOf (n + 1) f small n (low_of b))
        × (above ≡ false → IsPickOf (n + 1) f small best low)
    pick_more above tells = (
      λ e. pick_next (tells.0 e),
      λ e. pick_stays (not_above low (low_of b) above tells.1 e),
    )

-- what each is near to, or not above, the greatest is too
near_most : (low g : ℕ) (f : ℕ → ℕ) (n a : ℕ)
    → ((x : ℕ) → a ≤ x → x < a + n → IsNear low (f x) g)
    → IsNear low (plus_over max 0 f (range_with_len a n)) g
near_most low g f zero a h = record { near = omega arith }
near_most low g f (suc n) a h =
    at (cases_lt (f a) (plus_over max 0 f (range_with_len (a + 1) n)))
    (near_most low g f n (a + 1) (λ x p q. h x (omega (arith, p)) (omega (arith, q))))
  where
    at : ((f a < plus_over max 0 f (range_with_len (a + 1) n))
        ⊎ (plus_over max 0 f (range_with_len (a + 1) n) ≤ f a))
        → IsNear low (plus_over max 0 f (range_with_len (a + 1) n)) g
        → IsNear low (max (f a) (plus_over max 0 f (range_with_len (a + 1) n))) g
    at (inl l) later =
        let i : plus_over max 0 f (range_with_len (a + 1) n)
        ≡ max (f a) (plus_over max 0 f (range_with_len (a + 1) n)) = omega (arith, l) in
        subst (λ k. IsNear low k g) i later
    at (inr l) later =
        let i : f a ≡ max (f a) (plus_over max 0 f (range_with_len (a + 1) n)) = omega (arith, l) in
        subst (λ k. IsNear low k g) i (h a (omega arith) (omega arith))

most_at_most : (low : ℕ) (f : ℕ → ℕ) (n a : ℕ) → ((x : ℕ) → a ≤ x → x < a + n → f x ≤ low)
    → plus_over max 0 f (range_with_len a n) ≤ low
most_at_most low f zero a h = omega arith
most_at_most low f (suc n) a h =
    let here = h a (omega arith) (omega arith) in
    let later = most_at_most low f n (a + 1)
    (λ x p q. h x (omega (arith, p)) (omega (arith, q))) in
    omega (arith, here, later)

module _ (n : ℕ) (f : ℕ → ℕ) (small : Type 0) (value low : ℕ) (p : IsPickOf n f small value low)
  where
    pub picked_near : IsNear (f value) (plus_over max 0 f (numbers_below n)) max_side_grade
    picked_near =
        near_between low (f value) (plus_over max 0 f (numbers_below n))
        (plus_over max 0 f (numbers_below n)) max_side_grade p.below (le_refl _)
        (near_most low max_side_grade f n 0 (λ x a l. p.near x (omega (arith, l))))

    pub picked_most : small → plus_over max 0 f (numbers_below n) ≤ f value
    picked_most s =
        le_trans (most_at_most low f n 0 (λ x a l. p.none_above s x (omega (arith, l)))) p.below
