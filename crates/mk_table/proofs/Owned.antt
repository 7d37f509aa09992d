-- Cells that no ratio touched, and the numbers of their own that they stand for.
use Rattle.std.proofs.Common.{◌≡◌, ℕ, ◌+◌, ◌*◌, ◌/◌, ◌^◌, ◌<◌, ◌≤◌, Bool, true, false, cond, ◌⊎◌, inl, inr, List, [], ◌∷◌, length, slice_index, All, refl, sym, ap, subst, ◌∙◌, arith, zero-mul}
use Rattle.std.proofs.lemmas.Bool.{cases_Bool}
use Rattle.std.proofs.lemmas.Nat.{pow-add, shl-shr}
use Rattle.std.proofs.lemmas.List.Elements.{All-head, All-tail, All-weaker}
use Rattle.std.proofs.Math.Nat.{mul_assoc, mul_comm, mul-mul-mul_comm}
use Rattle.mk_states.specs.Lawful.{Lawful}
use Rattle.mk_states.specs.States.{plus_over}
use Rattle.mk_cell.specs.Cell.{StandsAt, IsOwnAt}
use Rattle.mk_cell.specs.inner.Laws.{stands_with_more}
use Rattle.mk_cell.proofs.Standing.{absent_stands}
use Rattle.mk_passes.specs.Parts.{IsTimes, IsTimesCell, IsChanged, IsRestricted, StandListed}
use Rattle.mk_table.specs.inner.Numbers.{AreNumbers}
use Rattle.mk_passes.proofs.Changes.{times_whole, times_some, kept_all}

-- ---- one cell

-- the own number is what is left of the number without the shift
pub own_is : (shift d e v n : ℕ) → IsOwnAt shift d e v n → v / 2 ^ shift * 2 ^ shift ≡ v
own_is shift d e v n h =
    let i : v / 2 ^ shift ≡ h.own = ap (λ y. y / 2 ^ shift) h.scaled ∙ shl-shr h.own shift in
    ap (λ y. y * 2 ^ shift) i ∙ sym h.scaled

pub own_stands : (shift d e v n : ℕ) → IsOwnAt shift d e v n → StandsAt 0 d e (v / 2 ^ shift) n
own_stands shift d e v n h =
    let i : v / 2 ^ shift ≡ h.own = ap (λ y. y / 2 ^ shift) h.scaled ∙ shl-shr h.own shift in
    subst (λ w. StandsAt 0 d e w n) (sym i) h.stands

pub own_more : (shift d e v n p : ℕ) → n ≤ p → IsOwnAt shift d e v n → IsOwnAt shift d e v p
own_more shift d e v n p l h = record { own = h.own; scaled = h.scaled; stands = stands_with_more 0 d e h.own n p l h.stands }

pub scaled_times : (s k v w a b : ℕ) → v ≡ a * 2 ^ s → w ≡ b * 2 ^ k → v * w ≡ (a * b) * 2 ^ (s + k)
scaled_times s k v w a b h l = ap (λ y. y * w) h ∙ ap (λ y. (a * 2 ^ s) * y) l ∙ mul-mul-mul_comm a (2 ^ s) b (2 ^ k) ∙ ap (λ y. (a * b) * y) (sym (pow-add 2 s k))

-- a product by a number that has one of its own
own_times : (d e u p x y s k v w n : ℕ) → IsTimes d e 0 u p x y → w ≡ u * 2 ^ k → IsOwnAt s d e v n → IsOwnAt (s + k) x y (v * w) (n + p + 1)
own_times d e u p x y s k v w n t i h = record { own = h.own * u; scaled = scaled_times s k v w h.own u h.scaled i; stands = t.stands 0 h.own n h.stands }

-- a greater shift alone
pub own_shifted : (d e s k v n : ℕ) → IsOwnAt s d e v n → IsOwnAt (s + k) d e (v * 2 ^ k) (n + 1)
own_shifted d e s k v n h = record {
  own = h.own;
  scaled = ap (λ y. y * 2 ^ k) h.scaled ∙ mul_assoc h.own (2 ^ s) (2 ^ k) ∙ ap (λ y. h.own * y) (sym (pow-add 2 s k));
  stands = stands_with_more 0 d e h.own n (n + 1) (omega arith) h.stands;
}

own_nothing : (s n d e : ℕ) → d ≡ 0 → e ≡ 0 → IsOwnAt s d e 0 n
own_nothing s n d e i j = record { own = 0; scaled = sym (zero-mul (2 ^ s)); stands = rw (i, j) (absent_stands 0 0 n refl) }

-- ---- each cell of two arrays

-- each is multiplied by a whole number
pub rows_are : (touched : ℕ → Bool) (w : ℕ → ℕ) (od oe d e : List ℕ) (count : ℕ) → length od ≡ count → IsChanged (λ c a b x y. IsTimes a b 0 (w c) 0 x y) (λ c. c < count) od oe d e
    → (j : ℕ) (f : ℕ → ℕ) (n : ℕ) → AreNumbers touched j od oe f n → AreNumbers touched (j + 0) d e (λ c. f c * w c) (n + 1)
rows_are touched w od oe d e count long h j f n a = record {
  stand = times_whole w 0 od oe d e count long h j f n a.stand;
  own = λ c l t.
      let s : n + 0 + 1 ≡ n + 1 = omega arith in
      let one : w c ≡ w c * 2 ^ 0 = omega arith in
      subst (λ m. IsOwnAt (j + 0) (slice_index d c) (slice_index e c) (f c * w c) m) s
      (own_times (slice_index od c) (slice_index oe c) (w c) 0 (slice_index d c) (slice_index e c) j 0 (f c) (w c) n (h.done c (omega (arith, l, long, h.as_many_digits))) one
      (a.own c (omega (arith, l, h.as_many_digits)) t));
}

-- what passes a test is multiplied, and counts as touched
pub some_are : (before after passes : ℕ → Bool) (units : ℕ → ℕ) (reached : ℕ → Type 0) (od oe d e : List ℕ)
    → ((c : ℕ) → c < length od → after c ≡ false → (before c ≡ false) × (passes c ≡ false))
    → ((c : ℕ) → c < length od → passes c ≡ true → reached c) → ((c : ℕ) → passes c ≡ false → reached c → ⊥)
    → IsChanged (λ c a b x y. IsTimes a b 40 (units c) 0 x y) reached od oe d e
    → (j : ℕ) (f : ℕ → ℕ) (n : ℕ) → AreNumbers before j od oe f n → AreNumbers after (j + 40) d e (λ c. f c * cond (passes c) (units c) (2 ^ 40)) (n + 1)
some_are before after passes units reached od oe d e apart all none h j f n a = record {
  stand = times_some passes units reached od oe d e all none h j f n a.stand;
  own = λ c l t.
      let k : c < length od = omega (arith, l, h.as_many_digits) in
      let out = apart c k t in
      subst (λ b. IsOwnAt (j + 40) (slice_index d c) (slice_index e c) (f c * cond b (units c) (2 ^ 40)) (n + 1)) (sym out.1)
      (subst (λ y. IsOwnAt (j + 40) y (slice_index e c) (f c * 2 ^ 40) (n + 1)) (sym (h.digits_left c (none c out.1)))
      (subst (λ y. IsOwnAt (j + 40) (slice_index od c) y (f c * 2 ^ 40) (n + 1)) (sym (h.exponents_left c (none c out.1)))
      (own_shifted (slice_index od c) (slice_index oe c) j 40 (f c) n (a.own c k out.0))));
}

-- each is multiplied by a cell of a message
pub cells_are : (before after others : ℕ → Bool) (goes : ℕ → ℕ) (md me od oe d e : List ℕ) (count : ℕ) → length od ≡ count → ((c : ℕ) → c < count → goes c < length md)
    → ((c : ℕ) → c < count → after c ≡ false → (before c ≡ false) × (others (goes c) ≡ false))
    → IsChanged (λ c a b x y. IsTimesCell a b (slice_index md (goes c)) (slice_index me (goes c)) x y) (λ c. c < count) od oe d e
    → (j k : ℕ) (f g : ℕ → ℕ) (n p : ℕ) → AreNumbers before j od oe f n → AreNumbers others k md me g p → AreNumbers after (j + k) d e (λ c. f c * g (goes c)) (n + p + 1)
cells_are before after others goes md me od oe d e count long within apart h j k f g n p a b = record {
  stand = record {
    each = λ c l.
        let m : c < count = omega (arith, l, long, h.as_many_digits) in
        ((h.done c m).times k (g (goes c)) p (b.stand.each (goes c) (within c m))).stands j (f c) n (a.stand.each c (omega (arith, m, long)));
  };
  own = λ c l t.
      let m : c < count = omega (arith, l, long, h.as_many_digits) in
      let out = apart c m t in
      let other = b.own (goes c) (within c m) out.1 in
      own_times (slice_index od c) (slice_index oe c) other.own p (slice_index d c) (slice_index e c) j k (f c) (g (goes c)) n ((h.done c m).times 0 other.own p other.stands) other.scaled
      (a.own c (omega (arith, m, long)) out.0);
}

-- what does not pass becomes absent, and what passes stays untouched
pub kept_are : (before after kept : ℕ → Bool) (od oe d e : List ℕ) (count : ℕ) → length od ≡ count
    → ((c : ℕ) → c < count → kept c ≡ true → after c ≡ false → before c ≡ false)
    → IsChanged (λ c a b x y. IsRestricted (kept c) a b x y) (λ c. c < count) od oe d e
    → (j : ℕ) (f : ℕ → ℕ) (n : ℕ) → AreNumbers before j od oe f n → AreNumbers after j d e (λ c. cond (kept c) (f c) 0) n
kept_are before after kept od oe d e count long apart h j f n a = record {
  stand = kept_all kept od oe d e count long h j f n a.stand;
  own = λ c l t. at c (omega (arith, l, long, h.as_many_digits)) t (cases_Bool (kept c));
}
  where
    at : (c : ℕ) → c < count → after c ≡ false → ((kept c ≡ true) ⊎ (kept c ≡ false)) → IsOwnAt j (slice_index d c) (slice_index e c) (cond (kept c) (f c) 0) n
    at c l t (inl p) =
        let r = h.done c l in
        subst (λ b. IsOwnAt j (slice_index d c) (slice_index e c) (cond b (f c) 0) n) (sym p)
        (subst (λ y. IsOwnAt j y (slice_index e c) (f c) n) (sym (r.same_digits p)) (subst (λ y. IsOwnAt j (slice_index od c) y (f c) n) (sym (r.same_exponent p)) (a.own c (omega (arith, l, long)) (apart c l p t))))
    at c l t (inr p) =
        let r = h.done c l in
        subst (λ b. IsOwnAt j (slice_index d c) (slice_index e c) (cond b (f c) 0) n) (sym p) (own_nothing j n (slice_index d c) (slice_index e c) (r.no_digits p) (r.no_exponent p))

-- ---- a plus of some cells

module _ (plus : ℕ → ℕ → ℕ) (law : Lawful plus) where
  -- a common factor goes out of a plus
  pub plus_scaled : (f g : ℕ → ℕ) (k : ℕ) (xs : List ℕ) → All (λ c. g c * k ≡ f c) xs → plus_over plus 0 g xs * k ≡ plus_over plus 0 f xs
  plus_scaled f g k [] h = zero-mul k
  plus_scaled f g k (x ∷ xs) h =
      mul_comm (plus (g x) (plus_over plus 0 g xs)) k ∙ law.distributes k (g x) (plus_over plus 0 g xs)
      ∙ ap (λ y. plus y (k * plus_over plus 0 g xs)) (mul_comm k (g x) ∙ All-head (λ c. g c * k ≡ f c) x xs h)
      ∙ ap (plus (f x)) (mul_comm k (plus_over plus 0 g xs) ∙ plus_scaled f g k xs (All-tail (λ c. g c * k ≡ f c) x xs h))

  -- cells that all have numbers of their own
  pub own_over : (shift : ℕ) (d e : List ℕ) (f : ℕ → ℕ) (n base : ℕ) (xs : List ℕ) (q x m : ℕ)
      → All (λ c. IsOwnAt shift (slice_index d (base + c)) (slice_index e (base + c)) (f (base + c)) n) xs
      → (StandListed 0 d e (λ c. f c / 2 ^ shift) n base xs → StandsAt 0 q x (plus_over plus 0 (λ c. f (base + c) / 2 ^ shift) xs) m)
      → IsOwnAt shift q x (plus_over plus 0 (λ c. f (base + c)) xs) m
  own_over shift d e f n base xs q x m h made = record {
    own = plus_over plus 0 (λ c. f (base + c) / 2 ^ shift) xs;
    scaled = sym (plus_scaled (λ c. f (base + c)) (λ c. f (base + c) / 2 ^ shift) (2 ^ shift) xs
        (All-weaker (λ c. IsOwnAt shift (slice_index d (base + c)) (slice_index e (base + c)) (f (base + c)) n) (λ c. f (base + c) / 2 ^ shift * 2 ^ shift ≡ f (base + c))
        (λ c o. own_is shift (slice_index d (base + c)) (slice_index e (base + c)) (f (base + c)) n o) xs h));
    stands = made (record {
      listed = All-weaker (λ c. IsOwnAt shift (slice_index d (base + c)) (slice_index e (base + c)) (f (base + c)) n) (λ c. StandsAt 0 (slice_index d (base + c)) (slice_index e (base + c)) (f (base + c) / 2 ^ shift) n)
          (λ c o. own_stands shift (slice_index d (base + c)) (slice_index e (base + c)) (f (base + c)) n o) xs h;
    });
  }
