-- Cells of two arrays that are changed one after the other, and what they stand for then.
use Rattle.std.proofs.Common.{◌≡◌, ℕ, ◌+◌, ◌*◌, ◌^◌, ◌<◌, ◌≤◌, Bool, true, false, cond, ◌⊎◌, inl, inr, List, length, slice_index, slice_set, refl, sym, ap, subst, ◌∙◌, arith, zero-mul, get_or-set_other, get_or-set_same}
use Rattle.std.proofs.Math.ListN.{length-set}
use Rattle.std.proofs.lemmas.Bool.{cases_eq, cases_Bool}
use Rattle.mk_cell.specs.Cell.{bias, IsLowerEnd, IsCell, StandsAt, AllStand}
use Rattle.mk_cell.specs.inner.LowerEnd.{lower_same, lower_more}
use Rattle.mk_cell.specs.inner.Laws.{has_room, untouched_stands}
use Rattle.mk_passes.specs.Parts.{HaveRoom, IsTimes, IsChanged, IsRestricted}
use Rattle.mk_scope.specs.Runs.{IsAmong, IsBetween}

module _ (R : ℕ → ℕ → ℕ → ℕ → ℕ → Type 0) where
  -- the cell at n is written, by what was read there
  pub changed_more : (before after : ℕ → Type 0) (od oe d e : List ℕ) (n q x : ℕ)
      → ((c : ℕ) → after c → before c ⊎ (c ≡ n)) → ((c : ℕ) → before c → after c) → after n → (before n → ⊥)
      → n < length od → n < length oe → IsChanged R before od oe d e → R n (slice_index d n) (slice_index e n) q x
      → IsChanged R after od oe (slice_set d n q) (slice_set e n x)
  changed_more before after od oe d e n q x splits keeps last new l m h made = record {
    as_many_digits = length-set d n q ∙ h.as_many_digits;
    as_many_exponents = length-set e n x ∙ h.as_many_exponents;
    done = λ c p. at c p (cases_eq c n);
    digits_left = λ c p. get_or-set_other d n c q 0 (apart c p) ∙ h.digits_left c (λ b. p (keeps c b));
    exponents_left = λ c p. get_or-set_other e n c x 0 (apart c p) ∙ h.exponents_left c (λ b. p (keeps c b));
  }
    where
      apart : (c : ℕ) → (after c → ⊥) → c ≡ n → ⊥
      apart c p i = p (subst after (sym i) last)

      there : n < length d
      there = omega (arith, h.as_many_digits)

      there_too : n < length e
      there_too = omega (arith, h.as_many_exponents)

      here : R n (slice_index od n) (slice_index oe n) (slice_index (slice_set d n q) n) (slice_index (slice_set e n x) n)
      here =
          subst (λ y. R n y (slice_index oe n) (slice_index (slice_set d n q) n) (slice_index (slice_set e n x) n)) (h.digits_left n new)
          (subst (λ y. R n (slice_index d n) y (slice_index (slice_set d n q) n) (slice_index (slice_set e n x) n)) (h.exponents_left n new)
          (subst (λ y. R n (slice_index d n) (slice_index e n) y (slice_index (slice_set e n x) n)) (sym (get_or-set_same d n q 0 there))
          (subst (λ y. R n (slice_index d n) (slice_index e n) q y) (sym (get_or-set_same e n x 0 there_too)) made)))

      old : (c : ℕ) → after c → (c ≡ n → ⊥) → before c
      old c p i = from (splits c p)
        where
          from : (before c ⊎ (c ≡ n)) → before c
          from (inl b) = b
          from (inr j) = absurd (i j)

      at : (c : ℕ) → after c → ((c ≡ n) ⊎ (c ≡ n → ⊥)) → R c (slice_index od c) (slice_index oe c) (slice_index (slice_set d n q) c) (slice_index (slice_set e n x) c)
      at c p (inl i) = subst (λ k. R k (slice_index od k) (slice_index oe k) (slice_index (slice_set d n q) k) (slice_index (slice_set e n x) k)) (sym i) here
      at c p (inr i) =
          subst (λ y. R c (slice_index od c) (slice_index oe c) y (slice_index (slice_set e n x) c)) (sym (get_or-set_other d n c q 0 i))
          (subst (λ y. R c (slice_index od c) (slice_index oe c) (slice_index d c) y) (sym (get_or-set_other e n c x 0 i)) (h.done c (old c p i)))

  -- the cells below n and the one at n
  pub changed_below : (od oe d e : List ℕ) (n q x : ℕ) → n < length od → n < length oe → IsChanged R (λ c. c < n) od oe d e → R n (slice_index d n) (slice_index e n) q x
      → IsChanged R (λ c. c < n + 1) od oe (slice_set d n q) (slice_set e n x)
  changed_below od oe d e n q x l m h made =
      changed_more (λ c. c < n) (λ c. c < n + 1) od oe d e n q x (λ c p. splits c p (cases_eq c n)) (λ c p. omega arith) (omega arith) (λ p. omega arith) l m h made
    where
      splits : (c : ℕ) → c < n + 1 → ((c ≡ n) ⊎ (c ≡ n → ⊥)) → (c < n) ⊎ (c ≡ n)
      splits c p (inl e) = inr e
      splits c p (inr e) = inl (omega (arith, e))

  -- the same, of what the writes left
  pub written_below : (od oe d e nd ne : List ℕ) (n : ℕ) → n < length od → n < length oe → IsChanged R (λ c. c < n) od oe d e
      → nd ≡ slice_set d n (slice_index nd n) → ne ≡ slice_set e n (slice_index ne n) → R n (slice_index d n) (slice_index e n) (slice_index nd n) (slice_index ne n)
      → IsChanged R (λ c. c < n + 1) od oe nd ne
  written_below od oe d e nd ne n l m h i j made =
      subst (λ (ys : List ℕ). IsChanged R (λ c. c < n + 1) od oe ys ne) (sym i)
      (subst (λ (ys : List ℕ). IsChanged R (λ c. c < n + 1) od oe (slice_set d n (slice_index nd n)) ys) (sym j)
      (changed_below od oe d e n (slice_index nd n) (slice_index ne n) l m h made))

  -- the same from a first cell on
  pub written_between : (first : ℕ) (od oe d e nd ne : List ℕ) (n : ℕ) → first ≤ n → n < length od → n < length oe → IsChanged R (IsBetween first n) od oe d e
      → nd ≡ slice_set d n (slice_index nd n) → ne ≡ slice_set e n (slice_index ne n) → R n (slice_index d n) (slice_index e n) (slice_index nd n) (slice_index ne n)
      → IsChanged R (IsBetween first (n + 1)) od oe nd ne
  written_between first od oe d e nd ne n b l m h i j made =
      subst (λ (ys : List ℕ). IsChanged R (IsBetween first (n + 1)) od oe ys ne) (sym i)
      (subst (λ (ys : List ℕ). IsChanged R (IsBetween first (n + 1)) od oe (slice_set d n (slice_index nd n)) ys) (sym j)
      (changed_more (IsBetween first n) (IsBetween first (n + 1)) od oe d e n (slice_index nd n) (slice_index ne n) (λ c p. splits c p (cases_eq c n))
      (λ c p. record { from = p.from; below = let q = p.below in omega (arith, q) }) (record { from = b; below = omega arith }) (λ p. let q = p.below in omega (arith, q)) l m h made))
    where
      splits : (c : ℕ) → IsBetween first (n + 1) c → ((c ≡ n) ⊎ (c ≡ n → ⊥)) → IsBetween first n c ⊎ (c ≡ n)
      splits c p (inl e) = inr e
      splits c p (inr e) = inl (record { from = p.from; below = let q = p.below in omega (arith, q, e) })

  -- one more of the chosen cells, which were not reached before
  pub written_among : (chosen od oe d e nd ne : List ℕ) (i n : ℕ) → n ≡ slice_index chosen i → ((k : ℕ) → k < i → slice_index chosen k ≡ slice_index chosen i → ⊥)
      → n < length od → n < length oe → IsChanged R (IsAmong chosen i) od oe d e
      → nd ≡ slice_set d n (slice_index nd n) → ne ≡ slice_set e n (slice_index ne n) → R n (slice_index d n) (slice_index e n) (slice_index nd n) (slice_index ne n)
      → IsChanged R (IsAmong chosen (i + 1)) od oe nd ne
  written_among chosen od oe d e nd ne i n is apart l m h f g made =
      subst (λ (ys : List ℕ). IsChanged R (IsAmong chosen (i + 1)) od oe ys ne) (sym f)
      (subst (λ (ys : List ℕ). IsChanged R (IsAmong chosen (i + 1)) od oe (slice_set d n (slice_index nd n)) ys) (sym g)
      (changed_more (IsAmong chosen i) (IsAmong chosen (i + 1)) od oe d e n (slice_index nd n) (slice_index ne n) splits (λ c p. (p.0, omega (arith, p.1), p.2)) (i, omega arith, sym is)
      (λ p. apart p.0 p.1 (p.2 ∙ is)) l m h made))
    where
      splits : (c : ℕ) → IsAmong chosen (i + 1) c → IsAmong chosen i c ⊎ (c ≡ n)
      splits c p = at (cases_eq p.0 i)
        where
          at : ((p.0 ≡ i) ⊎ (p.0 ≡ i → ⊥)) → IsAmong chosen i c ⊎ (c ≡ n)
          at (inl j) = inr (sym p.2 ∙ ap (slice_index chosen) j ∙ sym is)
          at (inr j) = inl (p.0, omega (arith, p.1, j), p.2)

-- no cell
pub changed_none : (R : ℕ → ℕ → ℕ → ℕ → ℕ → Type 0) (reached : ℕ → Type 0) (d e : List ℕ) → ((c : ℕ) → reached c → ⊥) → IsChanged R reached d e d e
changed_none R reached d e none = record {
  as_many_digits = refl;
  as_many_exponents = refl;
  done = λ c p. absurd (none c p);
  digits_left = λ c p. refl;
  exponents_left = λ c p. refl;
}

-- the same cells, changed as Q says where that is what R says
pub changed_as : (Q R : ℕ → ℕ → ℕ → ℕ → ℕ → Type 0) (reached : ℕ → Type 0) (od oe d e : List ℕ) → ((c a b x y : ℕ) → reached c → Q c a b x y → R c a b x y) → IsChanged Q reached od oe d e → IsChanged R reached od oe d e
changed_as Q R reached od oe d e f h = record {
  as_many_digits = h.as_many_digits;
  as_many_exponents = h.as_many_exponents;
  done = λ c p. f c _ _ _ _ p (h.done c p);
  digits_left = h.digits_left;
  exponents_left = h.exponents_left;
}

-- where as many are reached
pub changed_where : (R : ℕ → ℕ → ℕ → ℕ → ℕ → Type 0) (before after : ℕ → Type 0) (od oe d e : List ℕ) → ((c : ℕ) → after c → before c) → ((c : ℕ) → before c → after c) → IsChanged R before od oe d e → IsChanged R after od oe d e
changed_where R before after od oe d e back forth h = record {
  as_many_digits = h.as_many_digits;
  as_many_exponents = h.as_many_exponents;
  done = λ c p. h.done c (back c p);
  digits_left = λ c p. h.digits_left c (λ b. p (forth c b));
  exponents_left = λ c p. h.exponents_left c (λ b. p (forth c b));
}

-- some cells after others
pub changed_then : (R : ℕ → ℕ → ℕ → ℕ → ℕ → Type 0) (before then after : ℕ → Type 0) (od oe d e nd ne : List ℕ) → ((c : ℕ) → after c → before c ⊎ then c) → ((c : ℕ) → before c → after c)
    → ((c : ℕ) → then c → after c) → ((c : ℕ) → then c → before c → ⊥) → IsChanged R before od oe d e → IsChanged R then d e nd ne → IsChanged R after od oe nd ne
changed_then R before then after od oe d e nd ne splits keeps adds apart h k = record {
  as_many_digits = k.as_many_digits ∙ h.as_many_digits;
  as_many_exponents = k.as_many_exponents ∙ h.as_many_exponents;
  done = λ c p. at c (splits c p);
  digits_left = λ c p. k.digits_left c (λ t. p (adds c t)) ∙ h.digits_left c (λ b. p (keeps c b));
  exponents_left = λ c p. k.exponents_left c (λ t. p (adds c t)) ∙ h.exponents_left c (λ b. p (keeps c b));
}
  where
    at : (c : ℕ) → before c ⊎ then c → R c (slice_index od c) (slice_index oe c) (slice_index nd c) (slice_index ne c)
    at c (inl b) =
        subst (λ y. R c (slice_index od c) (slice_index oe c) y (slice_index ne c)) (sym (k.digits_left c (λ t. apart c t b)))
        (subst (λ y. R c (slice_index od c) (slice_index oe c) (slice_index d c) y) (sym (k.exponents_left c (λ t. apart c t b))) (h.done c b))
    at c (inr t) =
        subst (λ y. R c y (slice_index oe c) (slice_index nd c) (slice_index ne c)) (h.digits_left c (apart c t))
        (subst (λ y. R c (slice_index d c) y (slice_index nd c) (slice_index ne c)) (h.exponents_left c (apart c t)) (k.done c t))

-- ---- what leaves room for a product

-- a cell that was not reached
pub cell_left : (R : ℕ → ℕ → ℕ → ℕ → ℕ → Type 0) (reached : ℕ → Type 0) (od oe d e : List ℕ) (c : ℕ) → IsChanged R reached od oe d e → (reached c → ⊥)
    → IsCell (slice_index od c) (slice_index oe c) → IsCell (slice_index d c) (slice_index e c)
cell_left R reached od oe d e c h new made =
    subst (λ y. IsCell y (slice_index e c)) (sym (h.digits_left c new)) (subst (λ y. IsCell (slice_index od c) y) (sym (h.exponents_left c new)) made)

pub left_cell : (R : ℕ → ℕ → ℕ → ℕ → ℕ → Type 0) (reached : ℕ → Type 0) (od oe d e : List ℕ) (k more c : ℕ) → HaveRoom k od oe more → IsChanged R reached od oe d e
    → (reached c → ⊥) → c < length od → IsCell (slice_index d c) (slice_index e c)
left_cell R reached od oe d e k more c room h new l =
    let f = room.few_steps in
    cell_left R reached od oe d e c h new (has_room k (slice_index od c) (slice_index oe c) (room.numbers c) room.steps (let s = room.small_shift in omega (arith, s)) (omega arith) (room.stand.each c l))

pub whole_cell : (shift digits exponent n : ℕ) → shift < 2 ^ 27 → StandsAt shift digits exponent n 0 → IsCell digits exponent
whole_cell shift digits exponent n l s = has_room shift digits exponent n 0 l (omega arith) s

pub room_cell : (d e : List ℕ) (k more c : ℕ) → HaveRoom k d e more → c < length d → IsCell (slice_index d c) (slice_index e c)
room_cell d e k more c room l =
    let f = room.few_steps in
    has_room k (slice_index d c) (slice_index e c) (room.numbers c) room.steps (let s = room.small_shift in omega (arith, s)) (omega arith) (room.stand.each c l)

-- ---- what the cells stand for then

pub times_all : (w : ℕ → ℕ) (s p : ℕ) (od oe d e : List ℕ) (count : ℕ) → length od ≡ count → IsChanged (λ c a b x y. IsTimes a b s (w c) p x y) (λ c. c < count) od oe d e
    → (j : ℕ) (f : ℕ → ℕ) (n : ℕ) → AllStand j od oe f n → AllStand (j + s) d e (λ c. f c * w c) (n + p + 1)
times_all w s p od oe d e count long h j f n a = record {
  each = λ c l.
      let k : c < length od = omega (arith, h.as_many_digits) in
      (h.done c (omega (arith, long))).stands j (f c) n (a.each c k);
}

-- the steps of a whole number are none
pub times_whole : (w : ℕ → ℕ) (s : ℕ) (od oe d e : List ℕ) (count : ℕ) → length od ≡ count → IsChanged (λ c a b x y. IsTimes a b s (w c) 0 x y) (λ c. c < count) od oe d e
    → (j : ℕ) (f : ℕ → ℕ) (n : ℕ) → AllStand j od oe f n → AllStand (j + s) d e (λ c. f c * w c) (n + 1)
times_whole w s od oe d e count long h j f n a =
    let e' : n + 0 + 1 ≡ n + 1 = omega arith in
    subst (λ m. AllStand (j + s) d e (λ c. f c * w c) m) e' (times_all w s 0 od oe d e count long h j f n a)

-- what passes a test is multiplied, and the rest is shifted alone
pub times_some : (passes : ℕ → Bool) (units : ℕ → ℕ) (reached : ℕ → Type 0) (od oe d e : List ℕ)
    → ((c : ℕ) → c < length od → passes c ≡ true → reached c) → ((c : ℕ) → passes c ≡ false → reached c → ⊥)
    → IsChanged (λ c a b x y. IsTimes a b 40 (units c) 0 x y) reached od oe d e
    → (j : ℕ) (f : ℕ → ℕ) (n : ℕ) → AllStand j od oe f n → AllStand (j + 40) d e (λ c. f c * cond (passes c) (units c) (2 ^ 40)) (n + 1)
times_some passes units reached od oe d e all none h j f n a = record { each = λ c l. at c (omega (arith, h.as_many_digits)) (cases_Bool (passes c)) }
  where
    at : (c : ℕ) → c < length od → ((passes c ≡ true) ⊎ (passes c ≡ false)) → StandsAt (j + 40) (slice_index d c) (slice_index e c) (f c * cond (passes c) (units c) (2 ^ 40)) (n + 1)
    at c l (inl p) =
        let e' : n + 0 + 1 ≡ n + 1 = omega arith in
        subst (λ b. StandsAt (j + 40) (slice_index d c) (slice_index e c) (f c * cond b (units c) (2 ^ 40)) (n + 1)) (sym p)
        (subst (λ m. StandsAt (j + 40) (slice_index d c) (slice_index e c) (f c * units c) m) e' ((h.done c (all c l p)).stands j (f c) n (a.each c l)))
    at c l (inr p) =
        subst (λ b. StandsAt (j + 40) (slice_index d c) (slice_index e c) (f c * cond b (units c) (2 ^ 40)) (n + 1)) (sym p)
        (subst (λ y. StandsAt (j + 40) y (slice_index e c) (f c * 2 ^ 40) (n + 1)) (sym (h.digits_left c (none c p)))
        (subst (λ y. StandsAt (j + 40) (slice_index od c) y (f c * 2 ^ 40) (n + 1)) (sym (h.exponents_left c (none c p)))
        (untouched_stands j 40 (slice_index od c) (slice_index oe c) (f c) n (omega arith) (a.each c l))))

nothing_lower : (low exact whole n : ℕ) → low ≡ 0 → exact ≡ 0 → IsLowerEnd low exact whole n
nothing_lower low exact whole n e f = rw (e, f) (lower_more 0 0 whole 0 n (omega arith) (lower_same 0 whole))

-- Absent stands for 0, where something stands in as many steps
nothing_stands : (shift digits exponent v n : ℕ) → StandsAt shift digits exponent v n → StandsAt shift 0 0 0 n
nothing_stands shift digits exponent v n s = record {
  form = record { absent = λ p. refl; full = λ p. absurd (omega arith); fits = omega arith };
  lower = nothing_lower (0 * 2 ^ (0 + shift)) (0 * 2 ^ bias) (2 ^ bias) n (zero-mul (2 ^ (0 + shift))) (zero-mul (2 ^ bias));
  size = let l = s.size in omega (arith, l);
}

pub absent_stands : (shift n digits exponent : ℕ) → digits ≡ 0 → exponent ≡ 0 → StandsAt shift 0 0 0 n → StandsAt shift digits exponent 0 n
absent_stands shift n digits exponent d e h = rw (d, e) h

pub kept_all : (kept : ℕ → Bool) (od oe d e : List ℕ) (count : ℕ) → length od ≡ count → IsChanged (λ c a b x y. IsRestricted (kept c) a b x y) (λ c. c < count) od oe d e
    → (j : ℕ) (f : ℕ → ℕ) (n : ℕ) → AllStand j od oe f n → AllStand j d e (λ c. cond (kept c) (f c) 0) n
kept_all kept od oe d e count long h j f n a = record { each = λ c l. at c (omega (arith, h.as_many_digits)) (cases_Bool (kept c)) }
  where
    at : (c : ℕ) → c < length od → ((kept c ≡ true) ⊎ (kept c ≡ false)) → StandsAt j (slice_index d c) (slice_index e c) (cond (kept c) (f c) 0) n
    at c l (inl p) =
        let r = h.done c (omega (arith, long)) in
        subst (λ b. StandsAt j (slice_index d c) (slice_index e c) (cond b (f c) 0) n) (sym p)
        (subst (λ y. StandsAt j y (slice_index e c) (f c) n) (sym (r.same_digits p)) (subst (λ y. StandsAt j (slice_index od c) y (f c) n) (sym (r.same_exponent p)) (a.each c l)))
    at c l (inr p) =
        let r = h.done c (omega (arith, long)) in
        subst (λ b. StandsAt j (slice_index d c) (slice_index e c) (cond b (f c) 0) n) (sym p)
        (absent_stands j n (slice_index d c) (slice_index e c) (r.no_digits p) (r.no_exponent p) (nothing_stands j (slice_index od c) (slice_index oe c) (f c) n (a.each c l)))
