-- Searches for a least value, and the least of exact values.
use Rattle.std.proofs.Common.{◌≡◌, ℕ, zero, suc, ◌+◌, ◌*◌, ◌<◌, ◌≤◌, ◌⊎◌, inl, inr, min, sym, ap, ◌∙◌, arith, ⊎_elim}
use Rattle.std.proofs.lemmas.Bool.{cases_lt}
use Rattle.std.proofs.Math.Nat.{mul-le-mul_right}
use Rattle.mk_cell.specs.Cell.{IsLowerEnd}
use Rattle.mk_cell.specs.inner.Close.{close_between}
use Rattle.mk_cell.specs.inner.LowerEnd.{lower_none}
use Rattle.mk_cell.specs.Least.{least, least-zero, least-at_zero, least-both, IsLeastOf}
use Rattle.mk_cell.specs.Passes.{folded, folded-zero, folded-suc}
use Rattle.mk_cell.proofs.GreatestOf.{IsAt}

-- ---- a search

pub none_yet : (counts : ℕ → Type 0) (far : ℕ) (f : ℕ → ℕ) → IsLeastOf 0 counts far f far
none_yet counts far f = record { below = λ c l h. absurd (omega arith); attained = λ l. absurd (omega arith) }

-- what a place adds: its value where it counts, and else nothing below the bound
pub record Adds (counts : Type 0) (far value x : ℕ) : Type 0 where
  pub here : counts → x ≡ value
  pub elsewhere : (counts ⊎ (far ≤ x))

-- a place that counts where its number is at least a bound
pub adds_from : (low far e value x : ℕ) → (low ≤ e → x ≡ value) → (e < low → far ≤ x) → Adds (low ≤ e) far value x
adds_from low far e value x h k = record {
  here = h;
  elsewhere = ⊎_elim (λ (l : e < low). inr (k l)) (λ (l : low ≤ e). inl l) (cases_lt e low);
}

split : (n c : ℕ) → c < n + 1 → (c < n) ⊎ (c ≡ n)
split n c h = ⊎_elim (λ (l : c < n). inl l) (λ (l : n ≤ c). let e : c ≡ n = omega arith in inr e) (cases_lt c n)

next_below : (n : ℕ) (counts : ℕ → Type 0) (far : ℕ) (f : ℕ → ℕ) (t x r : ℕ) → IsLeastOf n counts far f t → Adds (counts n) far (f n) x → r ≡ min t x → (c : ℕ) → c < n + 1 → counts c → r ≤ f c
next_below n counts far f t x r h a e c l k =
    ⊎_elim
    (λ (o : c < n). let m = h.below c o k in omega arith)
    (λ (o : c ≡ n). let i : counts n = at_place counts c n o k in let m = a.here i in rw o (omega arith))
    (split n c l)
  where
    at_place : (P : ℕ → Type 0) (i j : ℕ) → i ≡ j → P i → P j
    at_place P i j o p = rw (← o) p

next_attained : (n : ℕ) (counts : ℕ → Type 0) (far : ℕ) (f : ℕ → ℕ) (t x r : ℕ) → IsLeastOf n counts far f t → Adds (counts n) far (f n) x → r ≡ min t x → r < far → (c : ℕ) × (c < n + 1) × counts c × (f c ≡ r)
next_attained n counts far f t x r h a e l =
    ⊎_elim
    (λ (o : t < far).
    ⊎_elim
    (λ (p : x < t). new (let q : x < far = omega arith in q) (let q : r ≡ x = omega arith in q))
    (λ (p : t ≤ x). let w = h.attained o in let s = w.3 in (w.0, let q = w.1 in omega arith, w.2, omega arith))
    (cases_lt x t))
    (λ (o : far ≤ t). let q : x < far = omega arith in new q (let q : r ≡ x = omega arith in q))
    (cases_lt t far)
  where
    new : x < far → r ≡ x → (c : ℕ) × (c < n + 1) × counts c × (f c ≡ r)
    new p q =
        ⊎_elim
        (λ (k : counts n). let i = a.here k in (n, omega arith, k, sym i ∙ sym q))
        (λ (k : far ≤ x). absurd (omega arith))
        a.elsewhere

pub least_next : (n : ℕ) (counts : ℕ → Type 0) (far : ℕ) (f : ℕ → ℕ) (t x r : ℕ) → IsLeastOf n counts far f t → Adds (counts n) far (f n) x → r ≡ min t x → IsLeastOf (n + 1) counts far f r
least_next n counts far f t x r h a e = record {
  below = next_below n counts far f t x r h a e;
  attained = next_attained n counts far f t x r h a e;
}

-- ---- the least of exact values

abbrev pub lesser : ℕ → (ℕ → ℕ) → ℕ
lesser n f = folded least 0 n f

more : (n : ℕ) (f : ℕ → ℕ) → lesser (suc n) f ≡ least (lesser n f) (f n)
more n f = folded-suc least 0 n f

-- the lesser of two is one of them, and is there where one is
record IsLesser (a b r : ℕ) : Type 0 where
  left : 0 < a → (0 < r) × (r ≤ a)
  right : 0 < b → (0 < r) × (r ≤ b)
  one : (r ≡ a) ⊎ (r ≡ b)

lesser_is : (a b : ℕ) → IsLesser a b (least a b)
lesser_is a b =
    ⊎_elim
    (λ (p : 0 < a).
    ⊎_elim
    (λ (q : 0 < b).
    let i = least-both a b p q in
    record {
      left = λ h. (omega arith, omega arith);
      right = λ h. (omega arith, omega arith);
      one = ⊎_elim (λ (l : a < b). let e : least a b ≡ a = omega arith in inl e) (λ (l : b ≤ a). let e : least a b ≡ b = omega arith in inr e) (cases_lt a b);
    })
    (λ (q : b ≤ 0).
    let z : b ≡ 0 = omega arith in
    let i : least a b ≡ a = ap (λ y. least a y) z ∙ least-at_zero a in
    record { left = λ h. (omega arith, omega arith); right = λ h. absurd (omega arith); one = inl i })
    (cases_lt 0 b))
    (λ (p : a ≤ 0).
    let z : a ≡ 0 = omega arith in
    let i : least a b ≡ b = ap (λ y. least y b) z ∙ least-zero b in
    record { left = λ h. absurd (omega arith); right = λ h. (omega arith, omega arith); one = inr i })
    (cases_lt 0 a)

pub lesser_at_most : (n i : ℕ) (f : ℕ → ℕ) → i < n → 0 < f i → (0 < lesser n f) × (lesser n f ≤ f i)
lesser_at_most zero i f h p = absurd (omega arith)
lesser_at_most (suc n) i f h p =
    let m = more n f in
    let w = lesser_is (lesser n f) (f n) in
    ⊎_elim
    (λ (l : i < n). let k = lesser_at_most n i f l p in let q = w.left k.0 in (omega arith, omega arith))
    (λ (l : n ≤ i). let e : i ≡ n = omega arith in let p' : 0 < f n = rw e at p in let q = w.right p' in (omega arith, rw e (omega arith)))
    (cases_lt i n)

pub lesser_at : (n : ℕ) (f : ℕ → ℕ) → 0 < lesser n f → IsAt n f (lesser n f)
lesser_at zero f h = let z = folded-zero least 0 f in absurd (omega arith)
lesser_at (suc n) f h =
    let m = more n f in
    let w = lesser_is (lesser n f) (f n) in
    ⊎_elim
    (λ (e : least (lesser n f) (f n) ≡ lesser n f).
    let k = lesser_at n f (omega arith) in
    let s = k.same in
    record { place = k.place; within = let q = k.within in omega arith; same = omega arith })
    (λ (e : least (lesser n f) (f n) ≡ f n). record { place = n; within = omega arith; same = omega arith })
    w.one

pub lesser_none : (n : ℕ) (f : ℕ → ℕ) → ((c : ℕ) → c < n → f c ≡ 0) → lesser n f ≡ 0
lesser_none zero f h = folded-zero least 0 f
lesser_none (suc n) f h =
    let i = lesser_none n f (λ c l. h c (omega arith)) in
    let j = h n (omega arith) in
    more n f ∙ ap (λ y. least y (f n)) i ∙ least-zero (f n) ∙ j

-- a lower end is there where its number is
pub was_there : (a b c t : ℕ) → 0 < a → IsLowerEnd a (b * c) c t → 0 < b
was_there a b c t q h =
    ⊎_elim
    (λ (k : 0 < b). k)
    (λ (k : b ≤ 0). let z : b ≡ 0 = omega arith in let y : b * c ≡ 0 = rw z (omega arith) in let u = h.below in absurd (omega arith))
    (cases_lt 0 b)

is_there : (a b c t : ℕ) → 1 ≤ c → 0 < b → IsLowerEnd a (b * c) c t → 0 < a
is_there a b c t q k h =
    ⊎_elim
    (λ (o : 0 < a). o)
    (λ (o : a ≤ 0). let z : a ≡ 0 = omega arith in let y = lower_none b c t q (rw z at h) in absurd (omega arith))
    (cases_lt 0 a)

-- the lower end that is least is one of the least number
pub lower_least : (n i whole s : ℕ) (low v : ℕ → ℕ) → 1 ≤ whole → i < n → 0 < low i → ((c : ℕ) → c < n → 0 < low c → low i ≤ low c) → ((c : ℕ) → c < n → IsLowerEnd (low c) (v c * whole) whole s) → IsLowerEnd (low i) (lesser n v * whole) whole s
lower_least n i whole s low v w l p first e =
    let there : 0 < v i = was_there (low i) (v i) whole s p (e i l) in
    let m = lesser_at_most n i v l there in
    let a = lesser_at n v m.0 in
    let h : 0 < v a.place = let k = a.same in omega arith in
    let b : 0 < low a.place = is_there (low a.place) (v a.place) whole s w h (e a.place a.within) in
    let f = first a.place a.within b in
    let x = e a.place a.within in
    let y = x.below in
    let z = e i l in
    let le : low i ≤ lesser n v * whole = rw (sym a.same) (omega arith) in
    let up : lesser n v * whole ≤ v i * whole = mul-le-mul_right whole m.1 in
    record {
      below = le;
      close = close_between (low i) (low i) (lesser n v * whole) (v i * whole) s (omega arith) up z.close;
      same = λ k. let q = z.same k in omega arith;
    }
