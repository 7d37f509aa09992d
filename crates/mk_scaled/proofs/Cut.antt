-- Cutting digits to the 64 bits of a mantissa.
use Rattle.std.proofs.Common.{◌≡◌, ℕ, suc, ◌+◌, ◌-◌, ◌*◌, ◌/◌, ◌^◌, ◌<◌, ◌≤◌, Bool, true, false, refl, sym, ap, ◌∙◌, ⊎_elim, arith, lt_of_lt_of_le, lt_of_le_of_lt, ◌⊎◌, true≢false, ltb}
use Rattle.std.specs.Int.Count.{count_leading_zeros, count_trailing_zeros}
use Rattle.std.proofs.lemmas.Nat.{pow-add, pow_pos, shr_below, le-div, leading_top}
use Rattle.std.proofs.lemmas.Bool.{cases_lt, cases_order, false≢true, ltb-true, ltb-false}
use mir.Val.{bool_byte}
use Rattle.std.proofs.Math.Nat.{mul-le-mul_right, mul_assoc, div-one, add-zero, div-mul-le_self, lt-div-mul-add}
use Rattle.mk_scaled.specs.Form.{IsForm}
use Rattle.mk_scaled.specs.Range.{two_to, exponent_below, pow_le}
use Rattle.mk_scaled.specs.Rounding.{IsGreatestBelow, IsLeastAbove}
use Rattle.mk_scaled.specs.inner.Wide.{IsFull, StandsFor}
use Rattle.mk_scaled.proofs.Trailing.{trailing_kept, trailing_lost}
use Rattle.mk_scaled.proofs.Rounded.{floor_is, ceil_is, exact_is_least, carried}

-- the digits that are kept
record IsCut (d s : ℕ) : Type 0 where
  positive : 1 ≤ d / 2 ^ s
  below : d / 2 ^ s < 2 ^ 64
  full : 0 < s → 2 ^ 63 ≤ d / 2 ^ s

plain_cut : (d : ℕ) → 1 ≤ d → d < 2 ^ 64 → IsCut d 0
plain_cut d p h = record { positive = rw (div-one d) p; below = rw (div-one d) h; full = λ z. absurd (omega arith) }

full_cut : (d j s : ℕ) → 2 ^ j ≤ d → d < 2 ^ suc j → suc j ≡ 64 + s → IsCut d s
full_cut d j s l h e =
    let u : d < 2 ^ (64 + s) = rw e at h in
    let i : j ≡ 63 + s = omega arith in
    let v : 2 ^ 63 * 2 ^ s ≤ d = rw (← pow-add 2 63 s, ← i) l in
    let f : 2 ^ 63 ≤ d / 2 ^ s = le-div (2 ^ 63) d (2 ^ s) (pow_pos s) v in
    record { positive = omega arith; below = shr_below d 64 s u; full = λ z. f }

cut_at : (d s : ℕ) → 1 ≤ d → d < 2 ^ 128 → s ≡ 64 - count_leading_zeros 128 d → IsCut d s
cut_at d s p h e =
    let t = leading_top 128 d p h in
    ⊎_elim
    (λ c.
    let z : s ≡ 0 = omega arith in
    let l : 2 ^ suc t.0 ≤ 2 ^ 64 = pow_le (suc t.0) 64 (omega (arith, t.1)) in
    rw z (plain_cut d p (lt_of_lt_of_le t.3 l)))
    (λ c. full_cut d t.0 s t.2 t.3 (omega (arith, t.1)))
    (cases_lt 63 (count_leading_zeros 128 d))

-- the kept digits, moved back
kept_back : (d e s : ℕ) → d / 2 ^ s * 2 ^ (e + s) ≡ (d / 2 ^ s * 2 ^ s) * 2 ^ e
kept_back d e s =
    let i : e + s ≡ s + e = omega arith in
    ap (λ k. d / 2 ^ s * 2 ^ k) i ∙ ap (λ y. d / 2 ^ s * y) (pow-add 2 s e) ∙ sym (mul_assoc (d / 2 ^ s) (2 ^ s) (2 ^ e))

kept_below : (d e s : ℕ) → d / 2 ^ s * 2 ^ (e + s) ≤ d * 2 ^ e
kept_below d e s = rw (kept_back d e s) (mul-le-mul_right (2 ^ e) (div-mul-le_self d (2 ^ s)))

next_above : (d e s : ℕ) → (d + 1) * 2 ^ e ≤ (d / 2 ^ s + 1) * 2 ^ (e + s)
next_above d e s =
    let q = d / 2 ^ s in
    let i : e + s ≡ s + e = omega arith in
    let l : d < q * 2 ^ s + 2 ^ s = lt-div-mul-add (pow_pos s) in
    let m : d + 1 ≤ (q + 1) * 2 ^ s = omega arith in
    let r : (q + 1) * 2 ^ (e + s) ≡ ((q + 1) * 2 ^ s) * 2 ^ e =
    ap (λ k. (q + 1) * 2 ^ k) i ∙ ap (λ y. (q + 1) * y) (pow-add 2 s e) ∙ sym (mul_assoc (q + 1) (2 ^ s) (2 ^ e)) in
    rw r (mul-le-mul_right (2 ^ e) m)

room_full : (m e d f : ℕ) → 2 ^ 63 ≤ m → m * 2 ^ e ≤ d * 2 ^ f → d * 2 ^ f < two_to (2 ^ 50 + 2) → e + 1 < 2 ^ 50
room_full m e d f h l u =
    let x = exponent_below m e 63 (2 ^ 50 + 2) h (lt_of_le_of_lt l u) in omega arith

pub cut_room : (d e s : ℕ) → IsFull d e → s ≡ 64 - count_leading_zeros 128 d → (IsForm (d / 2 ^ s) (e + s)) × (e + s + 1 < 2 ^ 50)
cut_room d e s f h =
    let c = cut_at d s f.positive f.below h in
    let full : 0 < e + s → 2 ^ 63 ≤ d / 2 ^ s = λ p.
    ⊎_elim
    c.full
    (λ z.
    let s0 : s ≡ 0 = omega arith in
    rw (s0, div-one d) (f.full (omega arith)))
    (cases_lt 0 s) in
    let room : e + s + 1 < 2 ^ 50 =
    ⊎_elim
    (λ p. room_full (d / 2 ^ s) (e + s) d e (full p) (kept_below d e s) f.fits)
    (λ z. omega arith)
    (cases_lt 0 (e + s)) in
    (record { positive = c.positive; below = c.below; small = omega arith; full = full }, room)

-- The kept digits stand for the same number: where something was left over, or where digits are lost.
pub same_with_rest : (d e s x : ℕ) → StandsFor d e true x → StandsFor (d / 2 ^ s) (e + s) true x
same_with_rest d e s x h = record {
  whole = λ q. absurd (true≢false q);
  above = λ q. lt_of_le_of_lt (kept_below d e s) (h.above refl);
  below = lt_of_lt_of_le h.below (next_above d e s);
}

pub same_when_kept : (d e s x : ℕ) → d / 2 ^ s * 2 ^ s ≡ d → StandsFor d e false x → StandsFor (d / 2 ^ s) (e + s) false x
same_when_kept d e s x k h = record {
  whole = λ q. h.whole refl ∙ ap (λ y. y * 2 ^ e) (sym k) ∙ sym (kept_back d e s);
  above = λ q. absurd (false≢true q);
  below = lt_of_lt_of_le h.below (next_above d e s);
}

pub same_when_lost : (d e s x : ℕ) → d / 2 ^ s * 2 ^ s < d → StandsFor d e false x → StandsFor (d / 2 ^ s) (e + s) true x
same_when_lost d e s x k h =
    let p = pow_pos e in
    let l : d / 2 ^ s * 2 ^ s + 1 ≤ d = omega arith in
    let m : (d / 2 ^ s * 2 ^ s + 1) * 2 ^ e ≤ d * 2 ^ e = mul-le-mul_right (2 ^ e) l in
    let n : (d / 2 ^ s * 2 ^ s) * 2 ^ e < d * 2 ^ e = omega arith in
    record {
      whole = λ q. absurd (true≢false q);
      above = λ q. rw (kept_back d e s, h.whole refl) n;
      below = lt_of_lt_of_le h.below (next_above d e s);
    }

pub rounds_down : (m e x : ℕ) (r : Bool) → IsForm m e → StandsFor m e r x → IsGreatestBelow (m * 2 ^ e) x
rounds_down m e x true f h = let l = h.above refl in floor_is m e x f (omega arith) h.below
rounds_down m e x false f h = let l = h.whole refl in floor_is m e x f (omega arith) h.below

pub rounds_up_exact : (m e x : ℕ) → IsForm m e → StandsFor m e false x → IsLeastAbove (m * 2 ^ e) x
rounds_up_exact m e x f h = rw (h.whole refl) (exact_is_least m e f)

pub next_form : (m e : ℕ) → IsForm m e → m + 1 < 2 ^ 64 → IsForm (m + 1) e
next_form m e f h =
    record { positive = omega arith; below = h; small = f.small; full = λ p. let l = f.full p in omega arith }

pub rounds_up_next : (m e x : ℕ) → IsForm m e → m + 1 < 2 ^ 64 → StandsFor m e true x → IsLeastAbove ((m + 1) * 2 ^ e) x
rounds_up_next m e x f n h =
    let l = h.below in
    ceil_is m e (m + 1) e x f (next_form m e f n) refl (h.above refl) (omega arith)

pub carry_form : (e : ℕ) → e + 1 < 2 ^ 50 → IsForm (2 ^ 63) (e + 1)
carry_form e h = record { positive = omega arith; below = omega arith; small = h; full = λ p. omega arith }

pub rounds_up_carry : (m e x : ℕ) → IsForm m e → e + 1 < 2 ^ 50 → m + 1 ≡ 2 ^ 64 → StandsFor m e true x → IsLeastAbove (2 ^ 63 * 2 ^ (e + 1)) x
rounds_up_carry m e x f room n h =
    let l = h.below in
    ceil_is m e (2 ^ 63) (e + 1) x f (carry_form e room) (carried m e n) (h.above refl) (omega arith)

-- what the code computes for the rest, where nothing was left over before
kept_or_lost : (d e s x : ℕ) (b : Bool) → s ≤ 128 → ltb (count_trailing_zeros 128 d) s ≡ b → StandsFor d e false x → StandsFor (d / 2 ^ s) (e + s) b x
kept_or_lost d e s x true l h k = same_when_lost d e s x (trailing_lost 128 d s l (ltb-true _ s h)) k
kept_or_lost d e s x false l h k = same_when_kept d e s x (trailing_kept 128 d s (ltb-false _ s h)) k

pub same_cut : (d e s x : ℕ) → s ≤ 128 → StandsFor d e false x → StandsFor (d / 2 ^ s) (e + s) (ltb (count_trailing_zeros 128 d) s) x
same_cut d e s x l k = kept_or_lost d e s x (ltb (count_trailing_zeros 128 d) s) l refl k

-- what the code computes for the mantissa that is rounded up
pub rounds_up : (m e x : ℕ) (r : Bool) → IsForm m e → (r ≡ true → m + 1 < 2 ^ 64) → StandsFor m e r x → IsLeastAbove ((m + bool_byte r) * 2 ^ e) x
rounds_up m e x true f n h = rounds_up_next m e x f (n refl) h
rounds_up m e x false f n h = rw (add-zero m) (rounds_up_exact m e x f h)

pub room_to_grow : (r : Bool) (m : ℕ) → m < 2 ^ 64 → ((r ≡ true) × (m ≡ 18446744073709551615 → ⊥)) ⊎ (r ≡ false) → r ≡ true → m + 1 < 2 ^ 64
room_to_grow r m h c t =
    ⊎_elim
    (λ p. ⊎_elim (λ e. absurd (p.1 e)) (⊎_elim (λ l. omega arith) (λ l. omega arith)) (cases_order m 18446744073709551615))
    (λ f. absurd (true≢false (sym t ∙ f)))
    c
