-- What holds of each cell that stands.
use Rattle.std.specs.Prelude.{◌≡◌, ℕ, ◌+◌, ◌*◌, ◌^◌, ◌<◌, ◌≤◌, List, length, slice_index}
use Rattle.std.proofs.Common.{sym, ap, ◌∙◌, ⊎_elim, arith, lt_of_lt_of_le, lt_of_le_of_lt}
use Rattle.std.proofs.lemmas.Bool.{cases_lt}
use Rattle.std.proofs.lemmas.Nat.{pow-add, pow_pos, shl_below}
use Rattle.std.proofs.Math.Nat.{mul_assoc, mul_right_comm, mul-le-mul_left, mul-lt-mul_of_pos_right}
use Rattle.mk_scaled.specs.Range.{two_to, two_to_pos, two_to-add, two_to-mono, two_to-small, two_to-lt, mul_at_most, exponent_below, pow-lt_reflects}
use Rattle.mk_cell.specs.Cell.{bias, bias-is, IsCell, StandsAt, AllStand, AreCells}
use Rattle.mk_cell.specs.inner.LowerEnd.{lower_more, lower_scaled, at_least_one}

-- a cell stands in more steps too
pub stands_with_more : (shift digits exponent v n p : ℕ) → n ≤ p → StandsAt shift digits exponent v n → StandsAt shift digits exponent v p
stands_with_more shift digits exponent v n p h s = record {
  form = s.form;
  lower = lower_more _ _ _ n p h s.lower;
  size = lt_of_lt_of_le s.size (two_to-mono (64 * (n + 1)) (64 * (p + 1)) (omega arith));
}

-- a number that is shifted by at most 64 places
shifted_below : (a b m : ℕ) → m ≤ 64 → a < two_to b → a * 2 ^ m < two_to (b + 64)
shifted_below a b m h l =
    let x : a * 2 ^ m ≤ a * two_to 64 = mul-le-mul_left a (two_to-small 64 m h) in
    let y : a * two_to 64 < two_to b * two_to 64 = mul-lt-mul_of_pos_right l (two_to_pos 64) in
    rw (two_to-add b 64) (omega arith)

-- A greater shift of the table multiplies what an untouched cell stands for, at the cost of one step, which keeps it in size.
pub untouched_stands : (shift more digits exponent v n : ℕ) → more ≤ 64 → StandsAt shift digits exponent v n → StandsAt (shift + more) digits exponent (v * 2 ^ more) (n + 1)
untouched_stands shift more digits exponent v n h s = record {
  form = s.form;
  lower = rw (raised digits exponent shift more, mul_right_comm v (2 ^ more) (2 ^ bias))
      (lower_more _ _ _ n (n + 1) (omega arith) (lower_scaled (digits * 2 ^ (exponent + shift)) (v * 2 ^ bias) (2 ^ bias) (2 ^ more) n (pow_pos more) s.lower));
  size =
      let i : 64 * (n + 1 + 1) ≡ 64 * (n + 1) + 64 = omega arith in
      rw i (shifted_below v (64 * (n + 1)) more h s.size);
}
  where
    raised : (q e k m : ℕ) → q * 2 ^ (e + (k + m)) ≡ (q * 2 ^ (e + k)) * 2 ^ m
    raised q e k m =
        let i : e + (k + m) ≡ (e + k) + m = omega arith in
        ap (λ y. q * 2 ^ y) i ∙ ap (λ y. q * y) (pow-add 2 (e + k) m) ∙ sym (mul_assoc q (2 ^ (e + k)) (2 ^ m))

-- Under a shift and in steps of the sizes that an engine comes to, a cell leaves room for a product.
low_room : (shift digits exponent v n : ℕ) → shift < 2 ^ 27 → StandsAt shift digits exponent v n → 0 < digits → 7 * 2 ^ 27 ≤ exponent
low_room shift digits exponent v n h s p =
    let f = s.form in
    let d = f.fits in
    let there : 0 < digits * 2 ^ (exponent + shift) = let m : digits * 1 ≤ digits * 2 ^ (exponent + shift) = mul-le-mul_left digits (pow_pos (exponent + shift)) in omega arith in
    let one = at_least_one (digits * 2 ^ (exponent + shift)) v (2 ^ bias) n s.lower there in
    let up : digits * 2 ^ (exponent + shift) < 2 ^ (64 + (exponent + shift)) = shl_below digits 64 (exponent + shift) d in
    let e : bias < 64 + (exponent + shift) = pow-lt_reflects bias (64 + (exponent + shift)) (lt_of_le_of_lt one up) in
    let b = bias-is in
    omega arith

high_room : (shift digits exponent v n : ℕ) → n < 6 * 2 ^ 20 → StandsAt shift digits exponent v n → 0 < digits → exponent ≤ 13 * 2 ^ 27
high_room shift digits exponent v n h s p =
    let l = s.lower in
    let size = s.size in
    let v' : v ≤ two_to (64 * (n + 1)) = omega arith in
    let m : v * 2 ^ bias ≤ two_to (64 * (n + 1) + bias) = mul_at_most v (2 ^ bias) (64 * (n + 1)) bias v' (two_to-small bias bias (omega arith)) in
    let t : two_to (64 * (n + 1) + bias) < two_to (64 * (n + 1) + bias + 1) = two_to-lt (64 * (n + 1) + bias) (64 * (n + 1) + bias + 1) (omega arith) in
    let u : digits * 2 ^ (exponent + shift) < two_to (64 * (n + 1) + bias + 1) = let y = l.below in omega arith in
    let e = exponent_below digits (exponent + shift) 63 (64 * (n + 1) + bias + 1) (let f = s.form in f.full p) u in
    let b = bias-is in
    omega arith

pub has_room : (shift digits exponent v n : ℕ) → shift < 2 ^ 27 → n < 6 * 2 ^ 20 → StandsAt shift digits exponent v n → IsCell digits exponent
has_room shift digits exponent v n h k s = record {
  form = s.form;
  low = low_room shift digits exponent v n h s;
  high =
      ⊎_elim
      (λ (p : 0 < digits). high_room shift digits exponent v n k s p)
      (λ (p : digits ≤ 0). let f = s.form in let z = f.absent (omega arith) in omega arith)
      (cases_lt 0 digits);
}

pub all_have_room : (shift : ℕ) (digits exponents : List ℕ) (f : ℕ → ℕ) (n : ℕ) → shift < 2 ^ 27 → n < 6 * 2 ^ 20 → length exponents ≡ length digits → AllStand shift digits exponents f n → AreCells digits exponents
all_have_room shift digits exponents f n h k e s = record {
  same_length = e;
  each = λ c l. has_room shift (slice_index digits c) (slice_index exponents c) (f c) n h k (s.each c l);
}
