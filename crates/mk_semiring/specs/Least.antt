-- Minima are lawful.
use Rattle.std.specs.Prelude.{◌≡◌, ℕ, zero, suc, ◌+◌, ◌*◌, ◌<◌, ◌≤◌, min, refl}
use Rattle.std.proofs.Common.{sym, ap, ◌∙◌, ⊎_elim, arith, inl, inr, ◌⊎◌}
use Rattle.std.proofs.lemmas.Bool.{cases_lt}
use Rattle.std.proofs.Math.Nat.{mul-le-mul_left, mul-zero, one-le-mul}
use Rattle.mk_states.specs.Lawful.{Lawful}
use Rattle.mk_cell.specs.Least.{least, least-zero, least-at_zero, least-both}

-- each number is 0 or at least 1
pub absent_or_present : (a : ℕ) → (a ≡ 0) ⊎ (0 < a)
absent_or_present zero = inl refl
absent_or_present (suc a) = inr (omega arith)

least_comm : (a b : ℕ) → least a b ≡ least b a
least_comm a b =
    ⊎_elim
    (λ (z : a ≡ 0). rw z (least-zero b ∙ sym (least-at_zero b)))
    (λ (p : 0 < a).
    ⊎_elim
    (λ (z : b ≡ 0). rw z (least-at_zero a ∙ sym (least-zero a)))
    (λ (q : 0 < b). let l = least-both a b p q in let r = least-both b a q p in omega arith)
    (absent_or_present b))
    (absent_or_present a)

-- at Absent on either side
least_left : (a b : ℕ) → a ≡ 0 → least a b ≡ b
least_left a b z = ap (λ k. least k b) z ∙ least-zero b

least_right : (a b : ℕ) → b ≡ 0 → least a b ≡ a
least_right a b z = ap (λ k. least a k) z ∙ least-at_zero a

pub least_positive : (a b : ℕ) → 0 < a → 0 < least a b
least_positive a b p =
    ⊎_elim
    (λ (z : b ≡ 0). let l = least_right a b z in omega arith)
    (λ (q : 0 < b). let l = least-both a b p q in omega arith)
    (absent_or_present b)

least_assoc : (a b c : ℕ) → least (least a b) c ≡ least a (least b c)
least_assoc a b c =
    ⊎_elim
    (λ (z : a ≡ 0). ap (λ k. least k c) (least_left a b z) ∙ sym (least_left a (least b c) z))
    (λ (p : 0 < a).
    ⊎_elim
    (λ (z : b ≡ 0). ap (λ k. least k c) (least_right a b z) ∙ ap (λ k. least a k) (sym (least_left b c z)))
    (λ (q : 0 < b).
    ⊎_elim
    (λ (z : c ≡ 0). least_right (least a b) c z ∙ ap (λ k. least a k) (sym (least_right b c z)))
    (λ (r : 0 < c).
    let ab = least-both a b p q in
    let bc = least-both b c q r in
    let x = least-both (least a b) c (least_positive a b p) r in
    let y = least-both a (least b c) p (least_positive b c q) in
    omega arith)
    (absent_or_present c))
    (absent_or_present b))
    (absent_or_present a)

times_min : (a b c : ℕ) → a * min b c ≡ min (a * b) (a * c)
times_min a b c =
    ⊎_elim
    (λ (l : b < c).
    let m : a * b ≤ a * c = mul-le-mul_left a (omega arith) in
    let i : min b c ≡ b = omega arith in
    ap (λ k. a * k) i ∙ omega arith)
    (λ (l : c ≤ b).
    let m : a * c ≤ a * b = mul-le-mul_left a l in
    let i : min b c ≡ c = omega arith in
    ap (λ k. a * k) i ∙ omega arith)
    (cases_lt b c)

no_times : (a b : ℕ) → b ≡ 0 → a * b ≡ 0
no_times a b z = ap (λ k. a * k) z ∙ mul-zero a

absent_times : (a b : ℕ) → a ≡ 0 → a * b ≡ 0
absent_times a b z = ap (λ k. k * b) z ∙ omega arith

least_times : (a b c : ℕ) → a * least b c ≡ least (a * b) (a * c)
least_times a b c =
    ⊎_elim
    (λ (z : b ≡ 0). ap (λ k. a * k) (least_left b c z) ∙ sym (least_left (a * b) (a * c) (no_times a b z)))
    (λ (p : 0 < b).
    ⊎_elim
    (λ (z : c ≡ 0). ap (λ k. a * k) (least_right b c z) ∙ sym (least_right (a * b) (a * c) (no_times a c z)))
    (λ (q : 0 < c).
    ⊎_elim
    (λ (z : a ≡ 0). absent_times a (least b c) z ∙ sym (absent_times a c z) ∙ sym (least_left (a * b) (a * c) (absent_times a b z)))
    (λ (r : 0 < a).
    ap (λ k. a * k) (least-both b c p q) ∙ times_min a b c ∙ sym (least-both (a * b) (a * c) (one-le-mul r p) (one-le-mul r q)))
    (absent_or_present a))
    (absent_or_present c))
    (absent_or_present b)

least_bounded : (a b : ℕ) → least a b ≤ a + b
least_bounded a b =
    ⊎_elim
    (λ (z : a ≡ 0). let l = least_left a b z in omega arith)
    (λ (p : 0 < a).
    ⊎_elim
    (λ (z : b ≡ 0). let l = least_right a b z in omega arith)
    (λ (q : 0 < b). let l = least-both a b p q in omega arith)
    (absent_or_present b))
    (absent_or_present a)

pub least_lawful : Lawful least
least_lawful = record {
  commutes = least_comm;
  associates = least_assoc;
  neutral = least-zero;
  distributes = least_times;
  present = least_positive;
  bounded = least_bounded;
}
