-- Numbers times powers of two.
use Rattle.std.proofs.Common.{◌≡◌, ℕ, ◌+◌, ◌-◌, ◌*◌, ◌^◌, ◌<◌, ◌≤◌, min, Bool, true, false, leb, MatchBool, refl, sym, ap, ◌∙◌, inl, inr, arith, le_trans, lt_of_lt_of_le}
use Rattle.std.proofs.lemmas.Bool.{cases_lt}
use Rattle.std.proofs.lemmas.Nat.{pow-add, pow_pos}
use Rattle.std.proofs.Math.Nat.{mul-le-mul_left, mul-le-mul_right, mul-lt-mul_of_pos_right, le_of_mul-le-mul_right, lt_of_mul-lt-mul_right, pow-le-pow_right, mul_assoc}
use Rattle.mk_enclose.specs.declared.enclosure.Enclosure.{Enclosure}
use Rattle.mk_judge.specs.declared.comparing.Compared.{Compared}
use Rattle.mk_judge.specs.declared.comparing.Compared.TheVariants.{AtMost, Above, Unsure}
use Rattle.mk_judge.specs.Compared.{LeavesOpen, Says}
use Rattle.mk_judge.proofs.Nearness.{near_cancelled}
use Rattle.mk_judge.proofs.Quotients.{test_says}

-- lifted by 64 bits it is above every mantissa
lifted_most : (m n bits : ℕ) → 1 ≤ n → m < 2 ^ 64 → m ≤ n * 2 ^ bits → m ≤ n * 2 ^ min bits 64
lifted_most m n bits some small h = elim (cases_lt 64 bits) [
  | inl more ↦ let e : min bits 64 ≡ 64 = omega arith in rw e (omega (arith, some, small))
  | inr less ↦ let e : min bits 64 ≡ bits = omega arith in rw e h
]

lifted_least : (m n bits : ℕ) → m ≤ n * 2 ^ min bits 64 → m ≤ n * 2 ^ bits
lifted_least m n bits h = le_trans h (mul-le-mul_left n (pow-le-pow_right {n = 2} (omega arith) (let l : min bits 64 ≤ bits = omega arith in l)))

-- as a test
pub lift_right : (m n bits : ℕ) → 1 ≤ n → m < 2 ^ 64 → MatchBool (leb m (n * 2 ^ min bits 64)) (m ≤ n * 2 ^ bits) (n * 2 ^ bits < m)
lift_right m n bits some small = test_says m (n * 2 ^ min bits 64) _ _ (lifted_least m n bits) (λ past. elim (cases_lt (n * 2 ^ bits) m) [
  | inl less ↦ less
  | inr more ↦ let most = lifted_most m n bits some small more in absurd (omega (arith, past, most))
])

pub lift_left : (m n bits : ℕ) → 1 ≤ m → n < 2 ^ 64 → MatchBool (leb (m * 2 ^ min bits 64) n) (m * 2 ^ bits ≤ n) (n < m * 2 ^ bits)
lift_left m n bits some small = test_says (m * 2 ^ min bits 64) n _ _ all past
  where
    all : m * 2 ^ min bits 64 ≤ n → m * 2 ^ bits ≤ n
    all h = elim (cases_lt 64 bits) [
      | inl more ↦ let e : min bits 64 ≡ 64 = omega arith in let l : m * 2 ^ 64 ≤ n = rw e at h in absurd (omega (arith, l, some, small))
      | inr less ↦ let e : min bits 64 ≡ bits = omega arith in rw e at h
    ]

    past : n < m * 2 ^ min bits 64 → n < m * 2 ^ bits
    past h = lt_of_lt_of_le h (mul-le-mul_left m (pow-le-pow_right {n = 2} (omega arith) (let l : min bits 64 ≤ bits = omega arith in l)))

-- a stored number times a power of two
moved : (a m e bits most : ℕ) → a ≡ m * 2 ^ e → e + bits ≡ most → a * 2 ^ bits ≡ m * 2 ^ most
moved a m e bits most h s =
    ap (λ k. k * 2 ^ bits) h ∙ mul_assoc m (2 ^ e) (2 ^ bits) ∙ ap (λ k. m * k) (sym (pow-add 2 e bits)) ∙ ap (λ k. m * 2 ^ k) s

apart : (n low high : ℕ) → low ≤ high → n * 2 ^ high ≡ n * 2 ^ (high - low) * 2 ^ low
apart n low high h =
    let s : high ≡ high - low + low = omega arith in
    ap (λ k. n * 2 ^ k) s ∙ ap (λ k. n * k) (pow-add 2 (high - low) low) ∙ sym (mul_assoc n (2 ^ (high - low)) (2 ^ low))

-- two tests that say the same
same_test : (b : Bool) (P Q P' Q' : Type 0) → (P → P') → (Q → Q') → MatchBool b P Q → MatchBool b P' Q'
same_test true P Q P' Q' p q h = p h
same_test false P Q P' Q' p q h = q h

module _ (a m e bits b n f more : ℕ) (a_is : a ≡ m * 2 ^ e) (b_is : b ≡ n * 2 ^ f) where
  -- a power of two is taken away from both sides
  decides : (test : Bool) (p q k : ℕ) → a * 2 ^ bits ≡ p * 2 ^ k → b * 2 ^ more ≡ q * 2 ^ k
      → MatchBool test (p ≤ q) (q < p)
      → MatchBool test (a * 2 ^ bits ≤ b * 2 ^ more) (b * 2 ^ more < a * 2 ^ bits)
  decides test p q k left right = same_test test _ _ _ _
      (λ h. rw (left, right) (mul-le-mul_right (2 ^ k) h))
      (λ h. rw (left, right) (mul-lt-mul_of_pos_right h (pow_pos k)))

  left : a * 2 ^ bits ≡ m * 2 ^ (e + bits)
  left = moved a m e bits (e + bits) a_is refl

  right : b * 2 ^ more ≡ n * 2 ^ (f + more)
  right = moved b n f more (f + more) b_is refl

  -- the lesser exponent is taken away
  pub right_decides : (test : Bool) → e + bits ≤ f + more
      → MatchBool test (m ≤ n * 2 ^ (f + more - (e + bits))) (n * 2 ^ (f + more - (e + bits)) < m)
      → MatchBool test (a * 2 ^ bits ≤ b * 2 ^ more) (b * 2 ^ more < a * 2 ^ bits)
  right_decides test order = decides test m _ (e + bits) left
      (right ∙ apart n (e + bits) (f + more) order)

  pub left_decides : (test : Bool) → f + more ≤ e + bits
      → MatchBool test (m * 2 ^ (e + bits - (f + more)) ≤ n) (n < m * 2 ^ (e + bits - (f + more)))
      → MatchBool test (a * 2 ^ bits ≤ b * 2 ^ more) (b * 2 ^ more < a * 2 ^ bits)
  left_decides test order = decides test _ n (f + more) (left ∙ apart m (f + more) (e + bits) order)
      right

-- where both enclosures are exact, the ends do not disagree
pub ends_agree : (x y lo hi lo' hi' : ℕ) → lo ≡ hi → lo' ≡ hi' → lo' * y < hi * x → lo * x ≤ hi' * y → ⊥
ends_agree x y lo hi lo' hi' same same' past within =
    let a : lo' * y < lo * x = rw same past in
    let b : lo * x ≤ lo' * y = rw same' within in
    omega (arith, a, b)

-- ---- a number that stands beside powers of two

-- a comparison of two numbers is one of two others that are to them as w is to k
pub says_beside : (c : Compared) (left right : Enclosure) (x y p q w k : ℕ) → 1 ≤ w → 1 ≤ k → p * k ≡ x * w → q * k ≡ y * w
    → Says c x y (LeavesOpen left right x y) → Says c p q (LeavesOpen left right p q)
says_beside AtMost left right x y p q w k some one p_is q_is h = le_of_mul-le-mul_right {k = k} (rw (p_is, q_is) (mul-le-mul_right w h)) one
says_beside Above left right x y p q w k some one p_is q_is h = lt_of_mul-lt-mul_right k (rw (p_is, q_is) (mul-lt-mul_of_pos_right h some))
says_beside Unsure left right x y p q w k some one p_is q_is h = record {
  near = λ g i graded graded'. let near = h.near g i graded graded' in record {
    upward = near_cancelled x y p q w k (g + i) one p_is q_is near.upward;
    downward = near_cancelled y x q p w k (g + i) one q_is p_is near.downward;
  };
  rounded = h.rounded;
}
