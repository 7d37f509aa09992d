-- Sums, and minima of present values, are lawful.
use Rattle.std.proofs.Common.{◌≡◌, ℕ, ◌+◌, ◌*◌, ◌<◌, ◌≤◌, min, ◌⊎◌, inl, inr, refl, sym, ap, ◌∙◌, arith, mul-zero, zero-mul, eq-eqb, ne_eqb}
use Rattle.std.proofs.Math.Nat.{mul-le-mul_left, one-le-mul}
use Rattle.std.proofs.lemmas.Bool.{cases_eq, cases_lt}
use Rattle.mk_states.specs.Lawful.{Lawful}
use Rattle.mk_sums.specs.Lawful.{lesser_present}

lesser_absent : (b : ℕ) → lesser_present 0 b ≡ b
lesser_absent b = refl

lesser_to_absent : (a : ℕ) → lesser_present a 0 ≡ a
lesser_to_absent a = at (cases_eq a 0)
  where
    at : ((a ≡ 0) ⊎ (a ≡ 0 → ⊥)) → lesser_present a 0 ≡ a
    at (inl e) = rw (eq-eqb a 0 e) (sym e)
    at (inr d) = rw (ne_eqb a 0 d)

lesser_both : (a b : ℕ) → 0 < a → 0 < b → lesser_present a b ≡ min a b
lesser_both a b h k = let d : a ≡ 0 → ⊥ = λ e. omega arith in let f : b ≡ 0 → ⊥ = λ e. omega arith in rw (ne_eqb a 0 d, ne_eqb b 0 f)

data Kinds (a b : ℕ) : Type 0 where
  left : a ≡ 0 → lesser_present a b ≡ b → Kinds a b
  right : 0 < a → b ≡ 0 → lesser_present a b ≡ a → Kinds a b
  both : 0 < a → 0 < b → lesser_present a b ≡ min a b → Kinds a b

kinds : (a b : ℕ) → Kinds a b
kinds a b = at (cases_eq a 0) (cases_eq b 0)
  where
    at : ((a ≡ 0) ⊎ (a ≡ 0 → ⊥)) → ((b ≡ 0) ⊎ (b ≡ 0 → ⊥)) → Kinds a b
    at (inl e) _ = left e (ap (λ z. lesser_present z b) e)
    at (inr d) (inl e) = right (omega arith) e (ap (lesser_present a) e ∙ lesser_to_absent a)
    at (inr d) (inr f) = let p : 0 < a = omega arith in let q : 0 < b = omega arith in both p q (lesser_both a b p q)

commutes : (a b : ℕ) → lesser_present a b ≡ lesser_present b a
commutes a b = at (kinds a b) (kinds b a)
  where
    at : Kinds a b → Kinds b a → lesser_present a b ≡ lesser_present b a
    at (left e f) (left g h) = omega arith
    at (left e f) (right p g h) = omega arith
    at (left e f) (both p q h) = absurd (omega arith)
    at (right p e f) (left g h) = omega arith
    at (right p e f) (right q g h) = absurd (omega arith)
    at (right p e f) (both q r h) = absurd (omega arith)
    at (both p q f) (left g h) = absurd (omega arith)
    at (both p q f) (right r g h) = absurd (omega arith)
    at (both p q f) (both r s h) = omega arith

associates : (a b c : ℕ) → lesser_present (lesser_present a b) c ≡ lesser_present a (lesser_present b c)
associates a b c = at (cases_eq a 0) (cases_eq b 0) (cases_eq c 0)
  where
    at : ((a ≡ 0) ⊎ (a ≡ 0 → ⊥)) → ((b ≡ 0) ⊎ (b ≡ 0 → ⊥)) → ((c ≡ 0) ⊎ (c ≡ 0 → ⊥)) → lesser_present (lesser_present a b) c ≡ lesser_present a (lesser_present b c)
    at (inl e) _ _ = ap (λ z. lesser_present (lesser_present z b) c) e ∙ sym (ap (λ z. lesser_present z (lesser_present b c)) e)
    at (inr d) (inl e) _ =
        ap (λ z. lesser_present (lesser_present a z) c) e ∙ ap (λ z. lesser_present z c) (lesser_to_absent a) ∙ sym (ap (λ z. lesser_present a (lesser_present z c)) e)
    at (inr d) (inr f) (inl e) =
        ap (lesser_present (lesser_present a b)) e ∙ lesser_to_absent (lesser_present a b) ∙ sym (ap (λ z. lesser_present a (lesser_present b z)) e ∙ ap (lesser_present a) (lesser_to_absent b))
    at (inr d) (inr f) (inr g) =
        let p : 0 < a = omega arith in let q : 0 < b = omega arith in let r : 0 < c = omega arith in
        let s : 0 < min a b = omega arith in let t : 0 < min b c = omega arith in
        let u : min (min a b) c ≡ min a (min b c) = omega arith in
        ap (λ z. lesser_present z c) (lesser_both a b p q) ∙ lesser_both (min a b) c s r ∙ u ∙ sym (ap (lesser_present a) (lesser_both b c q r) ∙ lesser_both a (min b c) p t)

distributes : (a b c : ℕ) → a * lesser_present b c ≡ lesser_present (a * b) (a * c)
distributes a b c = at (cases_eq a 0) (kinds b c) (cases_lt b c)
  where
    at : ((a ≡ 0) ⊎ (a ≡ 0 → ⊥)) → Kinds b c → ((b < c) ⊎ (c ≤ b)) → a * lesser_present b c ≡ lesser_present (a * b) (a * c)
    at (inl e) _ _ =
        ap (λ z. z * lesser_present b c) e ∙ zero-mul (lesser_present b c)
        ∙ sym (ap (λ z. lesser_present z (a * c)) (ap (λ z. z * b) e ∙ zero-mul b) ∙ ap (λ z. z * c) e ∙ zero-mul c)
    at (inr d) (left e f) _ = ap (λ z. a * z) f ∙ sym (ap (λ z. lesser_present z (a * c)) (ap (λ z. a * z) e ∙ mul-zero a))
    at (inr d) (right p e f) _ = ap (λ z. a * z) f ∙ sym (ap (lesser_present (a * b)) (ap (λ z. a * z) e ∙ mul-zero a) ∙ lesser_to_absent (a * b))
    at (inr d) (both p q f) (inl l) =
        let o : 1 ≤ a = omega arith in
        let r : 1 ≤ a * b = one-le-mul o p in let s : 1 ≤ a * c = one-le-mul o q in
        let n : a * b ≤ a * c = mul-le-mul_left a (omega arith) in
        let t : lesser_present b c ≡ b = omega (arith, f) in
        ap (λ z. a * z) t ∙ sym (lesser_both (a * b) (a * c) r s ∙ omega (arith, n))
    at (inr d) (both p q f) (inr l) =
        let o : 1 ≤ a = omega arith in
        let r : 1 ≤ a * b = one-le-mul o p in let s : 1 ≤ a * c = one-le-mul o q in
        let n : a * c ≤ a * b = mul-le-mul_left a l in
        let t : lesser_present b c ≡ c = omega (arith, f) in
        ap (λ z. a * z) t ∙ sym (lesser_both (a * b) (a * c) r s ∙ omega (arith, n))

pub minima_lawful : Lawful lesser_present
minima_lawful = record { commutes = commutes; associates = associates; neutral = lesser_absent; distributes = distributes; present = λ a b h. positive a b h (kinds a b); bounded = λ a b. at_most a b (kinds a b) }
  where
    positive : (a b : ℕ) → 0 < a → Kinds a b → 0 < lesser_present a b
    positive a b h (left e f) = absurd (omega arith)
    positive a b h (right p e f) = omega arith
    positive a b h (both p q f) = omega arith

    at_most : (a b : ℕ) → Kinds a b → lesser_present a b ≤ a + b
    at_most a b (left e f) = omega arith
    at_most a b (right p e f) = omega arith
    at_most a b (both p q f) = omega arith
