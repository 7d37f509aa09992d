-- The order of the numbers is that of their keys.
use Rattle.std.proofs.Common.{◌≡◌, ℕ, ◌+◌, ◌*◌, ◌^◌, ◌<◌, cond, eqb, sym, ap, ap₂, ◌∙◌, ⊎_elim, arith, Less, Equal, Greater, nat_cmp}
use Rattle.std.proofs.lemmas.Nat.{pow_pos}
use Rattle.std.proofs.lemmas.Bool.{cases_order, lt-ltb, le-ltb, eq-eqb, ne_eqb}
use Rattle.std.proofs.Math.Nat.{mul-lt-mul_of_pos_right}
use Rattle.mk_scaled.specs.Form.{mantissa_of, exponent_of, IsStored}
use Rattle.mk_scaled.specs.inner.UniqueForm.{less_by_exponent}

abbrev pub key_of : ℕ → ℕ
key_of n = exponent_of n * 2 ^ 64 + mantissa_of n

cmp_less : (x y : ℕ) → x < y → nat_cmp x y ≡ Less
cmp_less x y h = ap (λ t. cond t Less (cond (eqb x y) Equal Greater)) (lt-ltb x y h)

cmp_equal : (x y : ℕ) → x ≡ y → nat_cmp x y ≡ Equal
cmp_equal x y h =
    ap (λ t. cond t Less (cond (eqb x y) Equal Greater)) (le-ltb x y (omega arith)) ∙ ap (λ t. cond t Equal Greater) (eq-eqb x y h)

cmp_greater : (x y : ℕ) → y < x → nat_cmp x y ≡ Greater
cmp_greater x y h =
    ap (λ t. cond t Less (cond (eqb x y) Equal Greater)) (le-ltb x y (omega arith))
    ∙ ap (λ t. cond t Equal Greater) (ne_eqb x y (λ e. omega arith))

same_mantissa_less : (m n e d : ℕ) → e ≡ d → m < n → m * 2 ^ e < n * 2 ^ d
same_mantissa_less m n e d i h = rw i (mul-lt-mul_of_pos_right h (pow_pos d))

pub less_from_key : (a b : ℕ) → IsStored a → IsStored b → key_of a < key_of b → a < b
less_from_key a b f g h =
    let m = f.form.below in
    let n = g.form.below in
    rw (f.written, g.written)
    (⊎_elim
    (λ e. same_mantissa_less (mantissa_of a) (mantissa_of b) (exponent_of a) (exponent_of b) e (omega arith))
    (⊎_elim
    (λ l. less_by_exponent (mantissa_of a) (exponent_of a) (mantissa_of b) (exponent_of b) f.form g.form l)
    (λ l. absurd (omega arith)))
    (cases_order (exponent_of a) (exponent_of b)))

pub equal_from_key : (a b : ℕ) → IsStored a → IsStored b → key_of a ≡ key_of b → a ≡ b
equal_from_key a b f g h =
    let m = f.form.below in
    let n = g.form.below in
    let e : exponent_of a ≡ exponent_of b = omega arith in
    let i : mantissa_of a ≡ mantissa_of b = omega arith in
    f.written ∙ ap₂ (λ x y. x * 2 ^ y) i e ∙ sym g.written

pub cmp-keys : (a b : ℕ) → IsStored a → IsStored b → nat_cmp (key_of a) (key_of b) ≡ nat_cmp a b
cmp-keys a b f g =
    ⊎_elim
    (λ e. cmp_equal _ _ e ∙ sym (cmp_equal a b (equal_from_key a b f g e)))
    (⊎_elim
    (λ l. cmp_less _ _ l ∙ sym (cmp_less a b (less_from_key a b f g l)))
    (λ l. cmp_greater _ _ l ∙ sym (cmp_greater a b (less_from_key b a g f l))))
    (cases_order (key_of a) (key_of b))

pub eq-keys : (a b : ℕ) → IsStored a → IsStored b → eqb (key_of a) (key_of b) ≡ eqb a b
eq-keys a b f g =
    ⊎_elim
    (λ e. eq-eqb _ _ e ∙ sym (eq-eqb a b (equal_from_key a b f g e)))
    (⊎_elim
    (λ l. let k = less_from_key a b f g l in ne_eqb (key_of a) (key_of b) (λ e. omega arith) ∙ sym (ne_eqb a b (λ e. omega arith)))
    (λ l. let k = less_from_key b a g f l in ne_eqb (key_of a) (key_of b) (λ e. omega arith) ∙ sym (ne_eqb a b (λ e. omega arith))))
    (cases_order (key_of a) (key_of b))
