use Rattle.std.proofs.Common.{◌≡◌, ℕ, ◌+◌, ◌-◌, ◌*◌, ◌^◌, ◌<◌, ◌≤◌, false, sym, ◌∙◌, ap, arith, ◌%◌}
use Rattle.mk_scaled.specs.Form.{IsForm, exponent_of}
use Rattle.mk_scaled.specs.inner.UniqueForm.{exponent-form}
use Rattle.mk_scaled.specs.inner.Wide.{IsNearRange, IsFull, StandsFor}
use Rattle.mk_scaled.proofs.Widened.{IsFull-near, StandsFor-near, IsFull-far, StandsFor-far, near_digits}
use Rattle.mk_scaled.proofs.scaled.wide.Wide.sum.Goals as goal

-- the exponents in order, from the numbers
in_order : (m e n d a b : ℕ) → IsForm m e → IsForm n d → m * 2 ^ e ≡ a → n * 2 ^ d ≡ b → exponent_of b ≤ exponent_of a → d ≤ e
in_order m e n d a b f g i j h =
    let p = sym (exponent-form m e f) ∙ ap exponent_of i in
    let q = sym (exponent-form n d g) ∙ ap exponent_of j in
    omega arith

same_sum : (m e n d a b c : ℕ) → m * 2 ^ e ≡ a → n * 2 ^ d ≡ b → a + b ≡ c → m * 2 ^ e + n * 2 ^ d ≡ c
same_sum m e n d a b c i j h = omega arith

full_near : (m e n d c : ℕ) → IsForm m e → IsForm n d → d ≤ e → e - d < 64 → m * 2 ^ e + n * 2 ^ d ≡ c → IsNearRange c → IsFull (m * 2 ^ (e - d) % 2 ^ 128 + n) d
full_near m e n d c f g l k s h = rw (near_digits m (e - d) f.below k) (IsFull-near m e n d f g l k (rw s h))

stands_near : (m e n d c : ℕ) → IsForm m e → d ≤ e → e - d < 64 → m * 2 ^ e + n * 2 ^ d ≡ c → StandsFor (m * 2 ^ (e - d) % 2 ^ 128 + n) d false c
stands_near m e n d c f l k s = rw (near_digits m (e - d) f.below k, ← s) (StandsFor-near m e n d l)

pub overflow_sub-gap : goal.overflow_sub-gap
overflow_sub-gap c = in_order _ _ _ _ _ _ c.high.invariant c.low.invariant c.high.view_is c.low.view_is c.by_exponent-high.ensures.order

pub returns-then-gap-lt64-clause-full : goal.returns-then-gap-lt64-clause-full
returns-then-gap-lt64-clause-full c =
    full_near _ _ _ _ _ c.high.invariant c.low.invariant
    (in_order _ _ _ _ _ _ c.high.invariant c.low.invariant c.high.view_is c.low.view_is c.by_exponent-high.ensures.order)
    c.if-gap-lt64.true
    (same_sum _ _ _ _ _ _ _ c.high.view_is c.low.view_is c.by_exponent-high.ensures.sum)
    c.requires

pub returns-then-gap-lt64-clause-exact : goal.returns-then-gap-lt64-clause-exact
returns-then-gap-lt64-clause-exact c =
    stands_near _ _ _ _ _ c.high.invariant
    (in_order _ _ _ _ _ _ c.high.invariant c.low.invariant c.high.view_is c.low.view_is c.by_exponent-high.ensures.order)
    c.if-gap-lt64.true
    (same_sum _ _ _ _ _ _ _ c.high.view_is c.low.view_is c.by_exponent-high.ensures.sum)

pub returns-else-gap-lt64-clause-full : goal.returns-else-gap-lt64-clause-full
returns-else-gap-lt64-clause-full c =
    let s = same_sum c.high.inside.mantissa c.high.inside.exponent c.low.inside.mantissa c.low.inside.exponent _ _ _ c.high.view_is c.low.view_is c.by_exponent-high.ensures.sum in
    IsFull-far c.high.inside.mantissa c.high.inside.exponent c.low.inside.mantissa c.low.inside.exponent c.high.invariant (rw s c.requires)

pub returns-else-gap-lt64-clause-exact : goal.returns-else-gap-lt64-clause-exact
returns-else-gap-lt64-clause-exact c =
    let s = same_sum c.high.inside.mantissa c.high.inside.exponent c.low.inside.mantissa c.low.inside.exponent _ _ _ c.high.view_is c.low.view_is c.by_exponent-high.ensures.sum in
    rw (← s) (StandsFor-far c.high.inside.mantissa c.high.inside.exponent c.low.inside.mantissa c.low.inside.exponent c.low.invariant c.if-gap-lt64.false)
