use Rattle.std.proofs.Common.{◌≡◌, ℕ, ◌+◌, ◌-◌, ◌*◌, ◌/◌, ◌^◌, ◌<◌, ◌≤◌, refl, arith}
use Rattle.mk_scaled.specs.Near.{near_more}
use Rattle.mk_cell.specs.Cell.{StandsAt}
use Rattle.mk_cell.proofs.Standing.{no_digits}
use Rattle.mk_cell.proofs.Ends.{whole_digits, number_is, number_there, few_places, bounded_whole, number_is_below, near_ends, reached, not_above, at_least_half, bounded_end}
use Rattle.mk_cell.proofs.cell.Cell.enclosure.Goals as goal

pub returns-then-self-eq0-clause-absent : goal.returns-then-self-eq0-clause-absent
returns-then-self-eq0-clause-absent c = λ v s.
    (λ h. no_digits c.args.shift c.args.self.digits c.args.self.exponent v (3 * c.args.grade) s c.if-self-eq0.true, λ h. refl)

digits_are : (m e shift v n : ℕ) → m < 2 ^ 64 → e + shift < 1342177280 → StandsAt shift m e v n → m ≡ v * 2 ^ (1342177280 - (e + shift))
digits_are m e shift v n h l s = whole_digits m e shift v n (1342177280 - (e + shift)) h (omega arith) (omega arith) s

pub overflow_shr-self : goal.overflow_shr-self
overflow_shr-self c =
    let s = c.requires.stands in
    let f = s.1.form.fits in
    few_places c.args.self.digits s.0 (1342177280 - (c.args.self.exponent + c.args.shift))
    (digits_are c.args.self.digits c.args.self.exponent c.args.shift s.0 (3 * c.args.grade) f c.if-exponent.true s.1) f (omega arith)

value_is : (m e shift v n : ℕ) → m < 2 ^ 64 → e + shift < 1342177280 → StandsAt shift m e v n → m / 2 ^ (1342177280 - (e + shift)) ≡ v
value_is m e shift v n h l s = number_is m v (1342177280 - (e + shift)) (digits_are m e shift v n h l s)

value_there : (m e shift v n : ℕ) → m < 2 ^ 64 → e + shift < 1342177280 → 0 < m → StandsAt shift m e v n → 0 < v
value_there m e shift v n h l p s = number_there m v (1342177280 - (e + shift)) (digits_are m e shift v n h l s) p

pub exact-requires : goal.exact-requires
exact-requires c =
    let s = c.requires.stands in
    let f = s.1.form.fits in
    let i = value_is c.args.self.digits c.args.self.exponent c.args.shift s.0 (3 * c.args.grade) f c.if-exponent.true s.1 in
    let p = value_there c.args.self.digits c.args.self.exponent c.args.shift s.0 (3 * c.args.grade) f c.if-exponent.true (omega arith) s.1 in
    omega arith

pub returns-then-exponent-clause-encloses : goal.returns-then-exponent-clause-encloses
returns-then-exponent-clause-encloses c = λ v s.
    let f = s.form.fits in
    let i = value_is c.args.self.digits c.args.self.exponent c.args.shift v (3 * c.args.grade) f c.if-exponent.true s in
    let l = c.exact.ensures.lower in
    let u = c.exact.ensures.upper in
    record { lower = omega arith; upper = omega arith }

pub returns-then-exponent-clause-grade : goal.returns-then-exponent-clause-grade
returns-then-exponent-clause-grade c = let g = c.exact.ensures.grade in record { near = near_more _ _ 0 c.args.grade (omega arith) g.near }

pub returns-then-exponent-clause-bounded : goal.returns-then-exponent-clause-bounded
returns-then-exponent-clause-bounded c =
    let s = c.requires.stands in
    let f = s.1.form.fits in
    let i = number_is_below c.args.self.digits (1342177280 - (c.args.self.exponent + c.args.shift)) f in
    let u = c.exact.ensures.upper in
    let b = bounded_whole (c.args.self.digits / 2 ^ (1342177280 - (c.args.self.exponent + c.args.shift))) c.args.grade i in
    omega arith

exponent_is : (e shift : ℕ) → 1342177280 ≤ e + shift → e + shift ≡ (e + shift - 1342177280) + 1342177280
exponent_is e shift h = omega arith

pub returns-clause-encloses : goal.returns-clause-encloses
returns-clause-encloses c = λ v s.
    let m = c.args.self.digits in
    let e = exponent_is c.args.self.exponent c.args.shift c.if-exponent.false in
    let f = s.form.fits in
    let x = not_above c.args.self.digits c.args.self.exponent c.args.shift v (3 * c.args.grade) (c.args.self.exponent + c.args.shift - 1342177280) e s in
    let y = reached c.args.self.digits c.args.self.exponent c.args.shift v c.args.grade (c.args.self.exponent + c.args.shift - 1342177280) f c.requires.grade_at_most e s in
    let l = c.above.ensures.lower in
    let u = c.above.ensures.reaches in
    record { lower = omega arith; upper = omega arith }

pub returns-clause-grade : goal.returns-clause-grade
returns-clause-grade c =
    let s = c.requires.stands in
    let f = s.1.form.full in
    record { near = near_ends c.args.self.digits c.args.grade (c.args.self.exponent + c.args.shift - 1342177280) _ _ (f (omega arith)) c.requires.grade_at_least c.above.ensures.lower c.above.ensures.within }

pub returns-clause-bounded : goal.returns-clause-bounded
returns-clause-bounded c =
    let s = c.requires.stands in
    let f = s.1.form.full in
    let e = exponent_is c.args.self.exponent c.args.shift c.if-exponent.false in
    let x = not_above c.args.self.digits c.args.self.exponent c.args.shift s.0 (3 * c.args.grade) (c.args.self.exponent + c.args.shift - 1342177280) e s.1 in
    bounded_end c.args.self.digits (c.args.self.exponent + c.args.shift - 1342177280) s.0 c.args.grade _ (f (omega arith)) c.requires.grade_at_most x s.1.size c.above.ensures.within

pub returns-clause-exact : goal.returns-clause-exact
returns-clause-exact c = λ v s h.
    let f = s.form.full in
    let e = exponent_is c.args.self.exponent c.args.shift c.if-exponent.false in
    let x = not_above c.args.self.digits c.args.self.exponent c.args.shift v (3 * c.args.grade) (c.args.self.exponent + c.args.shift - 1342177280) e s in
    let y = at_least_half c.args.self.digits (c.args.self.exponent + c.args.shift - 1342177280) (f (omega arith)) in
    absurd (omega arith)
