-- What a held value says of an exact one: a whole number, where 0 stands for Absent.
use Rattle.std.specs.Prelude.{◌≡◌, ℕ, ◌+◌, ◌*◌, ◌^◌, ◌<◌, ◌≤◌}
use Rattle.std.proofs.Common.{arith, le_trans, add-one}
use Rattle.mk_scaled.specs.Range.{two_to, two_to-mono, two_to-suc, two_to-lt, mul_at_most, IsInRange}
use Rattle.mk_scaled.specs.Near.{near_more}
use Rattle.mk_enclose.specs.Enclosure.{lower_of, upper_of, Encloses, HasGrade, IsExact}
use Rattle.mk_semiring.specs.declared.held.Held.{Held}
use Rattle.mk_semiring.specs.declared.held.Held.TheVariants.{Absent, Present}

-- it encloses the exact value
abbrev pub HeldEncloses : Held → ℕ → Type 0
HeldEncloses Absent v = v ≡ 0
HeldEncloses (Present e) v = Encloses e v

-- The grade of the enclosure. It also bounds the number, so that a grade alone shows what is in range.
abbrev pub HasHeldGrade : Held → ℕ → Type 0
HasHeldGrade Absent g = Unit {0}
HasHeldGrade (Present e) g = HasGrade e g × (upper_of e ≤ two_to (192 * (g + 1)))

-- nothing was rounded
abbrev pub IsHeldExact : Held → Type 0
IsHeldExact Absent = Unit {0}
IsHeldExact (Present e) = IsExact e

-- the sum and the product of the upper ends are in range
abbrev pub CanPlus : Held → Held → Type 0
CanPlus Absent b = Unit {0}
CanPlus (Present x) Absent = Unit {0}
CanPlus (Present x) (Present y) = IsInRange (upper_of x + upper_of y)

abbrev pub CanTimes : Held → Held → Type 0
CanTimes Absent b = Unit {0}
CanTimes (Present x) Absent = Unit {0}
CanTimes (Present x) (Present y) = IsInRange (upper_of x * upper_of y)

-- what every semiring over held values needs of its grades
bound_more : (x g h : ℕ) → g ≤ h → x ≤ two_to (192 * (g + 1)) → x ≤ two_to (192 * (h + 1))
bound_more x g h l k = le_trans k (two_to-mono (192 * (g + 1)) (192 * (h + 1)) (omega arith))

pub held_grade_more : (x : Held) (g h : ℕ) → HasHeldGrade x g → g ≤ h → HasHeldGrade x h
held_grade_more Absent g h k l = tt
held_grade_more (Present e) g h k l =
    (record { near = near_more (lower_of e) (upper_of e) g h l k.0.near }, bound_more (upper_of e) g h l k.1)

sum_fits : (x y g : ℕ) → g < 2 ^ 40 → x ≤ two_to (192 * (g + 1)) → y ≤ two_to (192 * (g + 1)) → IsInRange (x + y)
sum_fits x y g l h k =
    let s = two_to-suc (192 * (g + 1)) in
    let m = two_to-lt (192 * (g + 1) + 1) (2 ^ 50) (omega arith) in
    let i : two_to (192 * (g + 1) + 1) ≡ two_to (192 * (g + 1)) + two_to (192 * (g + 1)) = rw (add-one) s in
    omega arith

product_fits : (x y g h : ℕ) → g + h < 2 ^ 40 → x ≤ two_to (192 * (g + 1)) → y ≤ two_to (192 * (h + 1)) → IsInRange (x * y)
product_fits x y g h l k m =
    let p = mul_at_most x y (192 * (g + 1)) (192 * (h + 1)) k m in
    let q = two_to-lt (192 * (g + 1) + 192 * (h + 1)) (2 ^ 50) (omega arith) in
    omega arith

pub held_plus_fits : (a b : Held) (g : ℕ) → HasHeldGrade a g → HasHeldGrade b g → g < 2 ^ 40 → CanPlus a b
held_plus_fits Absent b g h k l = tt
held_plus_fits (Present x) Absent g h k l = tt
held_plus_fits (Present x) (Present y) g h k l = sum_fits (upper_of x) (upper_of y) g l h.1 k.1

pub held_times_fits : (a b : Held) (g h : ℕ) → HasHeldGrade a g → HasHeldGrade b h → g + h < 2 ^ 40 → CanTimes a b
held_times_fits Absent b g h k m l = tt
held_times_fits (Present x) Absent g h k m l = tt
held_times_fits (Present x) (Present y) g h k m l = product_fits (upper_of x) (upper_of y) g h l k.1 m.1
