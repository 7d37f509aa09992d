-- How the calls keep what a held value says.
use Rattle.std.proofs.Common.{◌≡◌, ℕ, suc, ◌+◌, ◌*◌, ◌<◌, ◌≤◌, min, max, arith}
use Rattle.mk_scaled.specs.Range.{two_to, two_to-mono, two_to-suc, mul_at_most, least_at_most}
use Rattle.mk_scaled.specs.Rounding.{IsLeastAbove}
use Rattle.mk_scaled.specs.Near.{near_more}
use Rattle.mk_enclose.specs.Enclosure.{Encloses, HasGrade}
use Rattle.mk_cell.specs.Least.{least, least-zero, least-at_zero}
use Rattle.mk_enclose.specs.declared.enclosure.Enclosure.{Enclosure}
use Rattle.mk_semiring.specs.declared.held.Held.{Held}
use Rattle.mk_semiring.specs.Held.{HeldEncloses, HasHeldGrade, held_grade_more}

pub sum_bound : (r x y g : ℕ) → IsLeastAbove r (x + y) → x ≤ two_to (192 * (g + 1)) → y ≤ two_to (192 * (g + 1)) → r ≤ two_to (192 * (g + 1 + 1))
sum_bound r x y g h k l =
    let s = two_to-suc (192 * (g + 1)) in
    let m = two_to-mono (suc (192 * (g + 1))) (192 * (g + 1 + 1)) (omega arith) in
    least_at_most r (x + y) (192 * (g + 1 + 1)) h (omega arith)

pub product_bound : (r x y g h : ℕ) → IsLeastAbove r (x * y) → x ≤ two_to (192 * (g + 1)) → y ≤ two_to (192 * (h + 1)) → r ≤ two_to (192 * (g + h + 1 + 1))
product_bound r x y g h a k l =
    let p : x * y ≤ two_to (192 * (g + 1) + 192 * (h + 1)) = mul_at_most x y (192 * (g + 1)) (192 * (h + 1)) k l in
    let s : 192 * (g + 1) + 192 * (h + 1) ≡ 192 * (g + h + 1 + 1) = omega arith in
    least_at_most r (x * y) (192 * (g + h + 1 + 1)) a (rw s at p)

pub min_bound : (r x y g : ℕ) → r ≡ min x y → x ≤ two_to (192 * (g + 1)) → r ≤ two_to (192 * (g + 1 + 1))
min_bound r x y g e h =
    let m = two_to-mono (192 * (g + 1)) (192 * (g + 1 + 1)) (omega arith) in omega arith

pub max_bound : (r x y g : ℕ) → r ≡ max x y → x ≤ two_to (192 * (g + 1))
    → y ≤ two_to (192 * (g + 1)) → r ≤ two_to (192 * (g + 1 + 1))
max_bound r x y g e h k =
    let m = two_to-mono (192 * (g + 1)) (192 * (g + 1 + 1)) (omega arith) in omega arith

-- the same grade on both sides, and one more
pub one_more : (e : Enclosure) (g : ℕ) → HasGrade e (max g g) → HasGrade e (g + 1)
one_more e g h = record { near = near_more _ _ (max g g) (g + 1) (omega arith) h.near }

pub sum_grade : (e : Enclosure) (g : ℕ) → HasGrade e (max g g + 1) → HasGrade e (g + 1)
sum_grade e g h = record { near = near_more _ _ (max g g + 1) (g + 1) (omega arith) h.near }

-- a value that is there encloses a number that is there
pub present_number : (e : Enclosure) (v : ℕ) → Encloses e v → 0 < v
present_number e v h = let p = e.positive in let l = h.lower in omega arith

-- the other side of Absent
pub least_of_absent : (x : Held) (v w : ℕ) → v ≡ 0 → HeldEncloses x w → HeldEncloses x (least v w)
least_of_absent x v w z h = rw (z, least-zero w) h

pub least_with_absent : (x : Held) (v w : ℕ) → w ≡ 0 → HeldEncloses x v → HeldEncloses x (least v w)
least_with_absent x v w z h = rw (z, least-at_zero v) h

pub greatest_of_absent : (x : Held) (v w : ℕ) → v ≡ 0 → HeldEncloses x w → HeldEncloses x (max v w)
greatest_of_absent x v w z h = let i : max v w ≡ w = omega arith in rw i h

pub greatest_with_absent : (x : Held) (v w : ℕ) → w ≡ 0 → HeldEncloses x v
    → HeldEncloses x (max v w)
greatest_with_absent x v w z h = let i : max v w ≡ v = omega arith in rw i h

pub one_grade_more : (x : Held) (g : ℕ) → HasHeldGrade x g → HasHeldGrade x (g + 1)
one_grade_more x g h = held_grade_more x g (g + 1) h (omega arith)
