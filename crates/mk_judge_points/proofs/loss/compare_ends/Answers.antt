use Rattle.std.proofs.Common.{◌≡◌, ℕ, ◌+◌, ◌-◌, ◌*◌, ◌^◌, ◌<◌, ◌≤◌, ◌⊎◌, inl, inr, sym, ap, ◌∙◌, arith}
use Rattle.std.proofs.lemmas.Nat.{pow-add, mul-pow}
use Rattle.std.proofs.Math.Nat.{pow-zero}
use Rattle.mk_exact.proofs.ExistNumbers.{power_of_power}
use Rattle.mk_enclose.specs.Enclosure.{HasGrade}
use Rattle.mk_judge.specs.Compared.{AreNear, LeavesOpen}
use Rattle.mk_judge_points.specs.Cash.{ArePowersNear}
use Rattle.mk_judge_points.specs.Losses.{quotient}
use Rattle.mk_judge.proofs.Judging.{says_as}
use Rattle.mk_judge_points.proofs.Cashing.{opened, judges_ends, gain_power_in_range, gain_less_in_range, less_power_in_range, part_below}
use Rattle.mk_judge_points.proofs.loss.compare_ends.Goals as goal

few_bits : (b : ℕ) → b ≤ 1000000 → b * (0 + (6000 + 59)) < 2 ^ 50
few_bits b h = omega (arith, h)

pub raised-left-requires-clause-range : goal.raised-left-requires-clause-range
raised-left-requires-clause-range c = gain_power_in_range _ 6000 c.args.power 0 c.requires.least_range c.requires.some_points (few_bits c.args.power c.requires.few_points)

pub raised-right-requires-clause-range : goal.raised-right-requires-clause-range
raised-right-requires-clause-range c = gain_power_in_range _ 6000 c.args.power 0 c.requires.total_range c.requires.some_points (few_bits c.args.power c.requires.few_points)

pub mul-requires : goal.mul-requires
mul-requires c =
    rw c.almost-less.ensures.upper (gain_less_in_range _ 6000 c.args.power 0 c.requires.total_range c.requires.some_points (few_bits c.args.power c.requires.few_points) _ (part_below c.args.parts c.requires.few_parts))

pub raised-right_less-requires-clause-range : goal.raised-right_less-requires-clause-range
raised-right_less-requires-clause-range c =
    less_power_in_range _ 6000 c.args.power 0 c.requires.total_range c.requires.some_points (few_bits c.args.power c.requires.few_points) _ _ (part_below c.args.parts c.requires.few_parts)
    (rw c.almost-less.ensures.upper at c.mul.ensures.upper)

pub mul-requires-2 : goal.mul-requires-2
mul-requires-2 c =
    rw c.almost-less.ensures.upper (gain_less_in_range _ 6000 c.args.power 0 c.requires.least_range c.requires.some_points (few_bits c.args.power c.requires.few_points) _ (part_below c.args.parts c.requires.few_parts))

pub raised-left_less-requires-clause-range : goal.raised-left_less-requires-clause-range
raised-left_less-requires-clause-range c =
    less_power_in_range _ 6000 c.args.power 0 c.requires.least_range c.requires.some_points (few_bits c.args.power c.requires.few_points) _ _ (part_below c.args.parts c.requires.few_parts)
    (rw c.almost-less.ensures.upper at c.mul-2.ensures.upper)

pub returns : goal.returns
returns c = λ m z holds_least holds_total.
    let b = c.args.power in
    let low = c.args.low in
    let high = c.args.high in
    let parts = c.args.parts in
    let p = 2 ^ parts - 1 in
    let least = c.args.least.now in
    let total = c.args.total.now in
    let less = c.almost-less in
    let left = c.raised-left in
    let right = c.raised-right in
    let left_less = c.raised-left_less in
    let right_less = c.raised-right_less in
    let w = m ^ b in
    let y = z ^ b in
    let holds_left = left.ensures.encloses m holds_least in
    let holds_right = right.ensures.encloses z holds_total in
    let holds_right_less = right_less.ensures.encloses (z * p) (c.mul.ensures.encloses z p holds_total less.ensures.encloses) in
    let holds_left_less = left_less.ensures.encloses (m * p) (c.mul-2.ensures.encloses m p holds_least less.ensures.encloses) in
    let nothing : 2 ^ 0 ≡ 1 = pow-zero 2 in
    let parted : 2 ^ (parts * b) ≡ (2 ^ parts) ^ b = sym (power_of_power parts b) in
    let after : 2 ^ (low + 1 + parts * b) ≡ 2 ^ (low + 1) * (2 ^ parts) ^ b = pow-add 2 (low + 1) (parts * b) ∙ ap (λ k. 2 ^ (low + 1) * k) parted in
    let same : y * 2 ^ 0 ≡ y = rw nothing (omega arith) in
    let low_same : w * 2 ^ low ≡ 2 ^ low * w = omega arith in
    let high_same : w * 2 ^ (high + 1) ≡ 2 ^ (high + 1) * w = omega arith in
    let low_near_same : w * 2 ^ (low + 1 + parts * b) ≡ 2 ^ (low + 1) * (2 ^ parts) ^ b * w = rw after (omega arith) in
    let total_same : (z * p) ^ b * 2 ^ 0 ≡ y * p ^ b = rw (nothing, mul-pow z p b) (omega arith) in
    let high_near_same : (m * p) ^ b * 2 ^ high ≡ 2 ^ high * p ^ b * w = rw (mul-pow m p b) (omega arith) in
    let all_same : y * 2 ^ (parts * b) ≡ y * (2 ^ parts) ^ b = ap (λ k. y * k) parted in
    let M : Type 0 = (g h : ℕ) → HasGrade least g → HasGrade total h → AreNear (2 ^ low * w) y (b * (g + h + 9)) in
    let N : Type 0 = (g h : ℕ) → HasGrade least g → HasGrade total h → AreNear (2 ^ (high + 1) * w) y (b * (g + h + 9)) in
    let O : Type 0 = (g h : ℕ) → HasGrade least g → HasGrade total h → AreNear (2 ^ (low + 1) * (2 ^ parts) ^ b * w) (y * p ^ b) (b * (g + h + 9)) in
    let T : Type 0 = (g h : ℕ) → HasGrade least g → HasGrade total h → AreNear (2 ^ high * p ^ b * w) (y * (2 ^ parts) ^ b) (b * (g + h + 9)) in
    let near : M ⊎ (N ⊎ (O ⊎ T)) → (g h : ℕ) → HasGrade least g → HasGrade total h → ArePowersNear (2 ^ parts) (quotient z m) b low high (b * (g + h + 9)) =
    (λ known g h graded graded'. elim known [
      | inl x ↦ inl (x g h graded graded')
      | inr more ↦ inr (elim more [ inl x ↦ inl (x g h graded graded') | inr rest ↦ inr (elim rest [ inl x ↦ inl (x g h graded graded') | inr x ↦ inr (x g h graded graded') ]) ])
    ]) in
    rw (c.and-3.ensures, c.and-2.ensures, c.and.ensures, c.at_most-low_is.ensures, c.above-high_is.ensures, c.above-low_near.ensures, c.at_most-high_near.ensures)
    (judges_ends c.compare_lifted.result c.compare_lifted-2.result c.compare_lifted-3.result c.compare_lifted-4.result (2 ^ parts) (quotient z m) b low high M N O T _
    (says_as c.compare_lifted.result _ _ _ _ _ M low_same same
    (λ (known : LeavesOpen left.result right.result (w * 2 ^ low) (y * 2 ^ 0)). λ g h graded graded'.
    opened _ _ _ _ _ _ (b * (g + 4)) (b * (h + 4)) (b * (g + h + 9)) low_same same (left.ensures.grade g graded) (right.ensures.grade h graded') (omega arith) known)
    (c.compare_lifted.ensures w y holds_left holds_right))
    (says_as c.compare_lifted-2.result _ _ _ _ _ N high_same same
    (λ (known : LeavesOpen left.result right.result (w * 2 ^ (high + 1)) (y * 2 ^ 0)). λ g h graded graded'.
    opened _ _ _ _ _ _ (b * (g + 4)) (b * (h + 4)) (b * (g + h + 9)) high_same same (left.ensures.grade g graded) (right.ensures.grade h graded') (omega arith) known)
    (c.compare_lifted-2.ensures w y holds_left holds_right))
    (says_as c.compare_lifted-3.result _ _ _ _ _ O low_near_same total_same
    (λ (known : LeavesOpen left.result right_less.result (w * 2 ^ (low + 1 + parts * b)) ((z * p) ^ b * 2 ^ 0)). λ g h graded graded'.
    opened _ _ _ _ _ _ (b * (g + 4)) (b * (h + 0 + 1 + 4)) (b * (g + h + 9)) low_near_same total_same (left.ensures.grade g graded)
    (right_less.ensures.grade (h + 0 + 1) (c.mul.ensures.grade h 0 graded' less.ensures.grade)) (omega arith) known)
    (c.compare_lifted-3.ensures w ((z * p) ^ b) holds_left holds_right_less))
    (says_as c.compare_lifted-4.result _ _ _ _ _ T high_near_same all_same
    (λ (known : LeavesOpen left_less.result right.result ((m * p) ^ b * 2 ^ high) (y * 2 ^ (parts * b))). λ g h graded graded'.
    opened _ _ _ _ _ _ (b * (g + 0 + 1 + 4)) (b * (h + 4)) (b * (g + h + 9)) high_near_same all_same
    (left_less.ensures.grade (g + 0 + 1) (c.mul-2.ensures.grade g 0 graded less.ensures.grade)) (right.ensures.grade h graded') (omega arith) known)
    (c.compare_lifted-4.ensures ((m * p) ^ b) y holds_left_less holds_right))
    near)
