use Rattle.std.proofs.Common.{◌≡◌, ℕ, ◌+◌, ◌-◌, ◌*◌, ◌^◌, ◌⊎◌, inl, inr, sym, ap, ◌∙◌, arith}
use Rattle.std.proofs.lemmas.Nat.{pow-add}
use Rattle.std.proofs.Math.Nat.{pow-zero}
use Rattle.mk_exact.proofs.ExistNumbers.{power_of_power}
use Rattle.mk_enclose.specs.Enclosure.{HasGrade}
use Rattle.mk_judge.specs.Compared.{AreNear, LeavesOpen}
use Rattle.mk_judge.specs.Powers.{StandsBeside}
use Rattle.mk_judge_points.specs.Cash.{ArePowersNear}
use Rattle.mk_judge.proofs.Judging.{says_as}
use Rattle.mk_judge.proofs.Beside.{power_beside}
use Rattle.mk_judge_points.proofs.Cashing.{less_beside, opened, judges_ends, gain_power_in_range, gain_less_in_range, less_power_in_range, part_power_in_range, part_below}
use Rattle.mk_judge_points.proofs.cash.traded.Goals as goal

pub raised-worth-requires-clause-range : goal.raised-worth-requires-clause-range
raised-worth-requires-clause-range c =
    let r = c.requires.range in
    gain_power_in_range _ r.bits c.args.power _ r.gain c.requires.some_points r.above

pub mul-requires : goal.mul-requires
mul-requires c =
    let r = c.requires.range in
    rw c.almost-less.ensures.upper (gain_less_in_range _ r.bits c.args.power _ r.gain c.requires.some_points r.above _ (part_below c.args.parts c.requires.few_parts))

pub raised-worth_less-requires-clause-range : goal.raised-worth_less-requires-clause-range
raised-worth_less-requires-clause-range c =
    let r = c.requires.range in
    less_power_in_range _ r.bits c.args.power _ r.gain c.requires.some_points r.above _ _ (part_below c.args.parts c.requires.few_parts) (rw c.almost-less.ensures.upper at c.mul.ensures.upper)

pub raised-all_less-requires-clause-range : goal.raised-all_less-requires-clause-range
raised-all_less-requires-clause-range c =
    let r = c.requires.range in
    rw c.almost-less.ensures.upper (part_power_in_range _ r.bits c.args.power _ r.gain c.requires.some_points r.above _ (part_below c.args.parts c.requires.few_parts))

pub returns : goal.returns
returns c = λ q owned.
    let b = c.args.power in
    let low = c.args.low in
    let high = c.args.high in
    let parts = c.args.parts in
    let z = q.num ^ b in
    let w = q.den ^ b in
    let g = owned.held.stands.gain in
    let m = 2 ^ parts - 1 in
    let gain = c.args.factor.now.gain in
    let one = c.exact-one in
    let less = c.almost-less in
    let worth = c.raised-worth in
    let worth_less = c.raised-worth_less in
    let all_less = c.raised-all_less in
    let beside : StandsBeside c.of-scale.result (g ^ b) z w = power_beside c.args.factor.now q b c.of-scale.result owned.held.stands c.of-scale.ensures.gained c.of-scale.ensures.owed in
    let beside_less : StandsBeside c.of-scale.result ((g * m) ^ b) (z * m ^ b) w = less_beside c.of-scale.result g m b z w beside in
    let holds = worth.ensures.encloses g owned.held.stands.encloses in
    let holds_less = worth_less.ensures.encloses (g * m) (c.mul.ensures.encloses g m owned.held.stands.encloses less.ensures.encloses) in
    let holds_all = all_less.ensures.encloses m less.ensures.encloses in
    let nothing : 2 ^ 0 ≡ 1 = pow-zero 2 in
    let parted : 2 ^ (parts * b) ≡ (2 ^ parts) ^ b = sym (power_of_power parts b) in
    let after : 2 ^ (low + 1 + parts * b) ≡ 2 ^ (low + 1) * (2 ^ parts) ^ b = pow-add 2 (low + 1) (parts * b) ∙ ap (λ k. 2 ^ (low + 1) * k) parted in
    let same : (n : ℕ) → n * 2 ^ 0 ≡ n = (λ n. rw nothing (omega arith)) in
    let low_same : 1 * 2 ^ low * w ≡ 2 ^ low * w = omega arith in
    let high_same : 1 * 2 ^ (high + 1) * w ≡ 2 ^ (high + 1) * w = omega arith in
    let low_near_same : 1 * 2 ^ (low + 1 + parts * b) * w ≡ 2 ^ (low + 1) * (2 ^ parts) ^ b * w = rw after (omega arith) in
    let high_near_same : m ^ b * 2 ^ high * w ≡ 2 ^ high * m ^ b * w = omega arith in
    let all_same : z * 2 ^ (parts * b) ≡ z * (2 ^ parts) ^ b = ap (λ k. z * k) parted in
    let M : Type 0 = (g : ℕ) → HasGrade gain g → AreNear (2 ^ low * w) z (b * (g + 8)) in
    let N : Type 0 = (g : ℕ) → HasGrade gain g → AreNear (2 ^ (high + 1) * w) z (b * (g + 8)) in
    let O : Type 0 = (g : ℕ) → HasGrade gain g → AreNear (2 ^ (low + 1) * (2 ^ parts) ^ b * w) (z * m ^ b) (b * (g + 8)) in
    let T : Type 0 = (g : ℕ) → HasGrade gain g → AreNear (2 ^ high * m ^ b * w) (z * (2 ^ parts) ^ b) (b * (g + 8)) in
    let near : M ⊎ (N ⊎ (O ⊎ T)) → (g : ℕ) → HasGrade gain g → ArePowersNear (2 ^ parts) q b low high (b * (g + 8)) =
    (λ known g graded. elim known [
      | inl x ↦ inl (x g graded)
      | inr more ↦ inr (elim more [ inl x ↦ inl (x g graded) | inr rest ↦ inr (elim rest [ inl x ↦ inl (x g graded) | inr x ↦ inr (x g graded) ]) ])
    ]) in
    rw (c.and-3.ensures, c.and-2.ensures, c.and.ensures, c.at_most-low_is.ensures, c.above-high_is.ensures, c.above-low_near.ensures, c.at_most-high_near.ensures)
    (judges_ends c.compare_worth.result c.compare_worth-2.result c.compare_worth-3.result c.compare_worth-4.result (2 ^ parts) q b low high M N O T _
    (says_as c.compare_worth.result _ _ _ _ _ M low_same (same z)
    (λ (left : LeavesOpen one.result worth.result (1 * 2 ^ low * w) (z * 2 ^ 0)). λ g graded.
    opened _ _ _ _ _ _ 0 (b * (g + 4)) (b * (g + 8)) low_same (same z) one.ensures.grade (worth.ensures.grade g graded) (omega arith) left)
    (c.compare_worth.ensures 1 (g ^ b) z w one.ensures.encloses holds beside))
    (says_as c.compare_worth-2.result _ _ _ _ _ N high_same (same z)
    (λ (left : LeavesOpen one.result worth.result (1 * 2 ^ (high + 1) * w) (z * 2 ^ 0)). λ g graded.
    opened _ _ _ _ _ _ 0 (b * (g + 4)) (b * (g + 8)) high_same (same z) one.ensures.grade (worth.ensures.grade g graded) (omega arith) left)
    (c.compare_worth-2.ensures 1 (g ^ b) z w one.ensures.encloses holds beside))
    (says_as c.compare_worth-3.result _ _ _ _ _ O low_near_same (same (z * m ^ b))
    (λ (left : LeavesOpen one.result worth_less.result (1 * 2 ^ (low + 1 + parts * b) * w) (z * m ^ b * 2 ^ 0)). λ g graded.
    opened _ _ _ _ _ _ 0 (b * (g + 0 + 1 + 4)) (b * (g + 8)) low_near_same (same (z * m ^ b)) one.ensures.grade
    (worth_less.ensures.grade (g + 0 + 1) (c.mul.ensures.grade g 0 graded less.ensures.grade)) (omega arith) left)
    (c.compare_worth-3.ensures 1 ((g * m) ^ b) (z * m ^ b) w one.ensures.encloses holds_less beside_less))
    (says_as c.compare_worth-4.result _ _ _ _ _ T high_near_same all_same
    (λ (left : LeavesOpen all_less.result worth.result (m ^ b * 2 ^ high * w) (z * 2 ^ (parts * b))). λ g graded.
    opened _ _ _ _ _ _ (b * (0 + 4)) (b * (g + 4)) (b * (g + 8)) high_near_same all_same (all_less.ensures.grade 0 less.ensures.grade) (worth.ensures.grade g graded) (omega arith) left)
    (c.compare_worth-4.ensures (m ^ b) (g ^ b) z w holds_all holds beside))
    near)
