use Rattle.std.proofs.Common.{◌≡◌, ℕ, ◌+◌, ◌-◌, ◌*◌, ◌^◌, ◌<◌, ◌≤◌, ◌⊎◌, inl, inr, arith}
use Rattle.std.proofs.lemmas.Nat.{pow-add}
use Rattle.std.proofs.Math.Nat.{pow-zero}
use Rattle.mk_enclose.specs.Enclosure.{HasGrade}
use Rattle.mk_judge.specs.Compared.{AreNear, LeavesOpen}
use Rattle.mk_judge_points.proofs.Covered.{covered_says, judges_pair}
use Rattle.mk_judge.proofs.Judging.{judges_above, says_as}
use Rattle.mk_judge_points.proofs.Cashing.{opened, times_beside}
use Rattle.mk_judge_points.proofs.bits.nearly.Goals as goal

pub returns : goal.returns
returns c = λ g z w holds beside.
    let most = c.args.most in
    let gain = c.args.gain.now in
    let one = c.exact-one in
    let less = c.mul-less in
    let part = c.almost in
    let parts = c.args.parts in
    let m = 2 ^ parts - 1 in
    let Near : Type 0 = (h : ℕ) → HasGrade gain h
    → AreNear (2 ^ most * w) z (h + 1) ⊎ AreNear (2 ^ (most + 1) * 2 ^ parts * w) (z * m) (h + 1) in
    let nothing : 2 ^ 0 ≡ 1 = pow-zero 2 in
    let same : 1 * 2 ^ most * w ≡ 2 ^ most * w = omega arith in
    let same_z : z * 2 ^ 0 ≡ z = rw nothing (omega arith) in
    let split : 2 ^ (most + 1 + parts) ≡ 2 ^ (most + 1) * 2 ^ parts =
    pow-add 2 (most + 1) parts in
    let after : 1 * 2 ^ (most + 1 + parts) * w ≡ 2 ^ (most + 1) * 2 ^ parts * w =
    rw split (omega arith) in
    let less_z : z * m * 2 ^ 0 ≡ z * m = rw nothing (omega arith) in
    rw (c.and.ensures, c.at_most-within.ensures, c.above-greatest.ensures)
    (judges_pair _ _ (2 ^ most * w ≤ z) (z * m < 2 ^ (most + 1) * 2 ^ parts * w) Near
    (covered_says c.compare_worth.result most w z _ Near
    (λ (left : LeavesOpen one.result gain (1 * 2 ^ most * w) (z * 2 ^ 0)). λ h graded.
    inl (opened _ _ _ _ _ _ 0 h (h + 1) same same_z one.ensures.grade graded (omega arith) left))
    (c.compare_worth.ensures 1 g z w one.ensures.encloses holds beside))
    (judges_above c.compare_worth-2.result _ _ Near (says_as c.compare_worth-2.result _ _ _ _ _ Near after less_z
    (λ (left : LeavesOpen one.result less.result (1 * 2 ^ (most + 1 + parts) * w) (z * m * 2 ^ 0)).
    λ h graded.
    inr (opened _ _ _ _ _ _ 0 (h + 0 + 1) (h + 1) after less_z one.ensures.grade (less.ensures.grade h 0 graded part.ensures.grade) (omega arith) left))
    (c.compare_worth-2.ensures 1 (g * m) (z * m) w one.ensures.encloses (less.ensures.encloses g m holds part.ensures.encloses) (times_beside c.args.scale.now g m z w beside)))))
