use Rattle.std.proofs.Common.{◌≡◌, ◌+◌, ◌-◌, ◌*◌, ◌^◌, ◌<◌, ◌≤◌, ◌⊎◌, inl, inr, refl, arith}
use Rattle.mk_net.specs.Bounds.{million}
use Rattle.mk_states.specs.Ratios.{unit}
use Rattle.mk_exact.specs.Prices.{IsFair}
use Rattle.mk_judge.specs.Compared.{LeavesOpen}
use Rattle.mk_judge.specs.Units.{IsFairNear}
use Rattle.mk_judge.proofs.Judging.{judges_at_most, judges_above, judges_both, judges_as}
use Rattle.mk_judge.proofs.Nearness.{near_same_as}
use Rattle.mk_judge.proofs.Fairness.{both_times, turned}
use Rattle.mk_judge.proofs.units.nearly_fair.Goals as goal

pub returns : goal.returns
returns c = λ price part_holds whole_holds.
    let F = c.args.units in
    let X = c.args.share in
    let part = c.args.part.now in
    let whole = c.args.whole.now in
    let a = F * (price.num * 1000000) in
    let b = price.den * (X * 1099511627776) in
    let d = (F + 1) * (price.num * 1000000) in
    let e = price.den * (X * 1073741823 * 1024) in
    let P : Type 0 = a ≤ b in
    let Q : Type 0 = e < d in
    let M : Type 0 = LeavesOpen whole part a b in
    let N : Type 0 = LeavesOpen whole part d e in
    let to : P × Q → IsFair ⊥ F X price =
    (λ h. let x = h.0 in let y = h.1 in record {
      positive = c.requires.some;
      fits = c.requires.fits;
      not_above = omega (arith, x);
      close = omega (arith, y);
      floor = λ no. absurd no;
    }) in
    let from : IsFair ⊥ F X price → P × Q = (λ h. let x = h.not_above in let y = h.close in (omega (arith, x), omega (arith, y))) in
    let first : a ≡ F * million * price.num = omega arith in
    let second : b ≡ X * unit * price.den = omega arith in
    let third : d * 2 ^ 30 ≡ (F + 1) * million * price.num * 2 ^ 30 = omega arith in
    let fourth : e * 2 ^ 30 ≡ X * unit * price.den * (2 ^ 30 - 1) = omega arith in
    let known : M ⊎ N → IsFairNear part whole price F X =
    (λ either g h graded graded'. elim either [
      | inl m ↦ inl (near_same_as a b (g + h) _ _ (g + h) first second refl (turned a b g h (m.near h g graded' graded)))
      | inr n ↦ inr (near_same_as (d * 2 ^ 30) (e * 2 ^ 30) (g + h) _ _ (g + h) third fourth refl (both_times (2 ^ 30) d e (g + h) (turned d e g h (n.near h g graded' graded))))
    ]) in
    rw (c.and.ensures, c.at_most-not_above.ensures, c.above-close.ensures)
    (judges_as _ (P × Q) (IsFair ⊥ F X price) (M ⊎ N) _ to from known
    (judges_both _ _ P Q M N
    (judges_at_most c.compare_below.result a b M (c.compare_below.ensures price.den price.num whole_holds part_holds))
    (judges_above c.compare_below-2.result d e N (c.compare_below-2.ensures price.den price.num whole_holds part_holds))))
