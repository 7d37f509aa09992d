use Rattle.std.proofs.Common.{◌≡◌, ◌+◌, ◌-◌, ◌*◌, ◌^◌, ◌<◌, ◌≤◌, ◌⊎◌, inl, inr, refl, arith, le_trans}
use Rattle.mk_net.specs.Bounds.{number_limit, million}
use Rattle.mk_states.specs.Ratios.{unit}
use Rattle.mk_judge.specs.Compared.{LeavesOpen}
use Rattle.mk_judge.specs.Limits.{CanBeTraded, AreEndsNear}
use Rattle.mk_judge.proofs.Judging.{judges_at_most, judges_above, judges_both, judges_as}
use Rattle.mk_judge.proofs.Nearness.{near_same_as}
use Rattle.mk_judge.proofs.Fairness.{both_times, turned}
use Rattle.mk_judge.proofs.Trading.{shares_traded, low_fair, high_reached}
use Rattle.mk_judge.proofs.limits.compare_shares.Goals as goal

pub returns : goal.returns
returns c = λ side bounds is.
    let n = c.args.units in
    let low = c.args.low in
    let high = c.args.high in
    let part = c.args.bounds.now.part in
    let whole = c.args.bounds.now.whole in
    let num = side.price.num in
    let den = side.price.den in
    let some : 1 ≤ num = le_trans part.positive bounds.part.lower in
    let a = n * (num * 1000000) in
    let b = den * (low * 1099511627776) in
    let d = 9223372036854775808 * (num * 1000000) in
    let e = den * (high * 1073741823 * 1024) in
    let P : Type 0 = a ≤ b in
    let Q : Type 0 = e < d in
    let M : Type 0 = LeavesOpen whole part a b in
    let N : Type 0 = LeavesOpen whole part d e in
    let to : P × Q → CanBeTraded side low high =
    (λ h. let x = h.0 in let y = h.1 in shares_traded side n low high some bounds.least.positive c.requires.fits is (omega (arith, x)) (omega (arith, y))) in
    let from : CanBeTraded side low high → P × Q =
    (λ h.
    let x = low_fair side n low high some bounds.least.positive c.requires.fits is c.requires.in_order h in
    let y = high_reached side n low high some bounds.least.positive c.requires.fits is c.requires.in_order h in
    (omega (arith, x), omega (arith, y))) in
    let first : a ≡ n * million * num = omega arith in
    let second : b ≡ low * unit * den = omega arith in
    let third : d * 2 ^ 30 ≡ number_limit * million * num * 2 ^ 30 = omega arith in
    let fourth : e * 2 ^ 30 ≡ high * unit * den * (2 ^ 30 - 1) = omega arith in
    let known : M ⊎ N → AreEndsNear c.args.bounds.now side n low high =
    (λ either g h graded graded'. elim either [
      | inl m ↦ inl (near_same_as a b (g + h) _ _ (g + h) first second refl (turned a b g h (m.near h g graded' graded)))
      | inr k ↦ inr (near_same_as (d * 2 ^ 30) (e * 2 ^ 30) (g + h) _ _ (g + h) third fourth refl (both_times (2 ^ 30) d e (g + h) (turned d e g h (k.near h g graded' graded))))
    ]) in
    rw (c.and.ensures, c.at_most-fair.ensures, c.above-reached.ensures)
    (judges_as _ (P × Q) (CanBeTraded side low high) (M ⊎ N) _ to from known
    (judges_both _ _ P Q M N
    (judges_at_most c.compare_below.result a b M (c.compare_below.ensures den num bounds.whole bounds.part))
    (judges_above c.compare_below-2.result d e N (c.compare_below-2.ensures den num bounds.whole bounds.part))))
