use Rattle.std.proofs.Common.{◌+◌, ◌*◌, ◌^◌, ◌<◌, ◌≤◌, ◌⊎◌, inl, inr, refl, le_trans}
use Rattle.std.specs.Bool.{⊤}
use Rattle.mk_net.specs.Bounds.{sharpness}
use Rattle.mk_exact.specs.Prices.{CoversPrice}
use Rattle.mk_exact.proofs.Sharp.{sharp_enough}
use Rattle.mk_judge.specs.Compared.{LeavesOpen}
use Rattle.mk_judge.specs.Judged.{Judges, both}
use Rattle.mk_judge.proofs.Judging.{judges_at_most, judges_above, judges_four, judges_as}
use Rattle.mk_judge.proofs.Pricing.{rounded_covers, covers_rounded}
use Rattle.mk_judge.proofs.price.rounded.Goals as goal

pub returns : goal.returns
returns c = λ price most_trades is.
    let part = c.args.part.now in
    let whole = c.args.whole.now in
    let low = c.args.low in
    let before = c.saturating_sub.result in
    let same = c.saturating_sub.ensures in
    let high = c.args.high in
    let some : 1 ≤ price.num = le_trans part.positive is.part_holds.lower in
    let n = price.num * 10 ^ 10 in
    let P : Type 0 = low * (price.den * 1) ≤ n in
    let Q : Type 0 = n ≤ high * (price.den * 1) in
    let R : Type 0 = n < (low + 1) * (price.den * 1) in
    let S : Type 0 = before * (price.den * 1) < n in
    let M : Type 0 = LeavesOpen part whole (low * (price.den * 1)) n in
    let N : Type 0 = LeavesOpen part whole n (high * (price.den * 1)) in
    let O : Type 0 = LeavesOpen part whole ((low + 1) * (price.den * 1)) n in
    let T : Type 0 = LeavesOpen part whole n (before * (price.den * 1)) in
    let covers : P × Q × R × S → CoversPrice ⊤ (sharpness most_trades) price low high =
    (λ all. rounded_covers price low high some is.less (sharpness most_trades)
    (sharp_enough most_trades) c.requires.at_most
    (record {
      below = all.0;
      above = all.1;
      floor = all.2;
      ceiling = rw (← same) (all.3);
    })) in
    let close : CoversPrice ⊤ (sharpness most_trades) price low high → P × Q × R × S =
    (λ h. let k = covers_rounded price low high some is.less (sharpness most_trades) h in
    (k.below, k.above, k.floor, rw same k.ceiling)) in
    let never : M ⊎ (N ⊎ (O ⊎ T)) → ⊥ =
    (λ known. elim known [
      | inl m ↦ m.rounded (is.part_exact refl) (is.whole_exact refl)
      | inr more ↦ elim more [
        | inl n ↦ n.rounded (is.part_exact refl) (is.whole_exact refl)
        | inr rest ↦ elim rest [ inl o ↦ o.rounded (is.part_exact refl) (is.whole_exact refl) | inr t ↦ t.rounded (is.part_exact refl) (is.whole_exact refl) ]
      ]
    ]) in
    let four : Judges (both (both (both c.at_most-below.result c.at_most-above.result) c.above-floor.result) c.above-ceiling.result) (P × Q × R × S) (M ⊎ (N ⊎ (O ⊎ T))) =
    judges_four c.at_most-below.result c.at_most-above.result c.above-floor.result c.above-ceiling.result P Q R S M N O T
    (rw c.at_most-below.ensures (judges_at_most c.compare_below.result _ _ M (c.compare_below.ensures price.num price.den is.part_holds is.whole_holds)))
    (rw c.at_most-above.ensures (judges_at_most c.compare_above.result _ _ N (c.compare_above.ensures price.num price.den is.part_holds is.whole_holds)))
    (rw c.above-floor.ensures (judges_above c.compare_below-2.result _ _ O (c.compare_below-2.ensures price.num price.den is.part_holds is.whole_holds)))
    (rw c.above-ceiling.ensures (judges_above c.compare_above-2.result _ _ T (c.compare_above-2.ensures price.num price.den is.part_holds is.whole_holds))) in
    rw (c.and-3.ensures, c.and-2.ensures, c.and.ensures)
    (judges_as (both (both (both c.at_most-below.result c.at_most-above.result) c.above-floor.result) c.above-ceiling.result)
    (P × Q × R × S) (CoversPrice ⊤ (sharpness most_trades) price low high) (M ⊎ (N ⊎ (O ⊎ T))) ⊥
    covers close never four)
