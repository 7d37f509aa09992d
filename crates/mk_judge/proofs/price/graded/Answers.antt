use Rattle.std.proofs.Common.{ℕ, ◌+◌, ◌-◌, ◌*◌, ◌^◌, ◌<◌, ◌≤◌, ◌⊎◌, inl, inr, le_trans, subst}
use Rattle.std.proofs.Common.{arith}
use Rattle.mk_enclose.specs.Enclosure.{HasGrade}
use Rattle.mk_exact.specs.Prices.{CoversPrice}
use Rattle.mk_judge.specs.Compared.{AreNear, LeavesOpen}
use Rattle.mk_judge.specs.Judged.{Judges, both}
use Rattle.mk_judge.specs.declared.price.PriceBounds.TheVariants.{Between}
use Rattle.mk_judge.specs.Prices.{AreNearUnits, IsPriceNear}
use Rattle.mk_judge.proofs.Judging.{judges_at_most, judges_above, judges_four, judges_as}
use Rattle.mk_judge.proofs.Nearness.{near_same_as, more_steps}
use Rattle.mk_judge.proofs.Pricing.{close_covers, covers_close, less_in_range}
use Rattle.mk_judge.proofs.price.graded.Goals as goal

pub near_below-requires-clause-part_range : goal.near_below-requires-clause-part_range
near_below-requires-clause-part_range c =
    less_in_range _ (2 ^ 42) c.near_part-near.result c.near_part-near.ensures.few
    c.requires.part_range

pub near_below-requires-clause-whole_range : goal.near_below-requires-clause-whole_range
near_below-requires-clause-whole_range c =
    less_in_range _ (2 ^ 42) c.near_part-near.result c.near_part-near.ensures.few
    c.requires.whole_range

pub near_above-requires-clause-part_range : goal.near_above-requires-clause-part_range
near_above-requires-clause-part_range c =
    less_in_range _ (2 ^ 42) c.near_part-near.result c.near_part-near.ensures.few
    c.requires.part_range

pub near_above-requires-clause-whole_range : goal.near_above-requires-clause-whole_range
near_above-requires-clause-whole_range c =
    less_in_range _ (2 ^ 42) c.near_part-near.result c.near_part-near.ensures.few
    c.requires.whole_range

pub returns : goal.returns
returns c = λ price is.
    let near = c.near_part-near.result in
    let part = c.args.part.now in
    let whole = c.args.whole.now in
    let low = c.args.low in
    let high = c.args.high in
    let some : 1 ≤ price.num = le_trans part.positive is.part_holds.lower in
    let P : Type 0 = low * (price.den * 1) ≤ price.num * 10 ^ 10 in
    let Q : Type 0 = price.num * 10 ^ 10 ≤ high * (price.den * 1) in
    let R : Type 0 = 10 ^ 10 * price.num * (near - 1) < (low + 1) * price.den * near in
    let S : Type 0 = (high - 1) * price.den * (near - 1) < 10 ^ 10 * price.num * near in
    let M : Type 0 = LeavesOpen part whole (low * (price.den * 1)) (price.num * 10 ^ 10) in
    let N : Type 0 = LeavesOpen part whole (price.num * 10 ^ 10) (high * (price.den * 1)) in
    let O : Type 0 = (g h : ℕ) → HasGrade part g → HasGrade whole h
    → AreNear ((low + 1) * price.den * near) (10 ^ 10 * price.num * (near - 1)) (g + h + 2) in
    let T : Type 0 = (g h : ℕ) → HasGrade part g → HasGrade whole h
    → AreNear (10 ^ 10 * price.num * near) ((high - 1) * price.den * (near - 1)) (g + h + 2) in
    let covers : P × Q × R × S → CoversPrice ⊥ near price low high =
    (λ all. close_covers price low high some is.less near c.requires.at_most
    (record { below = all.0; above = all.1; low_near = all.2; high_near = all.3 })) in
    let close : CoversPrice ⊥ near price low high → P × Q × R × S =
    (λ h. let k = covers_close price low high some is.less near h in
    (k.below, k.above, k.low_near, k.high_near)) in
    let known_near : M ⊎ (N ⊎ (O ⊎ T)) → (g h : ℕ) → HasGrade part g → HasGrade whole h
    → AreNearUnits near price low high (g + h + 2) =
    (λ known g h graded graded'. elim known [
      | inl m ↦ inl (near_same_as (low * (price.den * 1)) (price.num * 10 ^ 10) (g + h + 2) _ _ _ (omega arith) (omega arith) (omega arith) (more_steps _ _ (g + h) (g + h + 2) (omega arith) (m.near g h graded graded')))
      | inr more ↦ inr (elim more [
        | inl n ↦ inl (near_same_as (price.num * 10 ^ 10) (high * (price.den * 1)) (g + h + 2) _ _ _ (omega arith) (omega arith) (omega arith) (more_steps _ _ (g + h) (g + h + 2) (omega arith) (n.near g h graded graded')))
        | inr rest ↦ inr (elim rest [ inl o ↦ inl (o g h graded graded') | inr t ↦ inr (t g h graded graded') ])
      ])
    ]) in
    let four : Judges (both (both (both c.at_most-below.result c.at_most-above.result) c.above-low_near.result) c.above-high_near.result) (P × Q × R × S) (M ⊎ (N ⊎ (O ⊎ T))) =
    judges_four c.at_most-below.result c.at_most-above.result c.above-low_near.result c.above-high_near.result P Q R S M N O T
    (rw c.at_most-below.ensures (judges_at_most c.compare_below.result _ _ M (c.compare_below.ensures price.num price.den is.part_holds is.whole_holds)))
    (rw c.at_most-above.ensures (judges_at_most c.compare_above.result _ _ N (c.compare_above.ensures price.num price.den is.part_holds is.whole_holds)))
    (rw c.above-low_near.ensures (judges_above c.near_below.result _ _ O (c.near_below.ensures price is)))
    (rw c.above-high_near.ensures (judges_above c.near_above.result _ _ T (c.near_above.ensures price is))) in
    subst (λ (n : ℕ). Judges c.and-3.result (CoversPrice ⊥ n price low high)
    (IsPriceNear n (Between part whole) price low high)) c.near_part-near.ensures.value
    (rw (c.and-3.ensures, c.and-2.ensures, c.and.ensures)
    (judges_as (both (both (both c.at_most-below.result c.at_most-above.result) c.above-low_near.result) c.above-high_near.result)
    (P × Q × R × S) (CoversPrice ⊥ near price low high) (M ⊎ (N ⊎ (O ⊎ T))) _ covers close
    known_near four))
