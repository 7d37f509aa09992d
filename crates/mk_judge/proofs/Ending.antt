-- The ends of the wanted shares of one side.
use Rattle.std.proofs.Common.{
  ℕ,
  ◌+◌,
  ◌*◌,
  ◌^◌,
  ◌<◌,
  ◌≤◌,
  ◌↔◌,
  inl,
  inr,
  refl,
  arith,
  le_refl,
  le_trans,
}
use Rattle.std.proofs.Math.Nat.{mul-le-mul}
use Rattle.mk_scaled.specs.Near.{IsNear}
use Rattle.mk_exact.specs.Limits.{Side, IsWanted}
use Rattle.mk_enclose.specs.declared.enclosure.Enclosure.{Enclosure}
use Rattle.mk_enclose.specs.Enclosure.{Encloses}
use Rattle.mk_judge.specs.declared.scale.Scale.{Scale}
use Rattle.mk_judge.specs.Powers.{StandsBeside}
use Rattle.mk_judge.specs.Wanted.{IsSomeNear}
use Rattle.mk_judge.specs.inner.Products.{IsAboveOne}
use Rattle.mk_judge.proofs.Nearness.{near_same_as}
use Rattle.mk_judge.proofs.Sharing.{
  surely_above,
  maybe_above,
  above_near,
  product_near,
  surely_not_far,
  maybe_not_far,
  far_near,
}

-- what is asked of a share in the second inequality, for a part and a whole
abbrev pub IsNotFar : ℕ → ℕ → ℕ → Type 0
IsNotFar part whole X = X * whole ≤ part * (1000000 * 2 ^ 22)

-- products near a gain times a whole, and the first and the last shares by the ends
pub record AreEndsBy (part whole gain : Enclosure) (scale : Scale)
    (least greatest outer_low inner_low inner_high outer_high : ℕ) : Type 0 where
  pub positive : 1 ≤ outer_low
  pub low_most : inner_low ≤ 1000000
  pub high_most : inner_high ≤ outer_high
  pub highest : outer_high ≤ 999999
  pub least_below : least ≤ gain.lo * whole.lo
  pub least_near : IsNear least (gain.lo * whole.lo) 1
  pub greatest_above : gain.hi * whole.hi ≤ greatest
  pub greatest_near : IsNear (gain.hi * whole.hi) greatest 1
  pub outer_first : (X : ℕ) → X ≤ 999999 → (outer_low ≤ X) ↔ IsAboveOne scale part.lo greatest X
  pub inner_first : (X : ℕ) → X ≤ 999999 → (inner_low ≤ X) ↔ IsAboveOne scale part.hi least X
  pub inner_last : (X : ℕ) → X ≤ 999999 → (X ≤ inner_high) ↔ IsNotFar part.lo whole.hi X
  pub outer_last : (X : ℕ) → X ≤ 999999 → (X ≤ outer_high) ↔ IsNotFar part.hi whole.lo X

module _ (part whole gain : Enclosure) (scale : Scale)
    (least greatest outer_low inner_low inner_high outer_high : ℕ)
    (ends : AreEndsBy part whole gain scale least greatest outer_low inner_low inner_high
    outer_high)
    (side : Side) (g : ℕ) (part_holds : Encloses part side.price.num)
    (whole_holds : Encloses whole side.price.den) (gain_holds : Encloses gain g)
    (beside : StandsBeside scale g side.least.num side.least.den) where
  product_below : least ≤ g * side.price.den
  product_below = le_trans ends.least_below (mul-le-mul gain_holds.lower whole_holds.lower)

  product_above : g * side.price.den ≤ greatest
  product_above = le_trans (mul-le-mul gain_holds.upper whole_holds.upper) ends.greatest_above

  pub outer : (X : ℕ) → 1 ≤ X → X ≤ 999999 → IsWanted side X → (outer_low ≤ X) × (X ≤ outer_high)
  outer X from to is = (
    (ends.outer_first X to).1 (maybe_above scale side g beside X part.lo part.hi least greatest 0 0
        part_holds.lower part_holds.upper product_below product_above is.above_one),
    (ends.outer_last X to).1 (maybe_not_far X side.price.num side.price.den part.lo part.hi whole.lo
        whole.hi part_holds.lower part_holds.upper whole_holds.lower whole_holds.upper is.not_far),
  )

  pub inner : (X : ℕ) → inner_low ≤ X → X ≤ inner_high → IsWanted side X
  inner X from to =
      let share : X ≤ 999999 = le_trans to (le_trans ends.high_most ends.highest) in
      record {
        above_one = surely_above scale side g beside X part.lo part.hi least greatest 0 0
            part_holds.lower part_holds.upper product_below product_above
            ((ends.inner_first X share).0 from);
        not_far = surely_not_far X side.price.num side.price.den part.lo part.hi whole.lo whole.hi
            part_holds.lower part_holds.upper whole_holds.lower whole_holds.upper
            ((ends.inner_last X share).0 to);
      }

  pub low_near : outer_low < inner_low → IsSomeNear part whole gain side
  low_near apart =
      let most = ends.low_most in
      let share : outer_low ≤ 999999 = omega (arith, apart, most) in
      record {
        share = outer_low;
        from = ends.positive;
        to = share;
        near = λ i h k graded graded' graded''.
            inl (near_same_as _ _ (i + (1 + ((k + h) + 1))) _ _ (i + h + k + 2) refl refl
            (omega arith)
            (above_near scale side g beside outer_low part.lo part.hi least greatest i
            (1 + ((k + h) + 1)) part_holds.lower part_holds.upper product_below product_above
            graded.near
            (product_near least greatest gain.lo gain.hi whole.lo whole.hi k h ends.least_near
            ends.greatest_near graded''.near graded'.near)
            ((ends.outer_first outer_low share).0 (le_refl outer_low))
            (λ sure. let l = (ends.inner_first outer_low share).1 sure in omega (
              arith,
              l,
              apart,
            ))));
      }

  pub high_near : inner_high < outer_high → IsSomeNear part whole gain side
  high_near apart = record {
    share = outer_high;
    from = omega (arith, apart);
    to = ends.highest;
    near = λ i h k graded graded' graded''. inr
        (far_near outer_high side.price.num side.price.den part.lo part.hi whole.lo whole.hi
        part_holds.lower part_holds.upper whole_holds.lower whole_holds.upper i h graded.near
        graded'.near
        ((ends.outer_last outer_high ends.highest).0 (le_refl outer_high))
        (λ sure. let l = (ends.inner_last outer_high ends.highest).1 sure in omega (
          arith,
          l,
          apart,
        )));
  }
