-- The bounds of a question's price by the weights of its two sides.
use Rattle.std.proofs.Common.{◌≡◌, ℕ, suc, ◌+◌, ◌*◌, ◌^◌, ◌<◌, ◌≤◌, List, Some, None}
use Rattle.std.proofs.Common.{refl, arith, lt_of_le_of_lt}
use Rattle.mk_net.specs.Asked.{Asked}
use Rattle.mk_net.specs.Network.{Variable, IsNetwork}
use Rattle.mk_states.specs.Events.{holds, with_target, without_target}
use Rattle.mk_exact.specs.History.{Entry}
use Rattle.mk_exact.specs.Proper.{IsProper}
use Rattle.mk_exact.specs.Weight.{IsSmall, total}
use Rattle.mk_scaled.specs.Range.{IsInRange, two_to, two_to-suc, two_to-small, two_to-lt}
use Rattle.mk_scaled.specs.Range.{mul_at_most, least_at_most}
use Rattle.mk_scaled.specs.Rounding.{IsLeastAbove}
use Rattle.mk_enclose.specs.declared.enclosure.Enclosure.{Enclosure}
use Rattle.mk_enclose.specs.Enclosure.{upper_of, widest_grade}
use Rattle.mk_semiring.specs.declared.held.Held.TheVariants.{Present}
use Rattle.mk_beliefs.proofs.Weighed.{cases_are_all}
use Rattle.mk_judge.specs.declared.price.PriceBounds.{PriceBounds}
use Rattle.mk_judge.specs.declared.price.PriceBounds.TheVariants.{Never, Always, Between}
use Rattle.mk_answers.specs.Evidence.{AreBoundsOfPrice, IsPriceBounded}
use Rattle.mk_answers.specs.inner.Found.{IsBeliefIn, IsPartFor, IsWholeFor, max_side_grade}
use Rattle.mk_answers.proofs.Bounding.{found_of}
use Rattle.mk_answers.proofs.Presence.{weighed_comes, absent_never}

-- a number of so many bits is in range when it is multiplied
range_of : (upper k : ℕ) → upper ≤ two_to k → k + 42 < 2 ^ 50 → IsInRange (upper * 2 ^ 42)
range_of upper k l few =
    lt_of_le_of_lt (mul_at_most upper (2 ^ 42) k 42 l (two_to-small 42 42 (omega arith)))
    (two_to-lt (k + 42) (2 ^ 50) few)

-- the sum of two such numbers has one bit more
pub sum_is_few : (small : Type 0) (v w : ℕ) (a b : Enclosure) (sum : Enclosure)
    → IsBeliefIn (Present a) small v → IsBeliefIn (Present b) small w
    → IsLeastAbove (upper_of sum) (upper_of a + upper_of b)
    → upper_of sum ≤ two_to (192 * (max_side_grade + 1) + 1)
sum_is_few small v w a b sum a_in b_in is =
    let more = two_to-suc (192 * (max_side_grade + 1)) in
    let same : 192 * (max_side_grade + 1) + 1 ≡ suc (192 * (max_side_grade + 1)) = omega arith in
    rw same (least_at_most (upper_of sum) (upper_of a + upper_of b) _ is
    (omega (arith, more, a_in.grade.1, b_in.grade.1)))

module _ (network : List Variable) (H : List Entry) (asked : Asked) where
  -- bounds that are found of a price
  found : 1 ≤ total network H (holds asked.condition) → (bounds : PriceBounds)
      → AreBoundsOfPrice widest_grade network H asked bounds
      → IsPriceBounded widest_grade network H asked (Some bounds)
  found some bounds are = record {
    none = (
      λ e. absurd (cc),
      λ e. absurd (let comes = weighed_comes network H (holds asked.condition) some in cc),
    );
    bounds = are;
  }

  -- where neither side weighs anything
  pub unbounded : IsNetwork network → IsProper network H
      → total network H (with_target asked) ≡ 0 → total network H (without_target asked) ≡ 0
      → IsPriceBounded widest_grade network H asked None
  unbounded net proper no_hit no_miss =
      let all = cases_are_all network H asked in
      record {
        none = (
          λ e. absent_never network H (holds asked.condition) net proper
              (omega (arith, all, no_hit, no_miss)),
          λ e. refl,
        );
        bounds = tt;
      }

  -- where the target weighs nothing, and where nothing else does
  pub bounded_never : total network H (with_target asked) ≡ 0
      → 1 ≤ total network H (without_target asked)
      → IsPriceBounded widest_grade network H asked (Some Never)
  bounded_never no_hit some_miss =
      let all = cases_are_all network H asked in
      let some : 1 ≤ total network H (holds asked.condition) = omega (arith, all, some_miss) in
      found some Never (record { bounds_of = λ small is. (no_hit, some); range = tt; graded = tt })

  pub bounded_always : 1 ≤ total network H (with_target asked)
      → total network H (without_target asked) ≡ 0
      → IsPriceBounded widest_grade network H asked (Some Always)
  bounded_always some_hit no_miss =
      let all = cases_are_all network H asked in
      let some : 1 ≤ total network H (holds asked.condition) = omega (arith, all, some_hit) in
      found some Always (record {
        bounds_of = λ small is. (omega (arith, all, no_miss), some);
        range = tt;
        graded = tt;
      })

  -- where both weigh something
  pub bounded_between : (part whole : Enclosure) → IsPartFor network H asked part
      → IsWholeFor network H asked whole → 1 ≤ total network H (without_target asked)
      → upper_of whole ≤ two_to (192 * (max_side_grade + 1) + 1)
      → IsPriceBounded widest_grade network H asked (Some (Between part whole))
  bounded_between part whole part_in whole_in some_miss few =
      let all = cases_are_all network H asked in
      let less : total network H (with_target asked) < total network H (holds asked.condition) =
      omega (arith, all, some_miss) in
      let its = found_of part (IsSmall network H) _ part_in in
      found (omega (arith, less)) (Between part whole) (record {
        bounds_of = λ small is. record {
          part_holds = part_in.encloses;
          whole_holds = whole_in.encloses;
          less = less;
          part_exact = λ yes. part_in.exact (is yes);
          whole_exact = λ yes. whole_in.exact (is yes);
        };
        range = (
          range_of (upper_of part) (192 * (max_side_grade + 1)) part_in.grade.1 (omega arith),
          range_of (upper_of whole) (192 * (max_side_grade + 1) + 1) few (omega arith),
        );
        graded = (its.graded, whole_in.graded);
      })

-- a belief's number has few enough bits for that
pub belief_is_few : (small : Type 0) (n : ℕ) (e : Enclosure) → IsBeliefIn (Present e) small n
    → upper_of e ≤ two_to (192 * (max_side_grade + 1) + 1)
belief_is_few small n e b =
    let more = two_to-suc (192 * (max_side_grade + 1)) in
    let same : 192 * (max_side_grade + 1) + 1 ≡ suc (192 * (max_side_grade + 1)) = omega arith in
    rw same (omega (arith, more, b.grade.1))
