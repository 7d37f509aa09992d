-- The least initial weight that is left in a market in use.
use Rattle.std.proofs.Common.{◌≡◌, ℕ, ◌+◌, ◌*◌, ◌^◌, ◌<◌, ◌≤◌, List, [], length, Some, IsSomeAnd, sym, ap, subst, ◌∙◌, arith, le_trans}
use Rattle.std.proofs.lemmas.Nat.{pow-add}
use Rattle.std.proofs.Math.Nat.{pow-le-pow_left}
use Rattle.mk_net.specs.declared.words.Pair.{Pair}
use Rattle.mk_net.specs.Bounds.{million, number_limit}
use Rattle.mk_net.specs.Network.{Variable}
use Rattle.mk_exact.specs.History.{Entry}
use Rattle.mk_states.specs.InitialWeight.{initial_total}
use Rattle.mk_exact.specs.Risk.{least_weight, CoversBound}
use Rattle.mk_exact.proofs.ExistNumbers.{power_of_power}
use Rattle.mk_exact.proofs.Millions.{initial_total_is}
use Rattle.mk_exact.proofs.Risk.{bound_exists, least_is_part}
use Rattle.mk_cell.specs.Least.{least}
use Rattle.mk_tree.specs.Given.{GivenTree}
use Rattle.mk_scaled.specs.Range.{two_to, two_to-small}
use Rattle.mk_enclose.specs.declared.enclosure.Enclosure.{Enclosure}
use Rattle.mk_enclose.specs.Enclosure.{lower_of, upper_of, Encloses, IsExact, IsGradedWithin}
use Rattle.mk_enclose.specs.inner.Widths.{narrow_ends}
use Rattle.mk_engine.specs.Meaning.{exact_belief, max_grade}
use Rattle.mk_engine.specs.Beliefs.{IsBelief}
use Rattle.mk_semiring.specs.declared.held.Held.{Held}
use Rattle.mk_semiring.specs.declared.held.Held.TheVariants.{Present}
use Rattle.mk_semiring.specs.Held.{HeldEncloses, HasHeldGrade, IsHeldExact}
use Rattle.mk_beliefs.specs.Meanings.{rows_of}
use Rattle.mk_beliefs.proofs.Initials.{rows_are_least, rows_are_small, rows_are_few}
use Rattle.mk_answers.specs.Open.{IsOpen}
use Rattle.mk_answers.specs.inner.Found.{IsThere}
use Rattle.mk_answers.proofs.Least.{present_is}

-- ends that are near each other, the lower one at most a number of so many bits
doubled : (low high x : ℕ) → high * 2 ^ 40 ≤ low * (2 ^ 40 + 1) → low ≤ x → high ≤ x * 2
doubled low high x near l = omega (arith, near, l)

millions_few : (n : ℕ) → n ≤ 256 → million ^ n * 2 ≤ two_to 6000
millions_few n few =
    let each : million ^ n ≤ (2 ^ 20) ^ n = pow-le-pow_left (omega arith) n in
    let bits : 2 ^ (20 * n + 1) ≡ 2 ^ (20 * n) * 2 ^ 1 = pow-add 2 (20 * n) 1 in
    let small : 2 ^ (20 * n + 1) ≤ two_to 6000 = two_to-small 6000 (20 * n + 1) (omega (arith, few)) in
    omega (arith, each, power_of_power 20 n, bits, small)

module _ (network : List Variable) (tree : GivenTree) (H : List Entry) (is_open : IsOpen network tree H) where
  -- the exact belief in no pairs
  pub least_left : ℕ
  least_left = exact_belief least (rows_of network tree H) []

  pub is_left : (least_weight network H ≡ Some least_left) × (1 ≤ least_left)
  unfolding least_left
  is_left =
      let has = bound_exists network H 1 is_open.legal is_open.proper in
      let found = present_is (exact_belief least (rows_of network tree H) []) has.least (sym (rows_are_least network tree H) ∙ has.is_least) in
      (has.is_least ∙ ap Some (sym found.0), found.1)

  pub at_most_all : least_left ≤ million ^ length network
  at_most_all = subst (λ n. least_left ≤ n) (initial_total_is network is_open.legal) (least_is_part network H least_left is_left.0).1

  -- the belief of the engine of initial weights
  module _ (event : List Pair) (belief : Held) (nothing : event ≡ []) (found : IsBelief HeldEncloses HasHeldGrade IsHeldExact least (rows_of network tree H) event belief) where
    its_number : HeldEncloses belief least_left
    unfolding least_left
    its_number = subst (λ (ps : List Pair). HeldEncloses belief (exact_belief least (rows_of network tree H) ps)) nothing found.value

    pub least_there : IsThere belief
    least_there = record { number = least_left; encloses = its_number; positive = is_left.1 }

    module _ (e : Enclosure) (is : belief ≡ Present e) where
      pub encloses_least : Encloses e least_left
      encloses_least = subst (λ (b : Held). HeldEncloses b least_left) is its_number

      pub graded : IsGradedWithin e (2 ^ 17)
      graded = record {
        grade = length (rows_of network tree H).factors + max_grade;
        small = omega (arith, rows_are_few network tree H is_open.legal);
        has = (subst (λ (b : Held). HasHeldGrade b (length (rows_of network tree H).factors + max_grade)) is found.grade).0;
      }

      pub exact_where : million ^ length network < number_limit → IsExact e
      exact_where small =
          subst IsHeldExact is (found.exact (rows_are_small network tree H (subst (λ n. n < number_limit) (sym (initial_total_is network is_open.legal)) small)))

      pub in_range : upper_of e ≤ two_to 6000
      in_range =
          le_trans
          (doubled (lower_of e) (upper_of e) (million ^ length network) (narrow_ends (lower_of e) (upper_of e) graded.grade (let few = graded.small in omega (arith, few)) graded.has.near)
          (le_trans encloses_least.lower at_most_all))
          (millions_few (length network) is_open.legal.few)

  -- a bound on its cash
  pub covers_least : (b low high : ℕ) → CoversBound (million ^ length network) least_left b low high
      → IsSomeAnd (least_weight network H) (λ least. CoversBound (initial_total network) least b low high)
  covers_least b low high covers = rw (is_left.0, initial_total_is network is_open.legal) covers
