-- The ratio of a trade on a question speaks of the network's own pairs.
use Rattle.std.proofs.Common.{ℕ, ◌≤◌, Bool, true, false, cond, eqb, List, slice_index}
use Rattle.std.specs.List.{AllByRecursion, range_with_len}
use Rattle.mk_net.specs.Network.{Variable, sizes}
use Rattle.mk_net.specs.Asked.{Asked, factors_of, question_ratio}
use Rattle.mk_net.proofs.UnitsOf.{factors_length}
use Rattle.mk_states.specs.OfNetwork.{IsQuestionOf, IsRatioOf}
use Rattle.mk_states.proofs.Sums.{each-map, each_always}

either : (P : ℕ → Type 0) (b : Bool) (hit miss : ℕ) → P hit → P miss → P (cond b hit miss)
either P true hit miss h m = h
either P false hit miss h m = m

-- what holds of both numbers holds of each that is listed
each_factor : (P : ℕ → Type 0) (target values hit miss : ℕ) → P hit → P miss → AllByRecursion P (factors_of target values hit miss)
each_factor P target values hit miss h m =
    each-map P (λ (value : ℕ). cond (eqb value target) hit miss) (range_with_len 0 values)
    (each_always (λ (value : ℕ). P (cond (eqb value target) hit miss)) (λ value. either P (eqb value target) hit miss h m) (range_with_len 0 values))

pub ratio_fits : (network : List Variable) (asked : Asked) (hit miss : ℕ) → IsQuestionOf network asked → 1 ≤ hit → 1 ≤ miss
    → IsRatioOf network (question_ratio asked (slice_index (sizes network) asked.target.variable) hit miss)
ratio_fits network asked hit miss fits h m = record {
  variable = fits.target.variable;
  condition = fits.condition;
  one_each = factors_length asked.target.value (slice_index (sizes network) asked.target.variable) hit miss;
  positive = each_factor (λ n. 1 ≤ n) asked.target.value (slice_index (sizes network) asked.target.variable) hit miss h m;
}
