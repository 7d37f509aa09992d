-- What the beliefs in these meanings are in the exact market. Each law is the contract of a function of this crate, and so proved.
use Rattle.std.specs.Prelude.{◌≡◌, ℕ, ◌+◌, ◌<◌, ◌≤◌, true, ◌↔◌, List, [], ◌∷◌, ◌++◌, map, length, slice_index, sum_by}
use Rattle.mk_net.specs.declared.words.Pair.{Pair}
use Rattle.mk_net.specs.Asked.{Asked}
use Rattle.mk_net.specs.Bounds.{max_variables, number_limit, max_market_trades}
use Rattle.mk_net.specs.Events.{pairs_asked}
use Rattle.mk_net.specs.Network.{Variable, IsNetwork, sizes}
use Rattle.mk_net.specs.Zeros.{with_zeros}
use Rattle.mk_states.specs.States.{numbers_below}
use Rattle.mk_states.specs.InitialWeight.{all_states, initial_total}
use Rattle.mk_states.specs.Events.{holds, with_target, without_target, always}
use Rattle.mk_exact.specs.History.{Entry, users, trades, resolutions}
use Rattle.mk_exact.specs.Weight.{weight, total, cannot_come, IsSmall}
use Rattle.mk_exact.specs.Factors.{least_gain}
use Rattle.mk_exact.specs.Risk.{least_weight}
use Rattle.mk_states.specs.OfNetwork.{IsQuestionOf}
use Rattle.mk_exact.specs.Proper.{IsProper}
use Rattle.mk_cell.specs.Least.{least}
use Rattle.mk_tree.specs.Given.{GivenTree}
use Rattle.mk_engine.specs.Meaning.{RowsOf, SupportOf, exact_belief, whole_sum, max_factors}
use Rattle.mk_engine.specs.Cases.{exact_others}
use Rattle.mk_beliefs.specs.Meanings.{weights_of, gains_of, rows_of, if_present, grown, grown_for, grown_rows}

-- the belief in an event is the total weight of the possible states where it holds
abbrev pub BeliefIsTotal : Type 0
BeliefIsTotal = (network : List Variable) (tree : GivenTree) (H : List Entry) (event : List Pair)
    → exact_belief ◌+◌ (weights_of network tree H) event ≡ total network H (holds event)

-- the plus of the beliefs in the other values is the total weight of the question's other side
abbrev pub OthersAreTotal : Type 0
OthersAreTotal = (network : List Variable) (tree : GivenTree) (H : List Entry) (asked : Asked) → IsQuestionOf network asked
    → exact_others ◌+◌ (weights_of network tree H) asked (slice_index (sizes network) asked.target.variable) ≡ total network H (without_target asked)

-- the pairs of a question hold on its target's side
abbrev pub TargetIsTotal : Type 0
TargetIsTotal = (network : List Variable) (H : List Entry) (asked : Asked)
    → total network H (holds (pairs_asked asked)) ≡ total network H (with_target asked)

-- the two sides of a question make up its condition
abbrev pub CasesAreAll : Type 0
CasesAreAll = (network : List Variable) (H : List Entry) (asked : Asked)
    → total network H (with_target asked) + total network H (without_target asked) ≡ total network H (holds asked.condition)

-- the belief in an event is absent exactly where it cannot come
abbrev pub AbsentIsNever : Type 0
AbsentIsNever = (network : List Variable) (tree : GivenTree) (H : List Entry) (event : List Pair) → IsNetwork network → IsProper network H
    → (exact_belief ◌+◌ (weights_of network tree H) event ≡ 0) ↔ (cannot_come network H (holds event) ≡ true)

-- and that in the other values exactly where none of them can come
abbrev pub AbsentIsSure : Type 0
AbsentIsSure = (network : List Variable) (tree : GivenTree) (H : List Entry) (asked : Asked) → IsNetwork network → IsProper network H → IsQuestionOf network asked
    → (exact_others ◌+◌ (weights_of network tree H) asked (slice_index (sizes network) asked.target.variable) ≡ 0)
    ↔ (cannot_come network H (without_target asked) ≡ true)

-- the belief in an event, with the least for plus, is the least gain over the possible states where it holds
abbrev pub BeliefIsLeast : Type 0
BeliefIsLeast = (network : List Variable) (tree : GivenTree) (H : List Entry) (u : ℕ) (event : List Pair) → IsNetwork network → IsProper network H
    → least_gain network H u (holds event) ≡ if_present (exact_belief least (gains_of network tree H u) event)

-- that in the other values is the least gain on the question's other side
abbrev pub OthersAreLeast : Type 0
OthersAreLeast = (network : List Variable) (tree : GivenTree) (H : List Entry) (u : ℕ) (asked : Asked) → IsNetwork network → IsProper network H → IsQuestionOf network asked
    → least_gain network H u (without_target asked)
    ≡ if_present (exact_others least (gains_of network tree H u) asked (slice_index (sizes network) asked.target.variable))

-- the pairs of a question hold on its target's side
abbrev pub TargetIsLeast : Type 0
TargetIsLeast = (network : List Variable) (H : List Entry) (u : ℕ) (asked : Asked)
    → least_gain network H u (holds (pairs_asked asked)) ≡ least_gain network H u (with_target asked)

-- the belief in no pair at all is the least gain over all possible states
abbrev pub AllIsLeast : Type 0
AllIsLeast = (network : List Variable) (tree : GivenTree) (H : List Entry) (u : ℕ) → IsNetwork network → IsProper network H
    → least_gain network H u always ≡ if_present (exact_belief least (gains_of network tree H u) [])

-- the whole sum is that of the weights of all states, possible or not
abbrev pub WholeIsSum : Type 0
WholeIsSum = (network : List Variable) (tree : GivenTree) (H : List Entry)
    → whole_sum (weights_of network tree H) ≡ sum_by (weight network H) (all_states network)

-- so in the small case it is below the limit of numbers
abbrev pub WeightsAreSmall : Type 0
WeightsAreSmall = (network : List Variable) (tree : GivenTree) (H : List Entry) → IsSmall network H → whole_sum (weights_of network tree H) < number_limit

-- and so is that of a user's gains, each of which is at most the weight of its state
abbrev pub GainsAreSmall : Type 0
GainsAreSmall = (network : List Variable) (tree : GivenTree) (H : List Entry) (u : ℕ) → IsNetwork network → IsProper network H → IsSmall network H
    → whole_sum (gains_of network tree H u) < number_limit

-- after no more trades than a market takes, neither has more factors than an engine may hold
abbrev pub FactorsAreFew : Type 0
FactorsAreFew = (network : List Variable) (tree : GivenTree) (H : List Entry) (u : ℕ) → IsNetwork network → length (trades H) ≤ max_market_trades
    → (length (weights_of network tree H).factors ≤ max_factors) × (length (gains_of network tree H u).factors ≤ max_factors)

-- before any entry the weights are the rows of each variable, and a user has no factor
abbrev pub OpeningIsRows : Type 0
OpeningIsRows = (network : List Variable) (tree : GivenTree) (u : ℕ)
    → (weights_of network tree [] ≡ record { network = network; tree = tree; factors = map RowsOf (numbers_below (length network)); known = [] })
    × (gains_of network tree [] u ≡ record { network = network; tree = tree; factors = map SupportOf (with_zeros network); known = [] })

-- one more entry makes the weights grow
abbrev pub WeightsGrow : Type 0
WeightsGrow = (network : List Variable) (tree : GivenTree) (H : List Entry) (e : Entry)
    → weights_of network tree (H ++ e ∷ []) ≡ grown e (weights_of network tree H)

-- and a user's gains
abbrev pub GainsGrow : Type 0
GainsGrow = (network : List Variable) (tree : GivenTree) (H : List Entry) (u : ℕ) (e : Entry)
    → gains_of network tree (H ++ e ∷ []) u ≡ grown_for u e (gains_of network tree H u)

-- who joins next has no factor, and knows what is resolved
abbrev pub NewcomerHasNone : Type 0
NewcomerHasNone = (network : List Variable) (tree : GivenTree) (H : List Entry) → IsProper network H
    → gains_of network tree H (length (users H)) ≡ record { network = network; tree = tree; factors = map SupportOf (with_zeros network); known = resolutions H }

-- the belief in no pair at all, by the initial weights and with the least for plus, is the least of those that are left
abbrev pub RowsAreLeast : Type 0
RowsAreLeast = (network : List Variable) (tree : GivenTree) (H : List Entry)
    → least_weight network H ≡ if_present (exact_belief least (rows_of network tree H) [])

-- the whole sum of the initial weights is below the limit of numbers where the initial total is
abbrev pub RowsAreSmall : Type 0
RowsAreSmall = (network : List Variable) (tree : GivenTree) (H : List Entry) → initial_total network < number_limit
    → whole_sum (rows_of network tree H) < number_limit

-- they have a factor for each variable, as many as there may be of these
abbrev pub RowsAreFew : Type 0
RowsAreFew = (network : List Variable) (tree : GivenTree) (H : List Entry) → IsNetwork network → length (rows_of network tree H).factors ≤ max_variables

-- before any entry nothing is known of them
abbrev pub RowsOpen : Type 0
RowsOpen = (network : List Variable) (tree : GivenTree)
    → rows_of network tree [] ≡ record { network = network; tree = tree; factors = map RowsOf (numbers_below (length network)); known = [] }

-- and one more entry
abbrev pub RowsGrow : Type 0
RowsGrow = (network : List Variable) (tree : GivenTree) (H : List Entry) (e : Entry) → rows_of network tree (H ++ e ∷ []) ≡ grown_rows e (rows_of network tree H)
