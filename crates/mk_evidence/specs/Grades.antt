-- How near an auditor's numbers have to be, by a market's own sizes.
use Rattle.std.specs.Prelude.{ℕ, ◌+◌, ◌-◌, ◌*◌, max, List, length, sum_by}
use Rattle.mk_net.specs.Bounds.{max_values}
use Rattle.mk_net.specs.Network.{sizes, choices}
use Rattle.mk_states.specs.States.{plus_over}
use Rattle.mk_exact.specs.History.{Entry, trades}
use Rattle.mk_exact.specs.Market.{Market}

-- a clique has a cell for each list of the values of its variables
abbrev pub cells_in : Market → List Entry → List ℕ → ℕ
cells_in market H clique = choices (sizes market.network) clique

-- the cells of all cliques, and those of the largest
abbrev pub all_cells : Market → List Entry → ℕ
all_cells market H = sum_by (cells_in market H) market.cliques

abbrev pub largest_cells : Market → List Entry → ℕ
largest_cells market H = plus_over max 0 (cells_in market H) market.cliques

-- a tree has one separator fewer than cliques
abbrev pub separators : Market → List Entry → ℕ
separators market H = length market.cliques - 1

-- the greatest grade of an enclosure of evidence: one for each variable and each trade, the cells
-- of all cliques, two for each separator, the cells of the largest clique, and one for each value
-- that a variable may have
abbrev pub evidence_grade : Market → List Entry → ℕ
evidence_grade market H =
    length market.network + length (trades H) + all_cells market H
    + 2 * separators market H + largest_cells market H + max_values
