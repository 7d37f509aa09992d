-- What an engine stands for: a network, a tree, the factors that were multiplied together, and the pairs that are known.
use Rattle.std.specs.Prelude.{ℕ, ◌+◌, ◌-◌, ◌*◌, max, Bool, true, false, List, [], ◌∷◌, ◌++◌, map}
use Rattle.std.specs.Prelude.{length, sum_by, All}
use Rattle.mk_net.specs.declared.words.Pair.{Pair}
use Rattle.mk_net.specs.Asked.{TradeRatio}
use Rattle.mk_net.specs.Bounds.{max_variables, max_cliques, max_clique_cells, max_cells}
use Rattle.mk_net.specs.Bounds.{max_market_trades}
use Rattle.mk_net.specs.Network.{Variable, sizes}
use Rattle.mk_states.specs.States.{states, plus_over, product_by}
use Rattle.mk_states.specs.InitialWeight.{value_at}
use Rattle.mk_states.specs.OfNetwork.{IsPairOf}
use Rattle.mk_sums.specs.There.{share_there, support_there, ratio_there}
use Rattle.mk_sums.specs.Joint.{joint}
use Rattle.mk_tree.specs.Given.{GivenTree}
use Rattle.mk_tree.specs.Tests.{cells_of}

-- the rows of a variable; its support, which is one where its share is not nothing; or the ratio of a trade
pub data Factor : Type 0 where
  RowsOf : (variable : ℕ) → Factor
  SupportOf : (variable : ℕ) → Factor
  RatioOf : (ratio : TradeRatio) → Factor

-- a factor is the ratio of a trade
abbrev pub is_ratio : Factor → Bool
is_ratio (RowsOf variable) = false
is_ratio (SupportOf variable) = false
is_ratio (RatioOf ratio) = true

pub record Meaning : Type 0 where
  pub network : List Variable
  pub tree : GivenTree
  pub factors : List Factor
  pub known : List Pair

-- nothing is multiplied, and nothing is known
abbrev pub opening : List Variable → GivenTree → Meaning
opening network tree = record { network = network; tree = tree; factors = []; known = [] }

abbrev pub with_factor : Factor → Meaning → Meaning
with_factor factor m = record { network = m.network; tree = m.tree; factors = m.factors ++ factor ∷ []; known = m.known }

abbrev pub with_known : Pair → Meaning → Meaning
with_known pair m = record { network = m.network; tree = m.tree; factors = m.factors; known = m.known ++ pair ∷ [] }

-- the number that a factor gives an assignment
abbrev pub factor_there : List Variable → Factor → (ℕ → ℕ) → ℕ
factor_there network (RowsOf k) = share_there network k
factor_there network (SupportOf k) = support_there network k
factor_there network (RatioOf ratio) = ratio_there ratio

-- the exact plus, over all states where the known pairs and the event hold, of the product of all factors
abbrev pub exact_belief : (ℕ → ℕ → ℕ) → Meaning → List Pair → ℕ
exact_belief plus m event = joint plus (sizes m.network) (map (factor_there m.network) m.factors) m.known event

-- the sum, over all states, known or not, of the product of all factors
abbrev pub whole_sum : Meaning → ℕ
whole_sum m = sum_by (λ s. product_by (λ (f : Factor). factor_there m.network f (value_at s)) m.factors) (states (sizes m.network))

-- how many factors an engine may hold: the rows or the support of each variable, and each trade
abbrev pub max_factors : ℕ
max_factors = max_variables + max_market_trades

-- how many separators a tree may have: one fewer than cliques, which are those of a file and one more for each question that
-- is added later to at least one variable
abbrev pub max_separators : ℕ
max_separators = max_cliques + (max_variables - 1) - 1

-- the grade of a belief beside that of its factors: the cells of all cliques, two for each separator, and the cells of the
-- asked clique
abbrev pub max_grade : ℕ
max_grade = max_cells + 2 * max_separators + max_clique_cells

-- the cells of all cliques of its tree, and those of the largest
abbrev pub cells_of_all : Meaning → ℕ
cells_of_all m = sum_by (cells_of m.network) m.tree.cliques

abbrev pub cells_of_largest : Meaning → ℕ
cells_of_largest m = plus_over max 0 (cells_of m.network) m.tree.cliques

-- a tree has one separator fewer than cliques
abbrev pub separators_in : Meaning → ℕ
separators_in m = length m.tree.cliques - 1

-- the grade of a belief by the sizes of its tree, whichever clique is asked: one for each factor, the
-- cells of all cliques, two for each separator, and the cells of the largest clique
abbrev pub tree_grade : Meaning → ℕ
tree_grade m = length m.factors + cells_of_all m + 2 * separators_in m + cells_of_largest m

-- the network's own pairs
abbrev pub ArePairsOf : List Variable → List Pair → Type 0
ArePairsOf network pairs = All (IsPairOf network) pairs
