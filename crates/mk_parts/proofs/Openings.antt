-- The rows of one variable after another.
use Rattle.std.specs.Prelude.{◌≡◌, ℕ, ◌+◌, List, [], map, length}
use Rattle.std.proofs.Common.{sym, ap, arith}
use Rattle.std.proofs.lemmas.List.FromFn.{map-range_with_len_more, length-map-range_with_len}
use Rattle.mk_net.specs.Network.{Variable}
use Rattle.mk_states.specs.States.{numbers_below}
use Rattle.mk_tree.specs.Given.{GivenTree}
use Rattle.mk_engine.specs.Meaning.{Meaning, Factor, RowsOf, with_factor}
use Rattle.mk_beliefs.specs.Meanings.{rows_of}
use Rattle.mk_beliefs.proofs.Initials.{rows_open}

-- the rows of the first variables, in order, and nothing known
abbrev pub first_rows : List Variable → GivenTree → ℕ → Meaning
first_rows network tree count = record { network = network; tree = tree; factors = map RowsOf (numbers_below count); known = [] }

-- the rows of one variable more
pub one_more : (network : List Variable) (tree : GivenTree) (k : ℕ) → with_factor (RowsOf k) (first_rows network tree k) ≡ first_rows network tree (k + 1)
one_more network tree k =
    let meaning : List Factor → Meaning = λ fs. record { network = network; tree = tree; factors = fs; known = [] } in
    ap meaning (sym (map-range_with_len_more RowsOf 0 k k (omega arith)))

pub count_of_rows : (network : List Variable) (tree : GivenTree) (k : ℕ) → length (first_rows network tree k).factors ≡ k
count_of_rows network tree k = length-map-range_with_len RowsOf 0 k

-- those of all variables are the initial weights, and the weights before any entry
pub all_rows : (network : List Variable) (tree : GivenTree) → first_rows network tree (length network) ≡ rows_of network tree []
all_rows network tree = sym (rows_open network tree)
