-- A chain of three cliques over four variables of two values each, 0 and 1, 1 and 2, and 2 and 3, and the numbers that the definitions give there.
use Rattle.std.specs.Prelude.{◌≡◌, ℕ, ◌+◌, ◌-◌, ◌*◌, Bool, true, false, cond, ◌||◌, ◌==◌, List, [], ◌∷◌, slice_index}
use Rattle.mk_net.specs.declared.words.Pair.{Pair}
use Rattle.mk_sums.specs.Lawful.{lesser_present}
use Rattle.mk_sums.specs.Sums.{over}
use Rattle.mk_sums.specs.Trees.{times_of, hop, behind, IsTree, right_message, linked_to, message_grade}
use Rattle.mk_sums.specs.Cells.{cells, cell_of, place}
use Rattle.mk_sums.specs.Joint.{joint, where_holds, variables}

abbrev pub chain_sizes : List ℕ
chain_sizes = 2 ∷ 2 ∷ 2 ∷ 2 ∷ []

abbrev pub chain_link : ℕ → ℕ
chain_link k = k - 1

abbrev pub chain_clique : ℕ → ℕ → Bool
chain_clique k x = (x + 1 == k) || (x == k)

abbrev pub chain_placed : ℕ → (ℕ → ℕ) → ℕ
chain_placed k s = cond (k == 1) (1 + s 0 + 2 * s 1) (cond (k == 2) (1 + 3 * s 1 * s 2) (2 + s 2 + 4 * s 3))

-- each of the chain's factors lies in one of its cliques, and it has running intersection
abbrev pub ChainIsTree : Type 0
ChainIsTree = IsTree chain_link 3 chain_clique chain_placed

abbrev pub pair : ℕ → ℕ → Pair
pair variable value = record { variable = variable; value = value }

-- the assignment with these values
abbrev pub values : List ℕ → ℕ → ℕ
values s x = slice_index s x

abbrev pub chain_message : (ℕ → ℕ → ℕ) → ℕ → ℕ → List ℕ → ℕ
chain_message plus c a s = right_message plus (values chain_sizes) (variables chain_sizes) chain_clique chain_placed chain_link 3 c a (values s)

abbrev pub chain_joint : (ℕ → ℕ → ℕ) → List Pair → List Pair → ℕ
chain_joint plus known event = joint plus chain_sizes (chain_placed 1 ∷ chain_placed 2 ∷ chain_placed 3 ∷ []) known event

-- the plus over a clique of what is placed there times the messages of its neighbours
abbrev pub chain_read : (ℕ → ℕ → ℕ) → ℕ → List Pair → ℕ
chain_read plus a event =
    over plus (values chain_sizes) (chain_clique a) (variables chain_sizes)
    (λ t. where_holds event t * (chain_placed a t * times_of (linked_to chain_link 3 a) 3 (λ i. right_message plus (values chain_sizes) (variables chain_sizes) chain_clique chain_placed chain_link 3 i a) t)) (λ x. 0)

-- ways along the chain
pub record HasWays : Type 0 where
  pub down : hop chain_link 3 1 3 ≡ 2
  pub up : hop chain_link 3 3 1 ≡ 2
  pub between : hop chain_link 3 2 3 ≡ 3
  pub beyond : behind chain_link 3 2 1 3 ≡ true
  pub not_beyond : behind chain_link 3 2 3 3 ≡ false
  pub grade : message_grade (λ k. 1) (λ k. 4) chain_link 3 2 1 ≡ 12

-- the messages and the joint values of sums
pub record HasSums : Type 0 where
  pub first_at_0 : chain_message ◌+◌ 1 2 (0 ∷ 0 ∷ 0 ∷ 0 ∷ []) ≡ 3
  pub first_at_1 : chain_message ◌+◌ 1 2 (0 ∷ 1 ∷ 0 ∷ 0 ∷ []) ≡ 7
  pub last_at_1 : chain_message ◌+◌ 3 2 (0 ∷ 0 ∷ 1 ∷ 0 ∷ []) ≡ 10
  pub back_at_1 : chain_message ◌+◌ 2 1 (0 ∷ 1 ∷ 0 ∷ 0 ∷ []) ≡ 48
  pub on_at_1 : chain_message ◌+◌ 2 3 (0 ∷ 0 ∷ 1 ∷ 0 ∷ []) ≡ 31
  pub all : chain_joint ◌+◌ [] [] ≡ 390
  pub event : chain_joint ◌+◌ [] (pair 3 1 ∷ []) ≡ 277
  pub known : chain_joint ◌+◌ (pair 0 1 ∷ []) (pair 1 0 ∷ []) ≡ 36
  pub none : chain_joint ◌+◌ (pair 0 1 ∷ []) (pair 0 0 ∷ []) ≡ 0
  pub read : chain_read ◌+◌ 3 (pair 3 1 ∷ []) ≡ 277

-- those of minima
pub record HasMinima : Type 0 where
  pub first_at_1 : chain_message lesser_present 1 2 (0 ∷ 1 ∷ 0 ∷ 0 ∷ []) ≡ 3
  pub back_at_1 : chain_message lesser_present 2 1 (0 ∷ 1 ∷ 0 ∷ 0 ∷ []) ≡ 2
  pub all : chain_joint lesser_present [] [] ≡ 2
  pub event : chain_joint lesser_present [] (pair 3 1 ∷ []) ≡ 6
  pub known : chain_joint lesser_present (pair 0 1 ∷ []) (pair 1 0 ∷ []) ≡ 4
  pub read : chain_read lesser_present 3 (pair 3 1 ∷ []) ≡ 6

-- cells over the first two variables, of which the second is the fastest
pub record HasCells : Type 0 where
  pub number : cells (values chain_sizes) (0 ∷ 1 ∷ []) ≡ 4
  pub cell : cell_of (values chain_sizes) (0 ∷ 1 ∷ []) (values (1 ∷ 0 ∷ [])) ≡ 2
  pub first_value : place (values chain_sizes) (0 ∷ 1 ∷ []) 2 (λ x. 0) 0 ≡ 1
  pub second_value : place (values chain_sizes) (0 ∷ 1 ∷ []) 2 (λ x. 0) 1 ≡ 0
