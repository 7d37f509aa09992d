-- An engine over a tree: a flow, in which each factor and each known pair is placed in the first clique that holds its variables,
-- and a mark for each message that is stale.
use Rattle.std.specs.Prelude.{◌≡◌, ℕ, ◌+◌, ◌-◌, List, [], ◌∷◌, map, length, Bool, true, false, not, ◌&&◌, ◌||◌, ◌==◌, nat_lt, if◌then◌else◌, slice_index_or, option_map, unwrap_or, position}
use Rattle.mk_net.specs.declared.words.Pair.{Pair}
use Rattle.mk_net.specs.Asked.{ratio_pairs}
use Rattle.mk_net.specs.Network.{Variable}
use Rattle.mk_sums.specs.Trees.{sum_of}
use Rattle.mk_tree.specs.Given.{GivenTree, home}
use Rattle.mk_tree.specs.Tests.{holds_family}
use Rattle.mk_engine.specs.Meaning.{Meaning, Factor, RowsOf, SupportOf, RatioOf}
use Rattle.mk_plan.specs.Shapes.{ShapeOf, IsShapeFor, are_linked, next_on_way, is_behind}
use Rattle.mk_propagate.specs.Placings.{Placing}
use Rattle.mk_propagate.specs.Flows.{FlowOf, HasPlaced, IsRight}

-- upward are the marks of the messages of the cliques from 2 on to their links, and downward those of the links to them
pub record MarkedFlow : Type 0 where
  pub flow : FlowOf
  pub stale_up : List Bool
  pub stale_down : List Bool

-- the message from a clique to one that is linked to it is stale
abbrev pub is_stale : MarkedFlow → ℕ → ℕ → Bool
is_stale e a b = if nat_lt b a then slice_index_or e.stale_up (a - 2) true else slice_index_or e.stale_down (b - 2) true

-- the first clique that holds a variable with its parents, or the variables of a ratio
abbrev pub factor_home : List Variable → GivenTree → Factor → ℕ
factor_home network tree (RowsOf x) = unwrap_or (option_map (λ (k : ℕ). k + 1) (position (holds_family network x) tree.cliques)) 0
factor_home network tree (SupportOf x) = unwrap_or (option_map (λ (k : ℕ). k + 1) (position (holds_family network x) tree.cliques)) 0
factor_home network tree (RatioOf ratio) = unwrap_or (home tree (ratio_pairs ratio)) 0

abbrev pub pair_home : GivenTree → Pair → ℕ
pair_home tree pair = unwrap_or (home tree (pair ∷ [])) 0

-- each factor and each known pair of a meaning in its home
abbrev pub placing_of : Meaning → Placing
placing_of m = record {
  network = m.network;
  factors = map (λ f. record { clique = factor_home m.network m.tree f; factor = f }) m.factors;
  known = map (λ q. record { clique = pair_home m.tree q; pair = q }) m.known;
}

-- the plan of a network and its tree is the shape of that tree
pub record IsPlanFor (shape : ShapeOf) (network : List Variable) (tree : GivenTree) : Type 0 where
  pub shape_is : IsShapeFor shape network
  pub tree_is : shape.tree ≡ tree

-- the engine stands for a meaning: its flow has all of it placed, and each message that is not stale is right
pub record HasTree (plus : ℕ → ℕ → ℕ) (e : MarkedFlow) (m : Meaning) : Type 0 where
  pub tree_is : e.flow.shape.tree ≡ m.tree
  pub placed : HasPlaced plus e.flow (placing_of m)
  pub current : (a b : ℕ) → are_linked m.tree a b ≡ true → is_stale e a b ≡ false → IsRight plus e.flow (placing_of m) a b

-- the message from a to b leads towards a clique
abbrev pub leads_towards : GivenTree → ℕ → ℕ → ℕ → Bool
leads_towards tree c a b = not (a == c) && (next_on_way tree a c == b)

-- how many messages that lead towards a clique are stale
abbrev pub stale_number : MarkedFlow → ℕ → ℕ
stale_number e c =
    sum_of (λ k. not (k == c)) (length e.flow.shape.tree.cliques) (λ k. if is_stale e k (next_on_way e.flow.shape.tree k c) then 1 else 0)

-- a change in a clique makes stale exactly the messages that lead away from it
abbrev pub MarksAway : MarkedFlow → MarkedFlow → ℕ → Type 0
MarksAway old new c =
    (a b : ℕ) → are_linked old.flow.shape.tree a b ≡ true → is_stale new a b ≡ (is_stale old a b || is_behind old.flow.shape.tree a b c)

-- a belief makes current the messages that lead towards the clique in which it is read, and changes no other mark
abbrev pub ClearsTowards : MarkedFlow → MarkedFlow → ℕ → Type 0
ClearsTowards old new c =
    (a b : ℕ) → are_linked old.flow.shape.tree a b ≡ true → is_stale new a b ≡ (is_stale old a b && not (leads_towards old.flow.shape.tree c a b))

-- an engine as it is started from a plan: no message was made, and each is stale
pub record IsStarted (shape : ShapeOf) (e : MarkedFlow) : Type 0 where
  pub shape_is : e.flow.shape ≡ shape
  pub none_made : e.flow.computed ≡ 0
  pub all_stale : (a b : ℕ) → is_stale e a b ≡ true

-- the shape and the count of messages are as they were
pub record KeepsCount (old new : MarkedFlow) : Type 0 where
  pub same_shape : new.flow.shape ≡ old.flow.shape
  pub same_count : new.flow.computed ≡ old.flow.computed
