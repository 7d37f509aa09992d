-- What is kept over the core of a clique: what is placed in the clique, summed there, and the product of the messages of its neighbours, or of all but one;
-- and what the clique sends, made of both.
use Rattle.std.specs.Prelude.{◌≡◌, ℕ, ◌+◌, ◌-◌, ◌*◌, ◌<◌, ⊤, Bool, true, false, not, ◌&&◌, ◌==◌, nat_lt, if◌then◌else◌, List, length, take, sum_by, Option, Some, None, slice_index_or}
use Rattle.std.specs.List.{list_any}
use Rattle.mk_net.specs.Asked.{TradeRatio}
use Rattle.mk_states.specs.States.{plus_over, product_by}
use Rattle.mk_sums.specs.Trees.{linked_to}
use Rattle.mk_scope.specs.Scopes.{cells_in}
use Rattle.mk_scope.specs.Cells.{cell_in, cells_onto, cells_beside}
use Rattle.mk_table.specs.Tables.{TableOf, HasNumbers}
use Rattle.mk_table.specs.Ratios.{KeepsPairs}
use Rattle.mk_tree.specs.Given.{GivenTree, link_of}
use Rattle.mk_engine.specs.Meaning.{RatioOf}
use Rattle.mk_propagate.specs.declared.gathered.Gathered.{Gathered}
use Rattle.mk_propagate.specs.declared.gathered.Gathered.TheVariants.{Nothing, Everything, AllBut}
use Rattle.mk_plan.specs.Shapes.{ShapeOf, IsShapeFor, are_linked, clique_scope, core_scope, separator_between, neighbours}
use Rattle.mk_propagate.specs.Placings.{Placing, IsPlacing, IsPlacedFactor, IsCommon, placed_there, factors_in, ratios_in, with_factor_in}
use Rattle.mk_propagate.specs.Flows.{HasCells, HasSums, exact_message, exact_message_grade, message_ratios, no_table}

-- whose messages are taken: all, or all but the receiver's
abbrev pub is_taken : Option ℕ → ℕ → Bool
is_taken None i = true
is_taken (Some receiver) i = not (i == receiver)

-- the neighbours whose messages clique k gathers
abbrev pub is_input : GivenTree → ℕ → Option ℕ → ℕ → Bool
is_input tree k receiver i = linked_to (link_of tree) (length tree.cliques) k i && is_taken receiver i

-- the message from a to b, among the messages of both ways
abbrev pub message_in : List TableOf → List TableOf → ℕ → ℕ → TableOf
message_in upward downward a b = if nat_lt b a then slice_index_or upward (a - 2) no_table else slice_index_or downward (b - 2) no_table

-- a message from i to k that is right
abbrev pub IsRightIn : (ℕ → ℕ → ℕ) → ShapeOf → Placing → ℕ → ℕ → TableOf → Type 0
IsRightIn plus shape p i k message =
    HasCells message (separator_between shape i k) (exact_message plus shape.tree p i k) (3 * exact_message_grade shape.tree p i k) (exact_message_grade shape.tree p i k) (message_ratios shape.tree p i k) (IsCommon p)

-- the messages that clique k takes are right
pub record CanTake (plus : ℕ → ℕ → ℕ) (shape : ShapeOf) (upward downward : List TableOf) (k : ℕ) (receiver : Option ℕ) (p : Placing) : Type 0 where
  pub shape_is : IsShapeFor shape p.network
  pub placing : IsPlacing shape.tree p
  pub right : (i : ℕ) → is_input shape.tree k receiver i ≡ true → IsRightIn plus shape p i k (message_in upward downward i k)

-- ---- the core of a clique

-- clique k's table has what is placed there
pub record IsPlacedIn (shape : ShapeOf) (p : Placing) (k : ℕ) (table : TableOf) : Type 0 where
  pub shape_is : IsShapeFor shape p.network
  pub placing : IsPlacing shape.tree p
  pub cells : HasCells table (clique_scope shape k) (placed_there p k) (factors_in p k) (factors_in p k) (ratios_in p k) (IsCommon p)

-- once the clique's table was multiplied by a ratio, another table over its core has the sums with it, where the one before had those without
abbrev pub IsFollowed : (ℕ → ℕ → ℕ) → ShapeOf → ℕ → TradeRatio → TableOf → TableOf → TableOf → Type 0
IsFollowed plus shape k ratio table before after =
    (p : Placing) → IsPlacedFactor p.network shape.tree (record { clique = k; factor = RatioOf ratio }) → IsPlacedIn shape (with_factor_in k (RatioOf ratio) p) k table
    → HasSums plus shape p k before → HasSums plus shape (with_factor_in k (RatioOf ratio) p) k after

-- ---- a product of messages over a core

-- that of the messages of those listed that are taken
abbrev pub gathered : (ℕ → ℕ → ℕ) → GivenTree → Placing → ℕ → Option ℕ → List ℕ → (ℕ → ℕ) → ℕ
gathered plus tree p k receiver listed a = product_by (λ i. if is_taken receiver i then exact_message plus tree p i k a else 1) listed

-- the steps that this costs: for each message its own and one more
abbrev pub gathered_steps : GivenTree → Placing → ℕ → Option ℕ → List ℕ → ℕ
gathered_steps tree p k receiver listed = sum_by (λ i. if is_taken receiver i then 3 * exact_message_grade tree p i k + 1 else 0) listed

-- the number of factors in it, at most
abbrev pub gathered_factors : GivenTree → Placing → ℕ → Option ℕ → List ℕ → ℕ
gathered_factors tree p k receiver listed = sum_by (λ i. if is_taken receiver i then exact_message_grade tree p i k else 0) listed

-- the number of ratios in it
abbrev pub gathered_ratios : GivenTree → Placing → ℕ → Option ℕ → List ℕ → ℕ
gathered_ratios tree p k receiver listed = sum_by (λ i. if is_taken receiver i then message_ratios tree p i k else 0) listed

-- a table has it
pub record HasGathered (plus : ℕ → ℕ → ℕ) (shape : ShapeOf) (k : ℕ) (receiver : Option ℕ) (listed : List ℕ) (table : TableOf) (p : Placing) : Type 0 where
  pub cells : HasCells table (core_scope shape k) (gathered plus shape.tree p k receiver listed) (gathered_steps shape.tree p k receiver listed) (gathered_factors shape.tree p k receiver listed) (gathered_ratios shape.tree p k receiver listed) (IsCommon p)
  pub full : length table.digits ≡ cells_in table.scope

-- a table has it for the first so many neighbours; while the first message that is taken is still to come, the table may have anything
pub record IsGathering (plus : ℕ → ℕ → ℕ) (shape : ShapeOf) (upward downward : List TableOf) (k : ℕ) (receiver : Option ℕ) (passed : ℕ) (first : Bool) (t : TableOf) : Type 0 where
  pub scope : t.scope ≡ core_scope shape k
  pub none : first ≡ true → list_any (is_taken receiver) (take passed (neighbours shape.tree k)) ≡ false
  pub has : first ≡ false → (p : Placing) → CanTake plus shape upward downward k receiver p → HasGathered plus shape k receiver (take passed (neighbours shape.tree k)) t p

-- a table that was over a core has in each cell the cell of a message with its values
pub record IsMessageAlone (message before after : TableOf) : Type 0 where
  pub scope : after.scope ≡ before.scope
  pub shift : after.shift ≡ message.shift
  pub full : length after.digits ≡ cells_in after.scope
  pub numbers : (g : ℕ → ℕ) (q : ℕ) → HasNumbers message g q → HasNumbers after (λ c. g (cell_in message.scope before.scope c)) q
  pub touched : after.touched ≡ message.touched

-- it has in each cell what was there times that
pub record IsTimesMessage (message before after : TableOf) : Type 0 where
  pub scope : after.scope ≡ before.scope
  pub shift : after.shift ≡ before.shift + message.shift
  pub full : length after.digits ≡ cells_in after.scope
  pub numbers : (f g : ℕ → ℕ) (n q : ℕ) → HasNumbers before f n → HasNumbers message g q → HasNumbers after (λ c. f c * g (cell_in message.scope before.scope c)) (n + q + 1)
  pub touched : KeepsPairs before.scope before.touched message.touched after.touched

-- a table has the messages of all neighbours, or of all but a receiver
pub record HasInto (plus : ℕ → ℕ → ℕ) (shape : ShapeOf) (upward downward : List TableOf) (k : ℕ) (receiver : Option ℕ) (t : TableOf) : Type 0 where
  pub into : (p : Placing) → CanTake plus shape upward downward k receiver p → HasGathered plus shape k receiver (neighbours shape.tree k) t p

-- it has those that a mark tells of
abbrev pub HasMarked : (ℕ → ℕ → ℕ) → ShapeOf → List TableOf → List TableOf → ℕ → Gathered → TableOf → Type 0
HasMarked plus shape upward downward k Nothing t = ⊤
HasMarked plus shape upward downward k Everything t = HasInto plus shape upward downward k None t
HasMarked plus shape upward downward k (AllBut i) t = (are_linked shape.tree i k ≡ true) × HasInto plus shape upward downward k (Some i) t

-- a mark tells of the messages of all neighbours but one
abbrev pub leaves_out : ℕ → Gathered → Bool
leaves_out neighbour Nothing = false
leaves_out neighbour Everything = false
leaves_out neighbour (AllBut i) = i == neighbour

-- what a mark still tells once the message of a neighbour is made anew
abbrev pub still_marked : ℕ → Gathered → Gathered
still_marked neighbour mark = if leaves_out neighbour mark then mark else Nothing

-- ---- what a clique sends

-- clique a has it for b: what is placed there, summed over its core, and, where it has other neighbours, the product of their messages
pub record HasOutgoing (plus : ℕ → ℕ → ℕ) (shape : ShapeOf) (a b : ℕ) (core product : TableOf) (p : Placing) : Type 0 where
  pub shape_is : IsShapeFor shape p.network
  pub placing : IsPlacing shape.tree p
  pub split : cells_in (core_scope shape a) * cells_beside (core_scope shape a) (clique_scope shape a) ≡ cells_in (clique_scope shape a)
  pub sums : HasSums plus shape p a core
  pub others : 1 < length (neighbours shape.tree a) → HasGathered plus shape a (Some b) (neighbours shape.tree a) product p

-- a table that was over some of the variables of another has in each cell the plus of the other's cells with its values
pub record IsMargin (plus : ℕ → ℕ → ℕ) (whole before after : TableOf) : Type 0 where
  pub scope : after.scope ≡ before.scope
  pub shift : after.shift ≡ whole.shift
  pub full : length after.digits ≡ cells_in after.scope
  pub beside : cells_in before.scope * cells_beside before.scope whole.scope ≡ cells_in whole.scope
  pub numbers : (f : ℕ → ℕ) (n : ℕ) → HasNumbers whole f n
      → HasNumbers after (λ d. plus_over plus 0 f (cells_onto before.scope whole.scope d)) (n + (2 * cells_beside before.scope whole.scope - 1))
  pub touched : KeepsPairs before.scope whole.touched None after.touched

-- one that was over some of the variables of two others, which are over the same, has in each cell the plus of the products of the others' cells with its values
pub record IsMarginOfProduct (plus : ℕ → ℕ → ℕ) (core product before after : TableOf) : Type 0 where
  pub scope : after.scope ≡ before.scope
  pub shift : after.shift ≡ core.shift + product.shift
  pub full : length after.digits ≡ cells_in after.scope
  pub beside : cells_in before.scope * cells_beside before.scope core.scope ≡ cells_in core.scope
  pub numbers : (f g : ℕ → ℕ) (n q : ℕ) → HasNumbers core f n → HasNumbers product g q
      → HasNumbers after (λ d. plus_over plus 0 (λ c. f c * g (cell_in product.scope core.scope c)) (cells_onto before.scope core.scope d)) (n + q + (2 * cells_beside before.scope core.scope + 1))
  pub touched : KeepsPairs before.scope core.touched product.touched after.touched
