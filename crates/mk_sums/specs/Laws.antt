-- The laws of the tree. Each is the contract of a function of this crate, and so proved.
use Rattle.std.specs.Prelude.{◌≡◌, ◌≢◌, ℕ, ◌+◌, ◌*◌, ◌<◌, ◌≤◌, Bool, true, false, cond, not, ◌&&◌, ◌↔◌, List, [], ◌++◌, map, length, slice_index, All}
use Rattle.mk_net.specs.declared.words.Pair.{Pair}
use Rattle.mk_states.specs.States.{states, plus_over, product_by}
use Rattle.mk_states.specs.InitialWeight.{value_at}
use Rattle.mk_states.specs.Lawful.{Lawful}
use Rattle.mk_sums.specs.Lawful.{lesser_present}
use Rattle.mk_sums.specs.Sums.{plus_below, over, Within, listed}
use Rattle.mk_sums.specs.Trees.{times_of, held, Links, linked, hop, behind, Running, OneTop, IsTree, right_message, linked_to, linked_but, joint_at, Covers, towards, sum_of, message_grade, way, passes}
use Rattle.mk_sums.specs.Cells.{keep, cells, cell_of, place, Apart, InRange}
use Rattle.mk_sums.specs.Joint.{joint, where_has, where_holds, Item, placed_in, IsItem, variables}

-- a message is the plus, over what its sender does not share with its receiver, of what is placed in the sender times the messages from its other neighbours
abbrev pub MessageLaw : Type 0
MessageLaw = (plus : ℕ → ℕ → ℕ) (size : ℕ → ℕ) (vars : List ℕ) (clique : ℕ → ℕ → Bool) (placed : ℕ → (ℕ → ℕ) → ℕ) (link : ℕ → ℕ) (m : ℕ)
    → Lawful plus → IsTree link m clique placed → (a b : ℕ) → linked link m a b ≡ true → (s : ℕ → ℕ)
    → right_message plus size vars clique placed link m a b s
    ≡ over plus size (λ x. clique a x && not (clique b x)) vars
    (λ t. placed a t * times_of (linked_but link m a b) m (λ i. right_message plus size vars clique placed link m i a) t) s

-- the joint value of an event is read in any clique that holds the event, from what is placed there times the messages from all its neighbours
abbrev pub ReadLaw : Type 0
ReadLaw = (plus : ℕ → ℕ → ℕ) (size : ℕ → ℕ) (vars : List ℕ) (clique : ℕ → ℕ → Bool) (placed : ℕ → (ℕ → ℕ) → ℕ) (link : ℕ → ℕ) (m : ℕ)
    → Lawful plus → IsTree link m clique placed → Covers m clique vars → (a : ℕ) → 1 ≤ a → a ≤ m
    → (event : (ℕ → ℕ) → ℕ) → Within (clique a) event → (s : ℕ → ℕ)
    → joint_at plus size vars placed m event s
    ≡ over plus size (clique a) vars
    (λ t. event t * (placed a t * times_of (linked_to link m a) m (λ i. right_message plus size vars clique placed link m i a) t)) s

-- a tree has running intersection exactly where each variable has at most one top
abbrev pub RunningIsOneTop : Type 0
RunningIsOneTop = (link : ℕ → ℕ) (m : ℕ) (clique : ℕ → ℕ → Bool) → Links link m → (Running link m clique ↔ OneTop link m clique)

-- a variable held on both sides of a link is held at both its ends
abbrev pub Separates : Type 0
Separates = (link : ℕ → ℕ) (m : ℕ) (clique : ℕ → ℕ → Bool) → Links link m → Running link m clique
    → (a b : ℕ) → linked link m a b ≡ true → (x : ℕ)
    → held (behind link m a b) m clique x ≡ true → held (behind link m b a) m clique x ≡ true
    → (clique a x ≡ true) × (clique b x ≡ true)

-- each other clique lies behind exactly one neighbour
abbrev pub NeighboursPart : Type 0
NeighboursPart = (link : ℕ → ℕ) (m : ℕ) → Links link m → (a j : ℕ) → 1 ≤ a → a ≤ m → 1 ≤ j → j ≤ m → j ≢ a
    → (linked link m (hop link m a j) a ≡ true)
    × (behind link m (hop link m a j) a j ≡ true)
    × ((c : ℕ) → behind link m c a j ≡ true → c ≡ hop link m a j)

-- a clique lies on exactly one side of a link
abbrev pub TwoSides : Type 0
TwoSides = (link : ℕ → ℕ) (m : ℕ) → Links link m → (a b j : ℕ) → linked link m a b ≡ true → 1 ≤ j → j ≤ m
    → behind link m a b j ≡ not (behind link m b a j)

-- the plus over the list of all states is the nested plus over all variables
abbrev pub StatesNest : Type 0
StatesNest = (plus : ℕ → ℕ → ℕ) → Lawful plus → (sizes : List ℕ) (f : (ℕ → ℕ) → ℕ)
    → plus_over plus 0 (λ s. f (value_at s)) (states sizes) ≡ over plus (slice_index sizes) (λ x. true) (variables sizes) f (λ x. 0)

-- a known pair does what a factor does that is 1 where the pair holds
abbrev pub KnownAreFactors : Type 0
KnownAreFactors = (plus : ℕ → ℕ → ℕ) → Lawful plus → (sizes : List ℕ) (factors : List ((ℕ → ℕ) → ℕ)) (known event : List Pair)
    → joint plus sizes factors known event ≡ joint plus sizes (factors ++ map where_has known) [] event

-- the joint value over the list of all states is read in any clique that holds the event, from what is placed there and the messages of its neighbours
abbrev pub JointIsRead : Type 0
JointIsRead = (plus : ℕ → ℕ → ℕ) (sizes : List ℕ) (clique : ℕ → ℕ → Bool) (items : List Item) (link : ℕ → ℕ) (m : ℕ)
    → Lawful plus → Links link m → Running link m clique → Covers m clique (variables sizes) → All (IsItem m clique) items
    → (a : ℕ) → 1 ≤ a → a ≤ m → (event : List Pair) → All (λ (p : Pair). clique a p.variable ≡ true) event
    → joint plus sizes (map (λ (i : Item). i.value) items) [] event
    ≡ over plus (slice_index sizes) (clique a) (variables sizes)
    (λ t. where_holds event t * (placed_in items a t * times_of (linked_to link m a) m (λ i. right_message plus (slice_index sizes) (variables sizes) clique (placed_in items) link m i a) t)) (λ x. 0)

-- a change of what is placed in one clique leaves each message right whose sender's side does not have this clique
abbrev pub ChangeLeaves : Type 0
ChangeLeaves = (plus : ℕ → ℕ → ℕ) (size : ℕ → ℕ) (vars : List ℕ) (clique : ℕ → ℕ → Bool) (before after : ℕ → (ℕ → ℕ) → ℕ) (link : ℕ → ℕ) (m changed : ℕ)
    → ((j : ℕ) → 1 ≤ j → j ≤ m → j ≢ changed → (s : ℕ → ℕ) → before j s ≡ after j s)
    → (c a : ℕ) → behind link m c a changed ≡ false → (s : ℕ → ℕ)
    → right_message plus size vars clique before link m c a s ≡ right_message plus size vars clique after link m c a s

-- a message that leads towards a clique does not have this clique on its sender's side, and each message that does not have it there leads towards it
abbrev pub LeadsTowards : Type 0
LeadsTowards = (link : ℕ → ℕ) (m : ℕ) → Links link m → (c k : ℕ) → 1 ≤ c → c ≤ m → 1 ≤ k → k ≤ m → k ≢ c
    → (linked link m k (towards link m c k) ≡ true)
    × (behind link m k (towards link m c k) c ≡ false)
    × ((b : ℕ) → linked link m k b ≡ true → behind link m k b c ≡ false → b ≡ towards link m c k)

-- what a message towards a clique is made of leads towards that clique
abbrev pub CollectsInOrder : Type 0
CollectsInOrder = (link : ℕ → ℕ) (m : ℕ) → Links link m → (c k i : ℕ) → 1 ≤ c → c ≤ m → 1 ≤ k → k ≤ m → k ≢ c
    → linked_but link m k (towards link m c k) i ≡ true → (i ≢ c) × (towards link m c i ≡ k)

-- a cell's assignment has this cell, and an assignment in range is that of its cell
abbrev pub CellsInverse : Type 0
CellsInverse = (size : ℕ → ℕ) (xs : List ℕ)
    → (Apart xs → (c : ℕ) (a : ℕ → ℕ) → c < cells size xs → cell_of size xs (place size xs c a) ≡ c)
    × ((a : ℕ → ℕ) → InRange size xs a → (cell_of size xs a < cells size xs) × ((b : ℕ → ℕ) (x : ℕ) → place size xs (cell_of size xs a) b x ≡ cond (listed xs x) (a x) (b x)))

-- the plus over the cells of the variables in the set is the nested plus over these variables
abbrev pub CellsNest : Type 0
CellsNest = (plus : ℕ → ℕ → ℕ) → Lawful plus → (size : ℕ → ℕ) (set : ℕ → Bool) (xs : List ℕ) (f : (ℕ → ℕ) → ℕ) (a : ℕ → ℕ)
    → over plus size set xs f a ≡ plus_below plus (cells size (keep set xs)) (λ c. f (place size (keep set xs) c a))

-- where everything placed is at most a full value of at least 1, no message and no sum over some of the cliques and variables exceeds the sum of the full values' products over all states
abbrev pub SumsBound : Type 0
SumsBound = (plus : ℕ → ℕ → ℕ) (size : ℕ → ℕ) (vars : List ℕ) (placed full : ℕ → (ℕ → ℕ) → ℕ) (m : ℕ) → Lawful plus
    → ((j : ℕ) (t : ℕ → ℕ) → 1 ≤ j → j ≤ m → InRange size vars t → (placed j t ≤ full j t) × (1 ≤ full j t))
    → (variables_of cliques_of : ℕ → Bool) (s : ℕ → ℕ) → InRange size vars s
    → (over plus size variables_of vars (times_of cliques_of m placed) s ≤ over ◌+◌ size variables_of vars (times_of cliques_of m placed) s)
    × (over ◌+◌ size variables_of vars (times_of cliques_of m placed) s ≤ over ◌+◌ size (λ x. true) vars (times_of (λ j. true) m full) s)

-- the grade that a message may have: for each clique of its sender's side what is placed there, its cells and 2, but 2 less since links are one fewer
abbrev pub GradesAdd : Type 0
GradesAdd = (placed_number cell_number : ℕ → ℕ) (link : ℕ → ℕ) (m : ℕ) → Links link m → (a b : ℕ) → linked link m a b ≡ true
    → message_grade placed_number cell_number link m a b
    ≡ placed_number a + cell_number a + sum_of (linked_but link m a b) m (λ i. message_grade placed_number cell_number link m i a + 2)

-- sums, and minima of the values that are present, are lawful
abbrev pub AreLawful : Type 0
AreLawful = Lawful ◌+◌ × Lawful lesser_present

-- a message reads only the variables that its two ends share
abbrev pub MessageReads : Type 0
MessageReads = (plus : ℕ → ℕ → ℕ) (size : ℕ → ℕ) (vars : List ℕ) (clique : ℕ → ℕ → Bool) (placed : ℕ → (ℕ → ℕ) → ℕ) (link : ℕ → ℕ) (m : ℕ)
    → IsTree link m clique placed → ((k x : ℕ) → 1 ≤ k → k ≤ m → clique k x ≡ true → listed vars x ≡ true)
    → (a b : ℕ) → Within (λ x. clique a x && clique b x) (right_message plus size vars clique placed link m a b)

-- the messages from all neighbours together with what is placed in the reading clique and its cells have the grade of all cliques, and 2 for each link
abbrev pub ReadGradesAdd : Type 0
ReadGradesAdd = (placed_number cell_number : ℕ → ℕ) (link : ℕ → ℕ) (m : ℕ) → Links link m → (a : ℕ) → 1 ≤ a → a ≤ m
    → placed_number a + cell_number a + sum_of (linked_to link m a) m (λ i. message_grade placed_number cell_number link m i a + 2) + 2
    ≡ sum_of (λ j. true) m (λ j. placed_number j + cell_number j + 2)

-- where factors are at least 1 and known pairs at most 1, no sum in the tree exceeds the sum, over the list of all states, known or not, of the product of all factors
abbrev pub SmallCase : Type 0
SmallCase = (sizes : List ℕ) (clique : ℕ → ℕ → Bool) (factors known : List Item) (m : ℕ)
    → All (IsItem m clique) factors
    → ((k x : ℕ) → 1 ≤ k → k ≤ m → clique k x ≡ true → listed (variables sizes) x ≡ true)
    → All (λ (i : Item). (t : ℕ → ℕ) → InRange (slice_index sizes) (variables sizes) t → 1 ≤ i.value t) factors
    → All (λ (i : Item). (t : ℕ → ℕ) → i.value t ≤ 1) known
    → (variables_of cliques_of : ℕ → Bool) (s : ℕ → ℕ) → InRange (slice_index sizes) (variables sizes) s
    → over ◌+◌ (slice_index sizes) variables_of (variables sizes) (times_of cliques_of m (placed_in (factors ++ known))) s
    ≤ plus_over ◌+◌ 0 (λ (t : List ℕ). product_by (λ (i : Item). i.value (value_at t)) factors) (states sizes)

-- the messages towards c that a change at b does not leave right are those that the cliques on the way from b to c send, and so as many as links lie between
abbrev pub StaleOnWay : Type 0
StaleOnWay = (link : ℕ → ℕ) (m : ℕ) → Links link m → (b c : ℕ) → 1 ≤ b → b ≤ m → 1 ≤ c → c ≤ m
    → ((k : ℕ) → 1 ≤ k → k ≤ m → passes link m b c k ≡ listed (way link m b c) k)
    × Apart (way link m b c)
    × (sum_of (passes link m b c) m (λ k. 1) ≡ length (way link m b c))
