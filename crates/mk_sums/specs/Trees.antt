-- Trees of cliques, and the exact messages in them. The cliques are numbered from 1, and each after the first is linked to an earlier one.
use Rattle.std.specs.Prelude.{◌≡◌, ℕ, zero, suc, ◌+◌, ◌-◌, ◌*◌, ◌<◌, ◌≤◌, Bool, true, false, cond, not, ◌&&◌, ◌||◌, ◌==◌, nat_lt, nat_le, List, [], ◌∷◌}
use Rattle.mk_sums.specs.Sums.{over, Within, listed}

-- the product of what is placed in the cliques 1 to m of a set
abbrev pub times_of : (ℕ → Bool) → ℕ → (ℕ → (ℕ → ℕ) → ℕ) → (ℕ → ℕ) → ℕ
times_of set zero placed a = 1
times_of set (suc k) placed a = times_of set k placed a * cond (set (suc k)) (placed (suc k) a) 1

-- one of the cliques 1 to m of a set holds the variable
abbrev pub held : (ℕ → Bool) → ℕ → (ℕ → ℕ → Bool) → ℕ → Bool
held set zero clique x = false
held set (suc k) clique x = held set k clique x || (set (suc k) && clique (suc k) x)

-- each clique after the first is linked to an earlier one
abbrev pub Links : (ℕ → ℕ) → ℕ → Type 0
Links link m = (k : ℕ) → 1 < k → k ≤ m → (1 ≤ link k) × (link k < k)

-- two of the cliques 1 to m are linked
abbrev pub linked : (ℕ → ℕ) → ℕ → ℕ → ℕ → Bool
linked link m a b = (nat_lt 1 a && nat_le a m && (link a == b)) || (nat_lt 1 b && nat_le b m && (link b == a))

-- the first clique on the way from a to another clique j
abbrev pub hop : (ℕ → ℕ) → ℕ → ℕ → ℕ → ℕ
hop link zero a j = 0
hop link (suc k) a j =
    cond (j == suc k)
    (cond (a == link (suc k)) (suc k) (hop link k a (link (suc k))))
    (cond (a == suc k) (link (suc k)) (hop link k a j))

-- j lies on a's side of the link between a and b: the way from b to j begins with a
abbrev pub behind : (ℕ → ℕ) → ℕ → ℕ → ℕ → ℕ → Bool
behind link m a b j = not (j == b) && (hop link m b j == a)

-- two cliques are joined by links whose both ends hold the variable
pub data Joined (link : ℕ → ℕ) (m : ℕ) (clique : ℕ → ℕ → Bool) (x : ℕ) : ℕ → ℕ → Type 0 where
  here : {j : ℕ} → Joined link m clique x j j
  step : {i j k : ℕ} → linked link m i j ≡ true → clique i x ≡ true → clique j x ≡ true → Joined link m clique x j k → Joined link m clique x i k

-- running intersection: the cliques that hold a variable are joined through cliques that hold it
abbrev pub Running : (ℕ → ℕ) → ℕ → (ℕ → ℕ → Bool) → Type 0
Running link m clique =
    (x i j : ℕ) → 1 ≤ i → i ≤ m → 1 ≤ j → j ≤ m → clique i x ≡ true → clique j x ≡ true → Joined link m clique x i j

-- a clique that holds the variable, and is the first or is linked to an earlier one that does not
pub record IsTop (link : ℕ → ℕ) (m : ℕ) (clique : ℕ → ℕ → Bool) (x k : ℕ) : Type 0 where
  pub first : 1 ≤ k
  pub last : k ≤ m
  pub holds : clique k x ≡ true
  pub above : 1 < k → clique (link k) x ≡ false

-- each variable has at most one top
abbrev pub OneTop : (ℕ → ℕ) → ℕ → (ℕ → ℕ → Bool) → Type 0
OneTop link m clique = (x j k : ℕ) → IsTop link m clique x j → IsTop link m clique x k → j ≡ k

-- a tree with running intersection, whose cliques hold what is placed in them
pub record IsTree (link : ℕ → ℕ) (m : ℕ) (clique : ℕ → ℕ → Bool) (placed : ℕ → (ℕ → ℕ) → ℕ) : Type 0 where
  pub links : Links link m
  pub running : Running link m clique
  pub fits : (k : ℕ) → 1 ≤ k → k ≤ m → Within (clique k) (placed k)

-- the plus, over the variables of the set's cliques that are not kept, of the product of what is placed in these cliques
abbrev pub side_sum : (ℕ → ℕ → ℕ) → (ℕ → ℕ) → List ℕ → (ℕ → ℕ → Bool) → (ℕ → (ℕ → ℕ) → ℕ) → ℕ → (ℕ → Bool) → (ℕ → Bool) → (ℕ → ℕ) → ℕ
side_sum plus size vars clique placed m set keep = over plus size (λ x. held set m clique x && not (keep x)) vars (times_of set m placed)

-- the exact message from c to the linked clique a: the plus, over the variables of c's side outside their separator, of what is placed on that side
abbrev pub right_message : (ℕ → ℕ → ℕ) → (ℕ → ℕ) → List ℕ → (ℕ → ℕ → Bool) → (ℕ → (ℕ → ℕ) → ℕ) → (ℕ → ℕ) → ℕ → ℕ → ℕ → (ℕ → ℕ) → ℕ
right_message plus size vars clique placed link m c a =
    side_sum plus size vars clique placed m (behind link m c a) (λ x. clique c x && clique a x)

-- c is linked to a
abbrev pub linked_to : (ℕ → ℕ) → ℕ → ℕ → ℕ → Bool
linked_to link m a c = linked link m c a

-- c is linked to a and is not b
abbrev pub linked_but : (ℕ → ℕ) → ℕ → ℕ → ℕ → ℕ → Bool
linked_but link m a b c = linked link m c a && not (c == b)

-- the plus, over all states, of an event's factor and of everything placed
abbrev pub joint_at : (ℕ → ℕ → ℕ) → (ℕ → ℕ) → List ℕ → (ℕ → (ℕ → ℕ) → ℕ) → ℕ → ((ℕ → ℕ) → ℕ) → (ℕ → ℕ) → ℕ
joint_at plus size vars placed m event = over plus size (λ x. true) vars (λ s. event s * times_of (λ j. true) m placed s)

-- each variable that is listed lies in a clique
abbrev pub Covers : ℕ → (ℕ → ℕ → Bool) → List ℕ → Type 0
Covers m clique vars = (x : ℕ) → listed vars x ≡ true → held (λ j. true) m clique x ≡ true

-- the next clique on the way from k to c: to it leads k's message towards c
abbrev pub towards : (ℕ → ℕ) → ℕ → ℕ → ℕ → ℕ
towards link m c k = hop link m k c

-- the sum of a number for each clique 1 to m of a set
abbrev pub sum_of : (ℕ → Bool) → ℕ → (ℕ → ℕ) → ℕ
sum_of set zero w = 0
sum_of set (suc k) w = sum_of set k w + cond (set (suc k)) (w (suc k)) 0

-- the bound on the grade of the message from c to a: what is placed on c's side, the cells there, and 2 for each link within it
abbrev pub message_grade : (ℕ → ℕ) → (ℕ → ℕ) → (ℕ → ℕ) → ℕ → ℕ → ℕ → ℕ
message_grade placed_number cell_number link m c a =
    sum_of (behind link m c a) m (λ j. placed_number j + cell_number j + 2) - 2

-- the cliques on the way from b to c but c itself, at most n of them
abbrev pub way_within : (ℕ → ℕ) → ℕ → ℕ → ℕ → ℕ → List ℕ
way_within link m zero b c = []
way_within link m (suc n) b c = cond (b == c) [] (b ∷ way_within link m n (hop link m b c) c)

-- all of them: as many as there are links between b and c
abbrev pub way : (ℕ → ℕ) → ℕ → ℕ → ℕ → List ℕ
way link m b c = way_within link m m b c

-- the message from k towards c has b on its sender's side
abbrev pub passes : (ℕ → ℕ) → ℕ → ℕ → ℕ → ℕ → Bool
passes link m b c k = not (k == c) && behind link m k (towards link m c k) b
