-- Trees of cliques as they are given. Cliques are numbered from 1, and each after the first has a link to an earlier one.
use Rattle.std.specs.Prelude.{◌≡◌, ℕ, ◌+◌, ◌-◌, ◌<◌, ◌≤◌, List, length, All, Bool, true, Option, option_map, slice_index, slice_index_or, position}
use Rattle.std.specs.List.{list_all}
use Rattle.mk_net.specs.declared.words.Pair.{Pair}
use Rattle.mk_sets.specs.Sets.{VarSet, is_member, no_variables}
use Rattle.mk_net.specs.Bounds.{max_variables, max_cliques}
use Rattle.mk_net.specs.Network.{Variable}
use Rattle.mk_sums.specs.Trees.{Links, Joined}

-- the cliques in order, and the link of each after the first
pub record GivenTree : Type 0 where
  pub cliques : List VarSet
  pub links : List ℕ

-- clique number k
abbrev pub clique_at : GivenTree → ℕ → VarSet
clique_at t k = slice_index_or t.cliques (k - 1) no_variables

-- whether clique k holds a variable
abbrev pub holds : GivenTree → ℕ → ℕ → Bool
holds t k x = is_member (clique_at t k) x

-- the clique to which clique k is linked
abbrev pub link_of : GivenTree → ℕ → ℕ
link_of t k = slice_index t.links (k - 2)

-- cliques of a tree: those of a file, and one for each question that is added later to at least one
-- variable
abbrev pub max_tree_cliques : ℕ
max_tree_cliques = max_cliques + (max_variables - 1)

-- 1 to 511 cliques, each after the first with its link to an earlier one
pub record AreLinked (t : GivenTree) : Type 0 where
  pub some : 1 ≤ length t.cliques
  pub few : length t.cliques ≤ max_tree_cliques
  pub one_link_each : length t.links + 1 ≡ length t.cliques
  pub earlier : Links (link_of t) (length t.cliques)

-- the cliques hold variables of the network alone
abbrev pub AreOfNetwork : List Variable → List VarSet → Type 0
AreOfNetwork network cliques = All (λ (set : VarSet). (x : ℕ) → is_member set x ≡ true → x < length network) cliques

-- the cliques that hold the variable are joined by links whose both ends hold it
abbrev pub IsConnected : GivenTree → ℕ → Type 0
IsConnected t x = (i j : ℕ) → 1 ≤ i → i ≤ length t.cliques → 1 ≤ j → j ≤ length t.cliques
    → holds t i x ≡ true → holds t j x ≡ true → Joined (link_of t) (length t.cliques) (holds t) x i j

-- a clique holds each variable of an event
abbrev pub holds_event : List Pair → VarSet → Bool
holds_event event set = list_all (λ (p : Pair). is_member set p.variable) event

-- the first clique that holds an event
abbrev pub home : GivenTree → List Pair → Option ℕ
home t event = option_map (λ (k : ℕ). k + 1) (position (holds_event event) t.cliques)
