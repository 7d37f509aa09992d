-- Where a search of the cliques begins.
use Rattle.std.specs.Prelude.{◌≡◌, ℕ, ◌<◌, List, length, fold, max, slice_index}
use Rattle.std.specs.List.{position_or_len}
use Rattle.mk_net.specs.declared.words.Pair.{Pair}
use Rattle.mk_sets.specs.Sets.{VarSet, is_member}
use Rattle.mk_net.specs.Bounds.{max_variables}

-- the place of the first clique that holds a variable, or the number of cliques where none does
abbrev pub first_holding : List VarSet → ℕ → ℕ
first_holding cliques x = position_or_len (λ (set : VarSet). is_member set x) cliques

-- this place for each variable
pub record AreStarts (cliques : List VarSet) (starts : List ℕ) : Type 0 where
  pub one_each : length starts ≡ max_variables
  pub first : (x : ℕ) → x < max_variables → slice_index starts x ≡ first_holding cliques x

-- the greatest of these places over an event's variables
abbrev pub event_start : List ℕ → List Pair → ℕ
event_start starts event = fold (λ (n : ℕ) (p : Pair). max n (slice_index starts p.variable)) 0 event
