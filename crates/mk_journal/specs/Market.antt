-- A market that is kept: what a crash leaves of its accepted changes.
use Rattle.std.specs.Prelude.{ℕ, ◌≤◌, List, length, take}
use Rattle.mk_journal.specs.Store.{IsStarted}

-- the file holds the first of these records, at least so many
pub record IsFront (market : List ℕ) (all : List (List ℕ)) (least : ℕ) (file : List ℕ) : Type 0 where
  pub count : ℕ
  pub enough : least ≤ count
  pub within : count ≤ length all
  pub started : IsStarted market (take count all) file
