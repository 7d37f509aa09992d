-- What a keeper of changes holds.
use Rattle.std.specs.Prelude.{◌≡◌, ℕ, ◌+◌, ◌*◌, ◌^◌, ◌<◌, ◌≤◌, Bool, List, ◌++◌, length, Option, IfSome, IsTrue}
use Rattle.mk_journal.specs.Store.{AreRecords, opened}
use Rattle.mk_journal.specs.Kept.{IsSettled}

-- the place of the closed gate, and the bytes that wait behind it
pub record StoreOf : Type 0 where
  pub gate : ℕ
  pub waiting : List ℕ

-- these changes are held: some are kept, at least so many, and the others wait
pub record Holds (holds : List (List ℕ) → List (List ℕ) → Type 0) (least : ℕ) (all : List (List ℕ)) : Type 0 where
  pub kept : List (List ℕ)
  pub waiting : List (List ℕ)
  pub no_fewer : least ≤ length kept
  pub parts : all ≡ kept ++ waiting
  pub held : holds kept waiting

-- a file is open, and the closed gate lies in it, no farther on than a header and so many changes may have carried it
pub record IsReady (is_open : Bool) (file : Option (List ℕ)) (store : StoreOf) (count : ℕ) : Type 0 where
  pub open_file : IsTrue is_open
  pub place : IfSome file (λ f. store.gate < length f)
  pub near : store.gate + length store.waiting ≤ 2 ^ 23 + 34005 * count

-- the file durably holds these changes, and those wait
pub record IsHeld (file : Option (List ℕ)) (may_leave : List ℕ → Type 0) (store : StoreOf) (market : List ℕ) (kept waiting : List (List ℕ)) : Type 0 where
  pub settled : IsSettled file may_leave market kept store.gate
  pub bytes : store.waiting ≡ opened waiting
  pub are : AreRecords waiting
