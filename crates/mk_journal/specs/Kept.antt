-- What is told of a file, and what of it is durable.
use Rattle.std.specs.Prelude.{◌≡◌, ◌≢◌, ℕ, ◌+◌, List, ◌∷◌, ◌++◌, length, Option, Some}
use Rattle.mk_disk.specs.Disk.{Only}
use Rattle.mk_journal.specs.Store.{AreRecords, opened, before_gate, begun, IsStarted}

-- a read gives these bytes, and a crash leaves nothing else
pub record IsKept (file : Option (List ℕ)) (may_leave : List ℕ → Type 0) (bytes : List ℕ) : Type 0 where
  pub told : file ≡ Some bytes
  pub only : Only bytes may_leave

-- the file durably holds these records, and this is the place of the closed gate behind them
pub record IsSettled (file : Option (List ℕ)) (may_leave : List ℕ → Type 0) (market : List ℕ) (records : List (List ℕ)) (gate : ℕ) : Type 0 where
  pub bytes : List ℕ
  pub kept : IsKept file may_leave bytes
  pub started : IsStarted market records bytes
  pub place : gate ≡ length market + 17 + length (opened records)

-- the file durably holds these records, and these bytes stand behind the closed gate
pub record IsStaged (file : Option (List ℕ)) (may_leave : List ℕ → Type 0) (market : List ℕ) (records : List (List ℕ)) (gate : ℕ) (body : List ℕ) : Type 0 where
  pub gate_byte : ℕ
  pub rest : List ℕ
  pub closed : gate_byte ≢ 1
  pub are : AreRecords records
  pub kept : IsKept file may_leave (before_gate market records ++ gate_byte ∷ (body ++ rest))
  pub place : gate ≡ length market + 17 + length (opened records)

-- the file durably is one with P
pub record IsDurably (file : Option (List ℕ)) (may_leave : List ℕ → Type 0) (P : List ℕ → Type 0) : Type 0 where
  pub bytes : List ℕ
  pub kept : IsKept file may_leave bytes
  pub is : P bytes

-- a closed gate, this market's header and a closed first gate
pub record IsHeaded (market file : List ℕ) : Type 0 where
  pub gate : ℕ
  pub closed : gate ≢ 1
  pub file_is : file ≡ gate ∷ begun market
