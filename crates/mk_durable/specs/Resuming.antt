-- The faults of taking records back and of an opening, and what each says. A market that is named
-- beside a file or a list of records is its file's.
use Rattle.std.specs.Prelude.{◌≡◌, ℕ, List, [], length, Option}
use Rattle.mk_disk.specs.Disk.{Rose}
use Rattle.mk_exact.specs.History.{Entry}
use Rattle.mk_exact.specs.Market.{Market}
use Rattle.mk_journal.specs.Store.{IsForeign}
use Rattle.mk_journal.specs.Keepers.{StoreOf, IsHeld}
use Rattle.mk_journal.specs.declared.open.OpenFault.{OpenFault}
use Rattle.mk_journal.specs.declared.open.OpenFault.TheVariants.{Disk as DiskOpened}
use Rattle.mk_journal.specs.declared.open.OpenFault.TheVariants.{Foreign as ForeignOpened}
use Rattle.mk_journal.specs.declared.open.OpenFault.TheVariants.{Memory as MemoryOpened}
use Rattle.mk_market.specs.declared.restoring.RestoreFault.{RestoreFault}
use Rattle.mk_market.specs.declared.restoring.RestoreFault.TheVariants.{Unfit as UnfitChange}
use Rattle.mk_market.specs.declared.restoring.RestoreFault.TheVariants.{Memory as MemoryChange}
use Rattle.mk_durable.specs.declared.fault.RecordFault.{RecordFault}
use Rattle.mk_durable.specs.declared.fault.RecordFault.TheVariants.{Unfit as UnfitRecord}
use Rattle.mk_durable.specs.declared.fault.RecordFault.TheVariants.{Memory as MemoryRecord}
use Rattle.mk_durable.specs.declared.fault.StoreFault.{StoreFault}
use Rattle.mk_durable.specs.declared.fault.StoreFault.TheVariants.{Foreign, Unfit}
use Rattle.mk_durable.specs.declared.fault.ResumeFault.{ResumeFault}
use Rattle.mk_durable.specs.declared.fault.ResumeFault.TheVariants.{Disk, Refused, Memory}
use Rattle.mk_durable.specs.Recovery.{GivesBack, IsFirstUnfit, IsBadAt}

-- the fault of the record of this number
abbrev pub fault_at : RestoreFault → ℕ → RecordFault
fault_at UnfitChange number = UnfitRecord number
fault_at MemoryChange number = MemoryRecord

-- why records are not all taken back: memory is wanting for any
abbrev pub IsRecordFault : Market → List Entry → List (List ℕ) → RecordFault → Type 0
IsRecordFault market old records (UnfitRecord number) = IsFirstUnfit market old records number
IsRecordFault market old records MemoryRecord = Unit {0}

-- why a store is refused: what its file is to the market
abbrev pub IsStoreFault : Market → List ℕ → List ℕ → StoreFault → Type 0
IsStoreFault market bytes file (Foreign at) = IsForeign bytes file at
IsStoreFault market bytes file (Unfit number) = IsBadAt market bytes file number

-- the fault of an opening, by that of its store or of its records
abbrev pub of_open : OpenFault → ResumeFault
of_open DiskOpened = Disk
of_open (ForeignOpened at) = Refused (Foreign at)
of_open MemoryOpened = Memory

abbrev pub of_records : RecordFault → ResumeFault
of_records (UnfitRecord number) = Refused (Unfit number)
of_records MemoryRecord = Memory

-- a fault of the disk shows in its count, and no other fault does
abbrev pub IsCounted : ℕ → ℕ → ResumeFault → Type 0
IsCounted before now Disk = Rose before now
IsCounted before now (Refused fault) = now ≡ before
IsCounted before now Memory = now ≡ before

-- a refusal by what the file is to the market
abbrev pub IsRefused : Market → List ℕ → List ℕ → ResumeFault → Type 0
IsRefused market bytes file Disk = Unit {0}
IsRefused market bytes file (Refused fault) = IsStoreFault market bytes file fault
IsRefused market bytes file Memory = Unit {0}

-- what is said where the store is another's
abbrev pub IfForeign : ResumeFault → Type 0 → Type 0
IfForeign (Refused (Foreign at)) P = P
IfForeign (Refused (Unfit number)) P = Unit {0}
IfForeign Disk P = Unit {0}
IfForeign Memory P = Unit {0}

-- a market was resumed from a file: it stands at the history that the file gives back, and the
-- store durably holds the records that give it, of which there are so many
pub record IsResumed (market : Market) (bytes file : List ℕ) (history : List Entry)
    (now : Option (List ℕ)) (may_leave : List ℕ → Type 0) (store : StoreOf)
    (count : ℕ) : Type 0 where
  pub records : List (List ℕ)
  pub gives : GivesBack market bytes file records history
  pub number : count ≡ length records
  pub held : IsHeld now may_leave store bytes records []
