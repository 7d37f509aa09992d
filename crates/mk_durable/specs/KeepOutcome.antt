-- What each status says of a run whose changes are kept in a store, and what a crash leaves of it.
use Rattle.std.specs.Prelude.{◌≡◌, ℕ, List, ◌++◌, length, codes, decimal, Option, Some, Result}
use Rattle.std.specs.Prelude.{Ok, Err, ◌⊎◌}
use Rattle.mk_io.specs.declared.status.Status.{Status}
use Rattle.mk_io.specs.declared.status.Status.TheVariants.{Done, Usage, MarketRefused, ReadFault}
use Rattle.mk_io.specs.declared.status.Status.TheVariants.{WriteFault, Memory, TooMany}
use Rattle.mk_io.specs.declared.status.Status.TheVariants.{DiskFault, StoreRefused}
use Rattle.mk_exact.specs.Market.{Market, present}
use Rattle.mk_exact.specs.History.{Entry}
use Rattle.mk_file.specs.declared.fault.FileFault.{FileFault}
use Rattle.mk_file.specs.File.{file_of}
use Rattle.mk_rules.specs.Standings.{Stands}
use Rattle.mk_journal.specs.Store.{StandsFor}
use Rattle.mk_journal.specs.Market.{IsFront}
use Rattle.mk_session.specs.Texts.{as_line}
use Rattle.mk_session.specs.Transcript.{resumed}
use Rattle.mk_session.specs.Left.{IsLeft, LeavesSince}
use Rattle.mk_session.specs.Outcome.{Adds, IsFrontOf, IsUnanswered, Serves, Refuses, NotOpened}
use Rattle.mk_durable.specs.declared.fault.StoreFault.{StoreFault}
use Rattle.mk_durable.specs.declared.fault.StoreFault.TheVariants.{Foreign, Unfit}
use Rattle.mk_durable.specs.Recovery.{GivesBack, IsHonest}
use Rattle.mk_durable.specs.Resuming.{IsStoreFault}

-- the one line of a refused store
abbrev pub store_fault_text : StoreFault → List ℕ
store_fault_text (Foreign at) = codes "refused store foreign " ++ decimal at
store_fault_text (Unfit number) = codes "refused store record " ++ decimal number

abbrev pub store_fault_line : StoreFault → List ℕ
store_fault_line fault = as_line (store_fault_text fault)

-- what is written of a refused store: its one line, or a front of it where writing fails
abbrev pub RefusesStore : Status → StoreFault → List ℕ → Type 0
RefusesStore StoreRefused fault output = output ≡ store_fault_line fault
RefusesStore WriteFault fault output = IsFrontOf (store_fault_line fault) output
RefusesStore Done fault output = ⊥
RefusesStore Usage fault output = ⊥
RefusesStore MarketRefused fault output = ⊥
RefusesStore ReadFault fault output = ⊥
RefusesStore Memory fault output = ⊥
RefusesStore TooMany fault output = ⊥
RefusesStore DiskFault fault output = ⊥

-- memory was wanting, or the disk failed, before the store was opened: nothing was written, and no
-- command was read
abbrev pub StopsBefore : Status → List ℕ → List ℕ → List ℕ → Type 0
StopsBefore Memory all rest output = IsUnanswered all rest output
StopsBefore DiskFault all rest output = IsUnanswered all rest output
StopsBefore Done all rest output = ⊥
StopsBefore Usage all rest output = ⊥
StopsBefore MarketRefused all rest output = ⊥
StopsBefore ReadFault all rest output = ⊥
StopsBefore WriteFault all rest output = ⊥
StopsBefore TooMany all rest output = ⊥
StopsBefore StoreRefused all rest output = ⊥

-- the store is refused for what it is to the market, and no command is read
pub record IsStoreRefused (status : Status) (market : Market)
    (file stored all rest output : List ℕ) : Type 0 where
  pub fault : StoreFault
  pub cause : IsStoreFault market file stored fault
  pub line : RefusesStore status fault output
  pub unread : rest ≡ all

-- the store gives a history back, and the run goes on from there
pub record IsCarriedOn (status : Status) (market : Market)
    (file stored all rest output : List ℕ) : Type 0 where
  pub records : List (List ℕ)
  pub history : List Entry
  pub gives : GivesBack market file stored records history
  pub serves : Serves status (resumed market history) all rest output

-- the run of an accepted file over a store, or of a refused file, of which no command is read
abbrev pub EndsKeep : Status → Result Market FileFault → List ℕ → List ℕ → List ℕ → List ℕ → List ℕ
    → Type 0
EndsKeep status (Ok market) file stored all rest output =
    StopsBefore status all rest output
    ⊎ (IsStoreRefused status market file stored all rest output
    ⊎ IsCarriedOn status market file stored all rest output)
EndsKeep status (Err fault) file stored all rest output = Refuses status fault output × (rest ≡ all)

-- the market file was read: the run ends by the market or the fault that it gives
pub record OpenedKeep (status : Status) (given : Result Market FileFault)
    (file stored all : List ℕ) (source before written : Option (List ℕ)) : Type 0 where
  pub rest : List ℕ
  pub told : source ≡ Some rest
  pub output : Adds before written (EndsKeep status given file stored all rest)

-- a whole run over the bytes of a market file, those of a store, and all bytes of the commands
abbrev pub KeepOutcome : Status → List ℕ → List ℕ → List ℕ → Option (List ℕ) → Option (List ℕ)
    → Option (List ℕ) → Type 0
KeepOutcome status file stored all source before written =
    NotOpened status all source before written
    ⊎ OpenedKeep status (file_of file) file stored all source before written

-- whatever history a store gives back to a market, it stands
abbrev pub GivesSound : Market → List ℕ → List ℕ → Type 0
GivesSound market file stored = (records : List (List ℕ)) (history : List Entry)
    → GivesBack market file stored records history → Stands (present market history) history

-- so it is for the market of a file, if that has one
abbrev pub IsSoundStore : List ℕ → List ℕ → Type 0
IsSoundStore file stored = (market : Market) → file_of file ≡ Ok market
    → GivesSound market file stored

-- a store is an honest file to the market of a file, if that has one
abbrev pub IsHonestStore : List ℕ → List ℕ → Type 0
IsHonestStore file stored = (market : Market) → file_of file ≡ Ok market
    → IsHonest market file stored

-- each image that a crash leaves of a store is
abbrev pub AreHonest : List ℕ → (List ℕ → Type 0) → Type 0
AreHonest file images = (c : List ℕ) → images c → IsHonestStore file c

-- a file stands for the same records as one that a crash could have left before
pub record StandsAlike (file : List ℕ) (before : List ℕ → Type 0) (c : List ℕ) : Type 0 where
  pub other : List ℕ
  pub was : before other
  pub records : List (List ℕ)
  pub one : StandsFor file records other
  pub both : StandsFor file records c

-- it is one of those, or stands for the records of one
abbrev pub IsAsBefore : List ℕ → (List ℕ → Type 0) → List ℕ → Type 0
IsAsBefore file before c = before c ⊎ StandsAlike file before c

-- the store was opened: a crash behind the run leaves a front of the records that it stood for and
-- of those of the run's changes, with all of the former and with each whose reply stands whole in
-- the output; and so, but for the latter, does a crash at each moment, unless it is as before
pub record IsKept (market : Market) (file stored all : List ℕ) (before written : Option (List ℕ))
    (images images_now : List ℕ → Type 0) (at_each_moment : (List ℕ → Type 0) → Type 0)
    : Type 0 where
  pub records : List (List ℕ)
  pub history : List Entry
  pub gives : GivesBack market file stored records history
  pub left : IsLeft (resumed market history) all before written records
      (LeavesSince
      (λ together least. (c : List ℕ) → images_now c → IsFront file together least c)
      (λ together least. at_each_moment
      (λ c. IsAsBefore file images c ⊎ IsFront file together least c))
      (length records))

-- what a crash leaves of a run's store, behind the run and at each moment since it began. Of a
-- refused market file it is what it was. Of an accepted one either nothing was written, and at each
-- moment it is as before; or all that was told is kept
abbrev pub KeepsChanges : Result Market FileFault → List ℕ → List ℕ → List ℕ → Option (List ℕ)
    → Option (List ℕ) → (List ℕ → Type 0) → (List ℕ → Type 0) → ((List ℕ → Type 0) → Type 0)
    → Type 0
KeepsChanges (Ok market) file stored all before written images images_now at_each_moment =
    ((written ≡ before) × at_each_moment (IsAsBefore file images))
    ⊎ IsKept market file stored all before written images images_now at_each_moment
KeepsChanges (Err fault) file stored all before written images images_now at_each_moment =
    at_each_moment images
