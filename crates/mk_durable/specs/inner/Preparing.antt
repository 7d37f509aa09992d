-- What stands ready before a store is opened, and how a run ends whose store was not opened.
use Rattle.std.specs.Prelude.{◌≡◌, ℕ, ◌≤◌, List, [], length}
use Rattle.mk_io.specs.declared.status.Status.{Status}
use Rattle.mk_io.specs.declared.status.Status.TheVariants as status
use Rattle.mk_exact.specs.Market.{Market}
use Rattle.mk_journal.specs.Store.{begun}
use Rattle.mk_durable.specs.declared.served.Place.{Place}
use Rattle.mk_durable.specs.declared.fault.ResumeFault.{ResumeFault}
use Rattle.mk_durable.specs.declared.fault.ResumeFault.TheVariants.{Disk, Refused, Memory}
use Rattle.mk_durable.specs.Recovery.{IsHonest}
use Rattle.mk_durable.specs.KeepOutcome.{RefusesStore}

-- a header for these bytes of a market file is there, and no change waits
pub record IsPlace (bytes : List ℕ) (place : Place) : Type 0 where
  pub few : length bytes ≤ 1048576
  pub header : place.header.items ≡ begun bytes
  pub none_waits : place.group ≡ []

-- each image of a store is an honest file to the market of a file
abbrev pub AreHonestTo : Market → List ℕ → (List ℕ → Type 0) → Type 0
AreHonestTo market file images = (c : List ℕ) → images c → IsHonest market file c

-- how a run ends whose store was not opened
abbrev pub Stops : Status → ResumeFault → List ℕ → Type 0
Stops result Disk output = (result ≡ status.DiskFault) × (output ≡ [])
Stops result Memory output = (result ≡ status.Memory) × (output ≡ [])
Stops result (Refused fault) output = RefusesStore result fault output
