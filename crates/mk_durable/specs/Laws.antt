-- The laws of what a store file gives back. Each is the contract of a function of this crate, and
-- so proved.
use Rattle.std.specs.Prelude.{◌≡◌, ◌⊎◌, ℕ, ◌≤◌, List, [], ◌++◌, length}
use Rattle.mk_exact.specs.History.{Entry}
use Rattle.mk_exact.specs.Market.{Market, present}
use Rattle.mk_reply.specs.declared.reply.Reply.{Reply}
use Rattle.mk_rules.specs.Standings.{IsMarket, Stands}
use Rattle.mk_rules.specs.Transcript.{Standing, Line, Run}
use Rattle.mk_restore.specs.Restoring.{changes_of}
use Rattle.mk_journal.specs.Store.{IsUnstarted, StandsFor}
use Rattle.mk_journal.specs.Market.{IsFront}
use Rattle.mk_durable.specs.declared.fault.StoreFault.{StoreFault}
use Rattle.mk_durable.specs.Recovery.{AreRecordsOf, AreTakenBack, GivesBack, IsHonest}
use Rattle.mk_durable.specs.Resuming.{IsStoreFault}

-- a file gives back one list of records, and one history
abbrev pub GivesOne : Type 0
GivesOne = (market : Market) (bytes file : List ℕ) (records others : List (List ℕ))
    (history other : List Entry)
    → GivesBack market bytes file records history → GivesBack market bytes file others other
    → (records ≡ others) × (history ≡ other)

-- a file that gives a history back is not refused
abbrev pub RefusesNoneGiven : Type 0
RefusesNoneGiven = (market : Market) (bytes file : List ℕ) (records : List (List ℕ))
    (history : List Entry) (fault : StoreFault)
    → GivesBack market bytes file records history → IsStoreFault market bytes file fault → ⊥

-- and so an honest file is not
abbrev pub RefusesNoHonest : Type 0
RefusesNoHonest = (market : Market) (bytes file : List ℕ) (fault : StoreFault)
    → IsHonest market bytes file → IsStoreFault market bytes file fault → ⊥

-- a file is refused in one way
abbrev pub OneFault : Type 0
OneFault = (market : Market) (bytes file : List ℕ) (fault other : StoreFault)
    → IsStoreFault market bytes file fault → IsStoreFault market bytes file other → fault ≡ other

-- each front of the records of a run that goes on from the history that stands, with all before the
-- run, is honest
abbrev pub FrontsAreHonest : Type 0
FrontsAreHonest = (market : Market) (bytes : List ℕ) (records more : List (List ℕ))
    (old new : Standing) (lines : List Line) (replies : List Reply) (least : ℕ) (c : List ℕ)
    → AreTakenBack market [] records old.history
    → Stands (present market old.history) old.history
    → Run market old lines replies new
    → AreRecordsOf more (changes_of market old lines replies)
    → length records ≤ least → IsFront bytes (records ++ more) least c
    → IsHonest market bytes c

-- honest stays honest: an empty file is; so is what a crash of an opening leaves; and so is each
-- front of the records of a run that goes on from the history that stands, with all before the run
pub record StaysHonest : Type 0 where
  pub empty : (market : Market) (bytes : List ℕ) → IsMarket market → IsHonest market bytes []
  pub opening : (market : Market) (bytes file c : List ℕ) → IsMarket market
      → IsHonest market bytes c ⊎ (IsUnstarted bytes file × StandsFor bytes [] c)
      → IsHonest market bytes c
  pub running : FrontsAreHonest
