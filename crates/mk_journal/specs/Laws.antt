-- Laws of the store file.
use Rattle.std.specs.Prelude.{◌≡◌, ◌⊎◌, ℕ, List, []}
use Rattle.mk_journal.specs.declared.open.OpenFault.TheVariants.{Foreign}
use Rattle.mk_journal.specs.Store.{Holds, IsUnstarted, StandsFor, IsForeign, IsBroken, IsHonest}
use Rattle.mk_journal.specs.Opening.{IsRefused}
use Rattle.mk_journal.specs.Market.{IsFront}

-- bytes hold one list of records
abbrev pub OneReading : Type 0
OneReading = (records others : List (List ℕ)) (bytes : List ℕ) → Holds records bytes → Holds others bytes → records ≡ others

-- what an opening leaves of an honest store, and what a served market leaves, are honest files
pub record StaysHonest : Type 0 where
  pub standing : (market : List ℕ) (records : List (List ℕ)) (file : List ℕ) → StandsFor market records file → IsHonest market file
  pub opening : (market f c : List ℕ) → IsHonest market c ⊎ (IsUnstarted market f × StandsFor market [] c) → IsHonest market c
  pub serving : (market : List ℕ) (all : List (List ℕ)) (least : ℕ) (c : List ℕ) → IsFront market all least c → IsHonest market c

-- a file is refused at one place, and not where a malformed record is found in it
pub record OneAnswer : Type 0 where
  pub one_place : (market f : List ℕ) (at other : ℕ) → IsForeign market f at → IsForeign market f other → at ≡ other
  pub malformed : (market f : List ℕ) (records : List (List ℕ)) (at : ℕ) → IsBroken market records f → IsForeign market f at → ⊥

-- an honest file is not refused for what it is, and holds no malformed record
pub record RefusesNoHonest : Type 0 where
  pub refusal : (market f : List ℕ) (at : ℕ) → IsHonest market f → IsRefused market f (Foreign at) → ⊥
  pub malformed : (market f : List ℕ) (records : List (List ℕ)) → IsHonest market f → IsBroken market records f → ⊥
