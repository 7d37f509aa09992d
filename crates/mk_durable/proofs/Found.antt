-- What an opening finds, and what it answers.
use Rattle.std.proofs.Common.{◌≡◌, inl, inr, ◌⊎◌, ℕ, List, [], length, ap, subst, ◌∙◌, arith}
use Rattle.std.proofs.lemmas.List.{length-map}
use Rattle.std.specs.Prelude.{Vec}
use Rattle.std.specs.declared.alloc.Global.{Global}
use Rattle.mk_exact.specs.History.{Entry, revision}
use Rattle.mk_exact.specs.Market.{Market}
use Rattle.mk_restore.proofs.Counted.{each_counts}
use Rattle.mk_journal.specs.Store.{StandsFor, IsBroken}
use Rattle.mk_journal.specs.Opening.{contents, IfGate, IfMalformed}
use Rattle.mk_journal.specs.declared.read.End.{End}
use Rattle.mk_journal.specs.declared.read.End.TheVariants.{Gate, Malformed}
use Rattle.mk_durable.specs.declared.fault.RecordFault.{RecordFault}
use Rattle.mk_durable.specs.declared.fault.RecordFault.TheVariants.{Unfit, Memory}
use Rattle.mk_durable.specs.Recovery.{AreTakenBack}
use Rattle.mk_durable.specs.Resuming.{IsRecordFault, IsRefused, of_records}
use Rattle.mk_durable.proofs.Histories.{one_each}

-- whatever ends the records
pub has_records : (bytes file : List ℕ) (records : List (List ℕ)) (end : End)
    → IfGate end (λ gate. StandsFor bytes records file)
    → IfMalformed end (IsBroken bytes records file)
    → StandsFor bytes records file ⊎ IsBroken bytes records file
has_records bytes file records (Gate at) stands broken = inl stands
has_records bytes file records Malformed stands broken = inr broken

-- where records are not all taken back, the file is refused for the first that is not
pub records_refused : (market : Market) (bytes file : List ℕ) (records : List (List ℕ))
    (fault : RecordFault) → StandsFor bytes records file ⊎ IsBroken bytes records file
    → IsRecordFault market [] records fault → IsRefused market bytes file (of_records fault)
records_refused market bytes file records (Unfit number) are first =
    inr (record { records = records; are = are; first = first })
records_refused market bytes file records Memory are first = tt

-- records that were lent, from the opening on
pub from_opening : (market : Market) (old new : List Entry) (records lent : List (Vec ℕ Global))
    → old ≡ [] → lent ≡ records → AreTakenBack market old (contents lent) new
    → AreTakenBack market [] (contents records) new
from_opening market old new records lent opening same taken =
    subst (λ (H : List Entry). AreTakenBack market H (contents records) new) opening
    (subst (λ (rs : List (Vec ℕ Global)). AreTakenBack market old (contents rs) new) same taken)

pub fault_from_opening : (market : Market) (old : List Entry) (records lent : List (Vec ℕ Global))
    (fault : RecordFault) → old ≡ [] → lent ≡ records
    → IsRecordFault market old (contents lent) fault
    → IsRecordFault market [] (contents records) fault
fault_from_opening market old records lent fault opening same is =
    subst (λ (H : List Entry). IsRecordFault market H (contents records) fault) opening
    (subst (λ (rs : List (Vec ℕ Global)). IsRecordFault market old (contents rs) fault) same is)

-- each counts once
pub as_many : (market : Market) (new : List Entry) (records : List (Vec ℕ Global))
    → AreTakenBack market [] (contents records) new → revision new ≡ length records
as_many market new records taken =
    omega (
      arith,
      each_counts market [] new taken.changes taken.restores,
      one_each (contents records) taken.changes taken.are,
      length-map records (λ (v : Vec ℕ Global). v.items),
    )

-- a journal has as many entries as there are changes
pub as_told : (count : ℕ) (told H : List Entry) → count ≡ length told → told ≡ H
    → count ≡ length H
as_told count told H is same = is ∙ ap (λ (H : List Entry). length H) same
