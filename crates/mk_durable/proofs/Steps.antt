-- The records that are taken back so far, in a loop over all.
use Rattle.std.proofs.Common.{◌≡◌, ℕ, ◌+◌, ◌<◌, List, [], ◌∷◌, ◌++◌, length, take, drop, get_or}
use Rattle.std.proofs.Common.{refl, sym, ap, ◌∙◌, arith, take-append-drop}
use Rattle.std.proofs.lemmas.List.{take_more, drop_more, map-append, length-map, length-take-le}
use Rattle.std.specs.Prelude.{Vec}
use Rattle.std.specs.declared.alloc.Global.{Global}
use Rattle.mk_exact.specs.History.{Entry}
use Rattle.mk_exact.specs.Market.{Market, present}
use Rattle.mk_journal.specs.Opening.{contents}
use Rattle.mk_market.specs.declared.restoring.RestoreFault.{RestoreFault}
use Rattle.mk_market.specs.declared.restoring.RestoreFault.TheVariants.{Unfit, Memory}
use Rattle.mk_durable.specs.Recovery.{AreTakenBack, IsUnfit, IsFirstUnfit}
use Rattle.mk_durable.specs.Resuming.{IsRecordFault, fault_at}

-- the bytes of one record more
pub contents_more : (records : List (Vec ℕ Global)) (i : ℕ) (v : Vec ℕ Global)
    → i < length records → v ≡ get_or records i v
    → contents (take (i + 1) records) ≡ contents (take i records) ++ v.items ∷ []
contents_more records i v within is =
    ap contents (take_more records i v within
    ∙ ap (λ (x : Vec ℕ Global). take i records ++ x ∷ []) (sym is))
    ∙ map-append (λ (x : Vec ℕ Global). x.items) (take i records) (v ∷ [])

-- where all before a record are taken back, and it is not, it is the first
pub first_unfit : (market : Market) (old now : List Entry) (records : List (Vec ℕ Global)) (i : ℕ)
    (v : Vec ℕ Global) (bytes : List ℕ) → i < length records → v ≡ get_or records i v
    → bytes ≡ v.items → AreTakenBack market old (contents (take i records)) now
    → IsUnfit (present market now) now bytes → IsFirstUnfit market old (contents records) (i + 1)
first_unfit market old now records i v bytes within is same taken unfit = record {
  before = contents (take i records);
  next = bytes;
  others = contents (drop (i + 1) records);
  parts = ap contents (sym (take-append-drop i records)
      ∙ ap (λ (l : List (Vec ℕ Global)). take i records ++ l) (drop_more records i v within)
      ∙ ap (λ (x : Vec ℕ Global). take i records ++ x ∷ drop (i + 1) records) (sym is))
      ∙ map-append (λ (x : Vec ℕ Global). x.items) (take i records) (v ∷ drop (i + 1) records)
      ∙ ap (λ (b : List ℕ). contents (take i records) ++ b ∷ contents (drop (i + 1) records))
      (sym same);
  place = omega (
    arith,
    length-map (take i records) (λ (x : Vec ℕ Global). x.items),
    length-take-le i records (omega arith),
  );
  history = now;
  taken = taken;
  unfit = unfit;
}

-- the fault of a record that is not taken back
pub fault_is : (market : Market) (old : List Entry) (records : List (List ℕ)) (fault : RestoreFault)
    (number : ℕ) → (fault ≡ Unfit → IsFirstUnfit market old records number)
    → IsRecordFault market old records (fault_at fault number)
fault_is market old records Unfit number first = first refl
fault_is market old records Memory number first = tt
