-- What waits to be written, and what is written of it.
use Rattle.std.proofs.Common.{◌≡◌, ℕ, ◌+◌, ◌<◌, ◌≤◌, List, [], ◌++◌, length, Option, Result, Ok}
use Rattle.std.proofs.Common.{Err, true, false, OnOk, ◌⊎◌, inl, inr, refl, sym, ap, ◌∙◌, arith}
use Rattle.std.proofs.Common.{append_assoc}
use Rattle.std.proofs.Math.Dec.{leb}
use Rattle.std.proofs.lemmas.Bool.{cases_lt, le-leb, lt-leb}
use Rattle.std.specs.Prelude.{Bool, IsTrue, ◌↔◌, None}
use Rattle.mk_io.specs.Stream.{StreamLine}
use Rattle.mk_io.specs.Cutting.{Cutting, HoldsLine}
use Rattle.mk_io.proofs.Told.{append_known_none}
use Rattle.mk_exact.specs.Market.{Market}
use Rattle.mk_rules.specs.Transcript.{Standing}
use Rattle.mk_session.specs.Transcript.{AreAnswered}
use Rattle.mk_session.specs.inner.Progress.{Gathers, AreGathered, IsReady, IsSoundAt}
use Rattle.mk_session.specs.declared.waiting.TellFault.{TellFault}
use Rattle.mk_session.specs.declared.waiting.TellFault.TheVariants.{Disk, Sink}
use Rattle.mk_session.specs.inner.Telling.{ended_by}
use Rattle.mk_session.proofs.Answering.{no_more}

-- nothing was written
pub gathers_none : (before : Option (List ℕ)) (waited : List ℕ) → Gathers before before waited []
    waited
gathers_none before waited = record {
  gone = [];
  added = append_known_none before;
  parts =
      no_more waited;
}

-- there is room for a line where it fits, or where nothing waits
pub room_of : (size room : ℕ) (before after : List ℕ) (most : ℕ) → room + length before ≡ most
    → size ≤ most → (leb size room ≡ true → after ≡ before) → (leb size room ≡ false → after ≡ [])
    → length after + size ≤ most
room_of size room before after most is fits stays none = at (cases_lt room size)
  where
    at : ((room < size) ⊎ (size ≤ room)) → length after + size ≤ most
    at (inl less) = omega (arith, ap length (none (lt-leb size room less)))
    at (inr more) = omega (arith, ap length (stays (le-leb size room more)))

-- before a line is taken, it is there without a read, or nothing waits
pub ready_told : {T : Type 0} (said : Result T TellFault) (may_wait : Bool) (cutting : Cutting)
    (waits : List ℕ) → (IsTrue may_wait ↔ HoldsLine cutting)
    → (may_wait ≡ false → OnOk said (waits ≡ []))
    → None ≡ ended_by said → IsReady cutting waits
ready_told (Ok v) true cutting waits holds none e = inl (holds.0 refl)
ready_told (Ok v) false cutting waits holds none e = inr (none refl)
ready_told (Err Disk) may_wait cutting waits holds none e = absurd (cc)
ready_told (Err Sink) may_wait cutting waits holds none e = absurd (cc)

-- where the next line is not there, nothing waits
pub none_waits : (cutting : Cutting) (waits : List ℕ) → IsReady cutting waits
    → (HoldsLine cutting → ⊥) → waits ≡ []
none_waits cutting waits (inl held) never = absurd (never held)
none_waits cutting waits (inr none) never = none

-- a line was put behind what waits
pub gathers_line : (before after : Option (List ℕ)) (waited mid line waits : List ℕ)
    → Gathers before after waited [] mid → waits ≡ mid ++ line
    → Gathers before after waited line waits
gathers_line before after waited mid line waits gathers put = record {
  gone = gathers.gone;
  added = gathers.added;
  parts = ap (λ (bytes : List ℕ). bytes ++ line) (sym (no_more waited) ∙ gathers.parts)
      ∙ append_assoc gathers.gone mid line
      ∙ ap (λ (bytes : List ℕ). gathers.gone ++ bytes) (sym put);
}

-- the same behind bytes that were written before
pub parts_behind : (first waited bytes gone waits : List ℕ) → waited ++ bytes ≡ gone ++ waits
    → (first ++ waited) ++ bytes ≡ (first ++ gone) ++ waits
parts_behind first waited bytes gone waits parts =
    append_assoc first waited bytes ∙ ap (λ (rest : List ℕ). first ++ rest) parts
    ∙ sym (append_assoc first gone waits)

pub gathered_when_said : {T E : Type 0} (said : Result T E) (market : Market) (old : Standing)
    (lines : List StreamLine) (new : Standing) (output : List ℕ)
    (before after : Option (List ℕ)) (waited waits : List ℕ)
    → (IsSoundAt market old → AreAnswered market old lines new output)
    → OnOk said (Gathers before after waited output waits)
    → OnOk said (AreGathered market old lines new before after waited waits)
gathered_when_said (Ok v) market old lines new output before after waited waits answered gathers =
    record { output = output; answered = answered; gathers = gathers }
gathered_when_said (Err e) market old lines new output before after waited waits answered gathers =
    tt
