-- What is written of an audit, by how it ends.
use Rattle.std.proofs.Common.{◌≡◌, ℕ, ◌+◌, ◌<◌, ◌≤◌, List, [], length, take, Option, ◌⊎◌, inl, inr}
use Rattle.std.proofs.Common.{Result, Ok, Err, refl, sym, ap, subst, ◌∙◌, arith, IsOk}
use Rattle.std.proofs.lemmas.List.{take_all, length-take}
use Rattle.mk_io.specs.declared.status.Status.{Status}
use Rattle.mk_io.specs.declared.status.Status.TheVariants.{Done, Usage, WriteFault, Memory}
use Rattle.mk_io.specs.Outside.{Rose}
use Rattle.mk_exact.specs.Market.{Market}
use Rattle.mk_file.specs.declared.fault.FileFault.{FileFault}
use Rattle.mk_file.specs.declared.fault.FileFault.TheVariants.{Memory as FileMemory}
use Rattle.mk_session.specs.Outcome.{Adds, Refuses, HasCauses, IsTurnedAway}
use Rattle.mk_session.proofs.Serving.{adds_nothing}
use Rattle.mk_audit.specs.AuditOutcome.{IsJudged, IsAudited, AuditsTo, EndsAudit}
use Rattle.mk_audit.specs.AuditOutcome.{max_transcript_bytes}
use Rattle.mk_audit.specs.inner.Telling.{Says}

-- the one line of an audit was written, or a front of it
says_audited : (status : Status) (market : Market) (all text line output : List ℕ)
    → IsAudited market all text line → Says status line output
    → AuditsTo status market all text output
says_audited Done market all text line output audited says =
    subst (λ (o : List ℕ). IsAudited market all text o) (sym says) audited
says_audited WriteFault market all text line output audited says =
    record { whole = line; audited = audited; front = says }
says_audited status market all text line output audited says = absurd says

pub told_audited : (status : Status) (market : Market) (all text line : List ℕ)
    (before written : Option (List ℕ)) → IsAudited market all text line
    → Adds before written (Says status line)
    → Adds before written (AuditsTo status market all text)
told_audited status market all text line before written audited said = record {
  bytes = said.bytes;
  added = said.added;
  holds = says_audited status market all text line said.bytes audited said.holds;
}

-- a line is written, unless the sink fails
ends_said : (status : Status) (line output : List ℕ) (sink sink_now : ℕ)
    → Says status line output → HasCauses status 0 0 sink sink_now
    → (Rose sink sink_now → ⊥) → (status ≡ Done) ⊎ (status ≡ Memory)
ends_said Done line output sink sink_now says causes steady = inl refl
ends_said WriteFault line output sink sink_now says causes steady =
    absurd (steady causes.1.rose)
ends_said status line output sink sink_now says causes steady = absurd says

pub ends_told : (status : Status) (line : List ℕ) (before written : Option (List ℕ))
    (sink sink_now : ℕ) → Adds before written (Says status line)
    → HasCauses status 0 0 sink sink_now → (Rose sink sink_now → ⊥)
    → (status ≡ Done) ⊎ (status ≡ Memory)
ends_told status line before written sink sink_now said causes steady =
    ends_said status line said.bytes sink sink_now said.holds causes steady

pub never_usage : (status : Status) (line : List ℕ) (before written : Option (List ℕ))
    → Adds before written (Says status line) → status ≡ Usage → ⊥
never_usage status line before written said e =
    subst (λ (s : Status). Says s line said.bytes) e said.holds

-- the first bytes of a text, one more than so many, are all of it where they are no more than that;
-- else it has more
part_is_whole : (most : ℕ) (part text : List ℕ) → part ≡ take (most + 1) text
    → length part ≤ most → part ≡ text
part_is_whole most part text is few =
    let size : length part ≡ length (take (most + 1) text) = ap length is in
    let short : length text ≤ most + 1 = omega (arith, length-take (most + 1) text) in
    is ∙ take_all (most + 1) text short

part_is_long : (most : ℕ) (part text : List ℕ) → part ≡ take (most + 1) text
    → most < length part → most < length text
part_is_long most part text is more =
    let size : length part ≡ length (take (most + 1) text) = ap length is in
    omega (arith, length-take (most + 1) text)

-- so the audit of these bytes is that of the text
part_audited : (market : Market) (all part text output : List ℕ)
    → part ≡ take (max_transcript_bytes + 1) text → IsAudited market all part output
    → IsAudited market all text output
part_audited market all part text output is (inl judged) =
    inl (subst (λ (t : List ℕ). IsJudged market all t output)
    (part_is_whole max_transcript_bytes part text is judged.few) judged)
part_audited market all part text output is (inr long) = inr (record {
  more = part_is_long max_transcript_bytes part text is long.more;
  printed = long.printed;
})

part_audits : (status : Status) (market : Market) (all part text output : List ℕ)
    → part ≡ take (max_transcript_bytes + 1) text → AuditsTo status market all part output
    → AuditsTo status market all text output
part_audits Done market all part text output is audits =
    part_audited market all part text output is audits
part_audits WriteFault market all part text output is audits = record {
  whole = audits.whole;
  audited = part_audited market all part text audits.whole is audits.audited;
  front = audits.front;
}
part_audits status market all part text output is audits = audits

pub told_of_part : (status : Status) (market : Market) (all part text : List ℕ)
    (before written : Option (List ℕ)) → part ≡ take (max_transcript_bytes + 1) text
    → Adds before written (AuditsTo status market all part)
    → Adds before written (AuditsTo status market all text)
told_of_part status market all part text before written is told = record {
  bytes = told.bytes;
  added = told.added;
  holds = part_audits status market all part text told.bytes is told.holds;
}

nothing_said : (given : Result Market FileFault) (all text : List ℕ)
    → EndsAudit Memory given all text []
nothing_said (Ok market) all text = refl
nothing_said (Err fault) all text = refl

wanted : (P : List ℕ → Type 0) (before written : Option (List ℕ)) → written ≡ before → P []
    → Adds before written P
wanted P before written same holds =
    subst (λ (w : Option (List ℕ)). Adds before w P) (sym same) (adds_nothing before P holds)

pub told_refused : (status : Status) (fault : FileFault) (given : Result Market FileFault)
    (all text : List ℕ) (before written : Option (List ℕ))
    → ((status ≡ Memory) × (written ≡ before))
    ⊎ ((fault ≡ FileMemory → ⊥) × Adds before written (Refuses status fault))
    → ((fault ≡ FileMemory → ⊥) → given ≡ Err fault)
    → Adds before written (EndsAudit status given all text)
told_refused status fault given all text before written (inl wanting) is =
    wanted (EndsAudit status given all text) before written wanting.1
    (subst (λ (s : Status). EndsAudit s given all text []) (sym wanting.0)
    (nothing_said given all text))
told_refused status fault given all text before written (inr said) is = record {
  bytes = said.1.bytes;
  added = said.1.added;
  holds = subst (λ (g : Result Market FileFault). EndsAudit status g all text said.1.bytes)
      (sym (is said.0)) said.1.holds;
}

pub turned_refused : (status : Status) (fault named : FileFault) (given : Result Market FileFault)
    (source before written : Option (List ℕ))
    → ((status ≡ Memory) × (written ≡ before))
    ⊎ ((fault ≡ FileMemory → ⊥) × Adds before written (Refuses status fault))
    → ((fault ≡ FileMemory → ⊥) → given ≡ Err fault) → given ≡ Err named
    → IsTurnedAway status named source source before written
turned_refused status fault named given source before written said is e = record {
  unread = refl;
  output = inr (subst (λ (g : Result Market FileFault). Adds before written
      (EndsAudit status g [] [])) e
      (told_refused status fault given [] [] before written said is));
}

pub accepted_wants : (status : Status) (fault : FileFault) (given : Result Market FileFault)
    (before written : Option (List ℕ))
    → ((status ≡ Memory) × (written ≡ before))
    ⊎ ((fault ≡ FileMemory → ⊥) × Adds before written (Refuses status fault))
    → ((fault ≡ FileMemory → ⊥) → given ≡ Err fault) → IsOk given
    → (status ≡ Done) ⊎ (status ≡ Memory)
accepted_wants status fault given before written (inl wanting) is ok = inr wanting.0
accepted_wants status fault (Err other) before written (inr said) is ok = absurd (cc)
accepted_wants status fault (Ok market) before written (inr said) is ok =
    let other : Ok market ≡ Err fault = is said.0 in absurd (cc)
