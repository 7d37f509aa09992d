-- A run of an accepted file in which nothing failed, over commands within the limits, is done or
-- out of memory.
use Rattle.std.proofs.Common.{◌≡◌, ℕ, ◌+◌, ◌<◌, ◌≤◌, true, false, cond, eqb, List, [], ◌∷◌, ◌++◌}
use Rattle.std.proofs.Common.{length, Option, Result, Ok, Err, IsOk, ◌⊎◌, inl, inr, refl, ap, subst}
use Rattle.std.proofs.Common.{◌∙◌, arith, length-append}
use Rattle.std.proofs.lemmas.List.{length-map}
use Rattle.mk_io.specs.declared.status.Status.{Status}
use Rattle.mk_io.specs.declared.status.Status.TheVariants.{Done, Usage, MarketRefused, ReadFault}
use Rattle.mk_io.specs.declared.status.Status.TheVariants.{WriteFault, Memory, TooMany}
use Rattle.mk_io.specs.declared.status.Status.TheVariants.{DiskFault, StoreRefused}
use Rattle.mk_io.specs.Outside.{Rose}
use Rattle.mk_io.specs.Stream.{StreamLine, parts, line_of, stream_lines, AreWholeLines}
use Rattle.mk_io.specs.Stream.{max_stream_lines, max_stream_bytes}
use Rattle.mk_io.specs.Cutting.{first_size}
use Rattle.mk_exact.specs.Market.{Market}
use Rattle.mk_file.specs.declared.fault.FileFault.{FileFault}
use Rattle.mk_io.proofs.WholeLines.{some_part, whole_lines-append}
use Rattle.mk_session.specs.Transcript.{Start, from_opening}
use Rattle.mk_session.specs.Outcome.{Adds, Refuses, Ends, Opened, IsTurnedAway, IsOverrun}
use Rattle.mk_session.specs.Outcome.{HasCauses}
use Rattle.mk_session.specs.Complete.{AreWithin}

-- some bytes hold a line, and the first one is no longer than they are
some_line : (bytes : List ℕ) → 0 < length bytes → 0 < length (stream_lines bytes)
some_line [] h = absurd (omega arith)
some_line (b ∷ bytes) h = omega (
  arith,
  length-map (parts (b ∷ bytes)) line_of,
  some_part (eqb b 10)
      b (parts bytes),
)

first_size_within : (bytes : List ℕ) → first_size bytes ≤ length bytes
first_size_within [] = omega arith
first_size_within (b ∷ bytes) = elim (eqb b 10) as (λ test. cond test 1 (1 + first_size bytes) ≤
    length (b ∷ bytes))
    [ true ↦ omega arith | false ↦ omega (arith, first_size_within bytes) ]

-- no bytes are within the limits
pub none_within_stream : AreWithin []
none_within_stream = record { lines = omega arith; bytes = omega arith }

-- commands within the limits do not overrun them
pub past_limits : (all whole rest : List ℕ) → all ≡ whole ++ rest → AreWholeLines whole
    → 0 < length rest
    → (length (stream_lines whole) ≡ max_stream_lines)
    ⊎ (max_stream_bytes < length whole + first_size rest) → AreWithin all → ⊥
past_limits all whole rest bytes lines more past within = at past
  where
    count : length (stream_lines all) ≡ length (stream_lines whole) + length (stream_lines rest)
    count = ap (λ (bytes : List ℕ). length (stream_lines bytes)) bytes
        ∙ ap (λ (ls : List StreamLine). length ls) (whole_lines-append whole rest lines)
        ∙ length-append (stream_lines whole) (stream_lines rest)

    size : length all ≡ length whole + length rest
    size = ap length bytes ∙ length-append whole rest

    at : ((length (stream_lines whole) ≡ max_stream_lines)
        ⊎ (max_stream_bytes < length whole + first_size rest)) → ⊥
    at (inl e) = omega (arith, count, within.lines, some_line rest more)
    at (inr p) = omega (arith, size, within.bytes, first_size_within rest)

not_overrun : (start : Start) (all rest output : List ℕ) → IsOverrun start all rest output
    → AreWithin all → ⊥
not_overrun start all rest output over within =
    past_limits all over.whole (over.part ++ rest) over.bytes over.lines over.more over.past within

ends_well : (status : Status) (given : Result Market FileFault) (all rest output : List ℕ)
    → Ends status given all rest output → IsOk given → AreWithin all
    → (status ≡ ReadFault → ⊥) → (status ≡ WriteFault → ⊥) → (status ≡ DiskFault → ⊥)
    → (status ≡ Done) ⊎ (status ≡ Memory)
ends_well Done given all rest output ends ok within read written kept = inl refl
ends_well Memory given all rest output ends ok within read written kept = inr refl
ends_well ReadFault given all rest output ends ok within read written kept = absurd (read refl)
ends_well WriteFault given all rest output ends ok within read written kept = absurd (written refl)
ends_well TooMany (Ok market) all rest output ends ok within read written kept =
    absurd (not_overrun (from_opening market) all rest output ends within)
ends_well TooMany (Err fault) all rest output ends ok within read written kept = absurd ends.0
ends_well MarketRefused (Ok market) all rest output ends ok within read written kept = absurd ends
ends_well MarketRefused (Err fault) all rest output ends ok within read written kept = absurd (cc)
ends_well Usage (Ok market) all rest output ends ok within read written kept = absurd ends
ends_well Usage (Err fault) all rest output ends ok within read written kept = absurd ends.0
ends_well DiskFault given all rest output ends ok within read written kept = absurd (kept refl)
ends_well StoreRefused (Ok market) all rest output ends ok within read written kept = absurd ends
ends_well StoreRefused (Err fault) all rest output ends ok within read written kept = absurd ends.0

read_cause : (status : Status) (inputs inputs_now sink sink_now : ℕ) → HasCauses status inputs
    inputs_now sink sink_now → status ≡ ReadFault → Rose inputs inputs_now
read_cause status inputs inputs_now sink sink_now causes e =
    let fault = subst (λ (s : Status). HasCauses s inputs inputs_now sink sink_now) e causes in
    fault.0.rose

write_cause : (status : Status) (inputs inputs_now sink sink_now : ℕ) → HasCauses status inputs
    inputs_now sink sink_now → status ≡ WriteFault → Rose sink sink_now
write_cause status inputs inputs_now sink sink_now causes e =
    let fault = subst (λ (s : Status). HasCauses s inputs inputs_now sink sink_now) e causes in
    fault.1.rose

no_disk : (status : Status) (inputs inputs_now sink sink_now : ℕ) → HasCauses status inputs
    inputs_now sink sink_now → status ≡ DiskFault → ⊥
no_disk status inputs inputs_now sink sink_now causes e =
    subst (λ (s : Status). HasCauses s inputs inputs_now sink sink_now) e causes

-- the same of a run, where each failure has its cause and no count rose
pub completes : (status : Status) (given : Result Market FileFault) (all : List ℕ)
    (source before written : Option (List ℕ))
    (inputs inputs_now sink sink_now : ℕ) → Opened status given all source before written
    → IsOk given → AreWithin all
    → HasCauses status inputs inputs_now sink sink_now → (Rose inputs inputs_now → ⊥)
    → (Rose sink sink_now → ⊥)
    → (status ≡ Done) ⊎ (status ≡ Memory)
completes status given all source before written inputs inputs_now sink sink_now opened ok within
    causes steady_inputs steady_sink =
    ends_well status given all opened.rest opened.output.bytes opened.output.holds ok within
    (λ e. steady_inputs (read_cause status inputs inputs_now sink sink_now causes e))
    (λ e. steady_sink (write_cause status inputs inputs_now sink sink_now causes e))
    (no_disk status inputs inputs_now sink sink_now causes)

refuses_well : (status : Status) (fault : FileFault) (output : List ℕ) → Refuses status fault output
    → (status ≡ WriteFault → ⊥)
    → (status ≡ MarketRefused) ⊎ (status ≡ Memory)
refuses_well MarketRefused fault output ends written = inl refl
refuses_well Memory fault output ends written = inr refl
refuses_well WriteFault fault output ends written = absurd (written refl)
refuses_well ReadFault fault output ends written = absurd ends
refuses_well Done fault output ends written = absurd ends
refuses_well TooMany fault output ends written = absurd ends
refuses_well Usage fault output ends written = absurd ends
refuses_well DiskFault fault output ends written = absurd ends
refuses_well StoreRefused fault output ends written = absurd ends

-- a run of a refused file in which nothing failed says so, or is out of memory
pub refused_so : (status : Status) (fault : FileFault) (source left before written : Option
    (List ℕ)) (inputs inputs_now sink sink_now : ℕ)
    → IsTurnedAway status fault source left before written → HasCauses status inputs inputs_now sink
    sink_now
    → (Rose inputs inputs_now → ⊥) → (Rose sink sink_now → ⊥) → (status ≡ MarketRefused)
    ⊎ (status ≡ Memory)
refused_so status fault source left before written inputs inputs_now sink sink_now turned causes
    steady_inputs steady_sink = at turned.output
  where
    at : ((status ≡ ReadFault) × (written ≡ before)) ⊎ Adds before written (Refuses status fault)
        → (status ≡ MarketRefused) ⊎ (status ≡ Memory)
    at (inl closed) = absurd (steady_inputs (read_cause status inputs inputs_now sink sink_now
        causes closed.0))
    at (inr said) = refuses_well status fault said.bytes said.holds
        (λ e. steady_sink (write_cause status inputs inputs_now sink sink_now causes e))

-- a count that is never anything but 0 did not rise
pub none_rose : Rose 0 0 → ⊥
none_rose rose = omega (arith, rose)
