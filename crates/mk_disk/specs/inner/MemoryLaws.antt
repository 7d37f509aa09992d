-- The laws of a disk in memory.
use Rattle.std.specs.Prelude.{◌≡◌, ℕ, ◌+◌, ◌≤◌, min, max, true, false, List, [], ◌∷◌, ◌++◌, length, take, drop, replicate, Some, bytes_eq, string_bytes, refl}
use Rattle.std.proofs.Common.{sym, ◌∙◌, ap, subst, arith, length-append, length-take, length-drop, cond}
use Rattle.std.proofs.lemmas.List.{take_all, take_at, drop_at, append_assoc, length-replicate}
use Rattle.mk_disk.specs.declared.event.Event.{Event}
use Rattle.mk_disk.specs.declared.event.Event.TheVariants.{Write, Fault, Sync, Crash}
use Rattle.mk_disk.specs.declared.event.Choice.{Choice}
use Rattle.mk_disk.specs.declared.event.Choice.TheVariants.{Old, New, Noise}
use Rattle.mk_disk.specs.Disk.{Torn, overwritten}
use Rattle.mk_disk.specs.Image.{IsImageOf}
use Rattle.mk_disk.specs.Memory.{FileState, rested, chosen, faulted, written, after_event, after_events, file_after, IsImage, WasImage}

-- a write is torn nowhere, or in no byte
pub torn_same : (at n : ℕ) (file : List ℕ) → Torn at n file file
torn_same at n file = record { before = refl; after = refl; no_shorter = omega arith; no_longer = omega arith }

pub length-overwritten : (at : ℕ) (bytes file : List ℕ) → at ≤ length file → length (overwritten at bytes file) ≡ max (length file) (at + length bytes)
length-overwritten at bytes file within =
    omega (arith, length-append (take at file ++ bytes) (drop (at + length bytes) file), length-append (take at file) bytes, length-take at file, length-drop (at + length bytes) file)

pub torn_written : (at : ℕ) (bytes file : List ℕ) → at ≤ length file → Torn at (length bytes) file (overwritten at bytes file)
torn_written at bytes file within =
    let front : length (take at file) ≡ at = omega (arith, length-take at file) in
    let both : length (take at file ++ bytes) ≡ at + length bytes = omega (arith, length-append (take at file) bytes) in
    let long = length-overwritten at bytes file within in
    record {
      before = ap (take at) (append_assoc (take at file) bytes (drop (at + length bytes) file)) ∙ take_at (take at file) (bytes ++ drop (at + length bytes) file) at front;
      after = drop_at (take at file ++ bytes) (drop (at + length bytes) file) (at + length bytes) both;
      no_shorter = omega arith;
      no_longer = omega arith;
    }

-- what a read gives and what is written with noise are images, of which the second is no shorter
record IsSound (s : FileState) : Type 0 where
  seen : IsImageOf s.durable s.ranges s.seen
  noise : IsImageOf s.durable s.ranges s.noise
  no_longer : length s.seen ≤ length s.noise

sound_rested : (bytes : List ℕ) → IsSound (rested bytes)
sound_rested bytes = record { seen = refl; noise = refl; no_longer = omega arith }

torn_ones : (at len : ℕ) (file : List ℕ) → at ≤ length file → Torn at len file (overwritten at (replicate len 1) file)
torn_ones at len file within =
    subst (λ n. Torn at n file (overwritten at (replicate len 1) file)) (length-replicate {A = ℕ} len 1) (torn_written at (replicate len 1) file within)

sound_written : (at : ℕ) (bytes : List ℕ) (s : FileState) → IsSound s → IsSound (written (min at (length s.seen)) bytes s)
sound_written at bytes s sound =
    let place = min at (length s.seen) in
    let within : min at (length s.seen) ≤ length s.seen = omega arith in
    let noisy : min at (length s.seen) ≤ length s.noise = omega (arith, sound.no_longer) in
    let ones : length (replicate (length bytes) 1) ≡ length bytes = length-replicate {A = ℕ} (length bytes) 1 in
    record {
      seen = (s.seen, sound.seen, torn_written place bytes s.seen within);
      noise = (s.noise, sound.noise, torn_ones place (length bytes) s.noise noisy);
      no_longer = omega (arith, sound.no_longer, length-overwritten place bytes s.seen within, length-overwritten place (replicate (length bytes) 1) s.noise noisy, ones);
    }

sound_faulted : (at len : ℕ) (s : FileState) → IsSound s → IsSound (faulted (min at (length s.seen)) len s)
sound_faulted at len s sound =
    let place = min at (length s.seen) in
    let noisy : min at (length s.seen) ≤ length s.noise = omega (arith, sound.no_longer) in
    record {
      seen = (s.seen, sound.seen, torn_same place len s.seen);
      noise = (s.noise, sound.noise, torn_ones place len s.noise noisy);
      no_longer = omega (arith, sound.no_longer, length-overwritten place (replicate len 1) s.noise noisy);
    }

sound_event : (name : List ℕ) (event : Event) (s : FileState) → IsSound s → IsSound (after_event name event s)
sound_event name (Write of at bytes) s sound = elim (bytes_eq (string_bytes of) name) as (λ b. IsSound (cond b (written (min at (length s.seen)) bytes.items s) s)) [
  | true ↦ sound_written at bytes.items s sound
  | false ↦ sound
]
sound_event name (Fault of at len) s sound = elim (bytes_eq (string_bytes of) name) as (λ b. IsSound (cond b (faulted (min at (length s.seen)) len s) s)) [
  | true ↦ sound_faulted at len s sound
  | false ↦ sound
]
sound_event name (Sync of) s sound = elim (bytes_eq (string_bytes of) name) as (λ b. IsSound (cond b (rested s.seen) s)) [
  | true ↦ sound_rested s.seen
  | false ↦ sound
]
sound_event name (Crash choice) s sound = sound_rested (chosen choice s)

sound_events : (name : List ℕ) (s : FileState) (events : List Event) → IsSound s → IsSound (after_events name s events)
sound_events name s [] sound = sound
sound_events name s (event ∷ events) sound = sound_events name (after_event name event s) events (sound_event name event s sound)

sound_after : (name : List ℕ) (events : List Event) → IsSound (file_after name events)
sound_after name events = sound_events name (rested []) events (sound_rested [])

durable_image : (durable : List ℕ) (ranges : List (ℕ × ℕ)) → IsImageOf durable ranges durable
durable_image durable [] = refl
durable_image durable (range ∷ ranges) = (durable, durable_image durable ranges, torn_same range.0 range.1 durable)

-- what a crash leaves by each choice is an image
pub chosen_image : (name : List ℕ) (events : List Event) (choice : Choice) → IsImage events name (chosen choice (file_after name events))
chosen_image name events Old = durable_image (file_after name events).durable (file_after name events).ranges
chosen_image name events New = (sound_after name events).seen
chosen_image name events Noise = (sound_after name events).noise

-- and so is what a read gives
pub seen_image : (events : List Event) (name f : List ℕ) → Some (file_after name events).seen ≡ Some f → IsImage events name f
seen_image events name f is =
    let same : (file_after name events).seen ≡ f = cc in
    subst (λ c. IsImage events name c) same (sound_after name events).seen

-- an image of this moment is one of those since an earlier one
pub now_counts : (events : List Event) (name : List ℕ) (t : ℕ) (c : List ℕ) → t ≤ length events → IsImage events name c → WasImage events name t c
now_counts events name t c since image = record {
  count = length events;
  since = since;
  within = omega arith;
  image = subst (λ es. IsImage es name c) (sym (take_all (length events) events (omega arith))) image;
}

-- since this moment there is no other
pub now_only : (events : List Event) (name c : List ℕ) → WasImage events name (length events) c → IsImage events name c
now_only events name c was = subst (λ es. IsImage es name c) (take_all was.count events was.since) was.image
