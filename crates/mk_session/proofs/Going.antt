-- What the two loops of a run keep.
use Rattle.std.proofs.Common.{◌≡◌, ℕ, ◌+◌, ◌^◌, ◌<◌, ◌≤◌, List, [], ◌++◌, length}
use Rattle.std.proofs.Common.{take, Option, Some, None, inl}
use Rattle.std.proofs.Common.{refl, sym, ap, subst, ◌∙◌, arith, append_assoc}
use Rattle.std.proofs.lemmas.List.{take_all}
use Rattle.std.proofs.Math.Seq.{take-append_seam}
use Rattle.mk_io.specs.declared.status.Status.{Status}
use Rattle.mk_io.specs.Outside.{prepend_known, IsAtEnd}
use Rattle.mk_io.specs.Stream.{StreamLine, max_stream_lines}
use Rattle.mk_io.specs.Cutting.{Cutting, fresh, GoesOn}
use Rattle.mk_io.proofs.Told.{prepend_known_none}
use Rattle.mk_exact.specs.Market.{Market}
use Rattle.mk_market.specs.Trading.{Trading, IsAt}
use Rattle.mk_session.specs.Transcript.{Start}
use Rattle.mk_session.specs.Outcome.{HasKeepCauses}
use Rattle.mk_session.specs.inner.Progress.{IsPlaced, AreSaid, IsSoFar, IsBegun}
use Rattle.mk_session.specs.Opening.{IsTakenWithin}
use Rattle.mk_session.specs.inner.Telling.{CountsNoFault}
use Rattle.mk_session.specs.inner.Loading.{IsTaken}
use Rattle.mk_session.proofs.Answering.{no_more, none_answered}
use Rattle.mk_session.proofs.Completing.{none_within_stream}

-- between two lines: the market is still the file's with what was added, the lines go on, no fault
-- was counted, the keeper is ready, and the run is so far
pub record IsGoing {Own : Type 0} (begun trading : Trading Own) (commands : Option (List ℕ))
    (lines : Cutting) (source : Option (List ℕ))
    (headed written : Option (List ℕ)) (waits : List ℕ) (opened_before opened : Option (List ℕ))
    (disk_before disk inputs_before inputs sink_before sink : ℕ)
    (begins is_ready : ℕ → Type 0) : Type 0 where
  pub market : (start : Market) → IsAt start begun → IsAt start trading
  pub stays : opened ≡ opened_before
  pub goes_on : GoesOn lines.last
  pub within : lines.given ≤ max_stream_lines
  pub counts : CountsNoFault disk_before disk inputs_before inputs sink_before sink
  pub ready : (n : ℕ) → n + max_stream_lines + 1 < 2 ^ 40 → begins n → is_ready (n + lines.given)
  pub far : (start : Start) (all : List ℕ) (before : Option (List ℕ))
      → IsBegun start begun all commands before headed
      → IsSoFar start all lines source trading.standing before written waits

-- before the first line
pub placed_at_start : (all : List ℕ) (source : Option (List ℕ)) (P : List StreamLine → Type 0)
    → source ≡ Some all → P [] → IsPlaced all fresh source P
placed_at_start all source P told holds = record {
  done = [];
  left = all;
  bytes = refl;
  known = prepend_known_none source ∙ told;
  between = inl refl;
  answers = holds;
  given = refl;
  spent = refl;
  within = none_within_stream;
}

pub far_at_start : {Own : Type 0} (start : Start) (trading : Trading Own) (all : List ℕ)
    (source before written : Option (List ℕ)) (waits : List ℕ)
    → IsBegun start trading all source before written → waits ≡ []
    → IsSoFar start all fresh source trading.standing before written waits
far_at_start start trading all source before written waits begun empty =
    placed_at_start all source
    (λ lines. AreSaid start lines trading.standing before written waits) begun.told
    (record {
      begins = begun.begins;
      bytes = start.head;
      added = begun.headed;
      answers = [];
      answered = none_answered start.market start.standing trading.standing begun.standing;
      printed = ap (λ (rest : List ℕ). start.head ++ rest) empty;
    })

-- what a turn counts is what the run has counted, since no fault was counted before
pub causes_of_turn : (end : Status) (disk_before disk disk_now inputs_before inputs inputs_now
    sink_before sink sink_now : ℕ)
    → CountsNoFault disk_before disk inputs_before inputs sink_before sink
    → HasKeepCauses end disk disk_now inputs inputs_now sink sink_now
    → HasKeepCauses end disk_before disk_now inputs_before inputs_now sink_before sink_now
causes_of_turn end disk_before disk disk_now inputs_before inputs inputs_now sink_before sink
    sink_now none causes =
    subst (λ (n : ℕ). HasKeepCauses end n disk_now inputs_before inputs_now sink_before sink_now)
    none.0
    (subst (λ (n : ℕ). HasKeepCauses end disk disk_now n inputs_now sink_before sink_now) none.1.0
    (subst (λ (n : ℕ). HasKeepCauses end disk disk_now inputs inputs_now n sink_now) none.1.1
    causes))

-- between two pieces of a file: what was read so far, at most `most` bytes
pub record IsLoading (most : ℕ) (opened : Option (List ℕ)) (bytes : List ℕ)
    (source commands_before commands : Option (List ℕ))
    (files_before files : List ℕ → Option (List ℕ)) (before now : ℕ) : Type 0 where
  pub short : length bytes ≤ most
  pub taken : (file : List ℕ) → opened ≡ Some file → IsTaken file bytes source
  pub commands_stay : commands ≡ commands_before
  pub files_stay : files ≡ files_before
  pub kept : now ≡ before

pub taken_at_start : (file : List ℕ) (source : Option (List ℕ)) → source ≡ Some file
    → IsTaken file [] source
taken_at_start file source told = record { rest = file; told = told; parts = refl }

-- a piece more
taken_of : (file bytes piece left : List ℕ) (rest : Option (List ℕ)) → file ≡ bytes ++ left
    → Some left ≡ prepend_known piece rest → IsTaken file (bytes ++ piece) rest
taken_of file bytes piece left None parts e = absurd (cc)
taken_of file bytes piece left (Some rest) parts e =
    let next : left ≡ piece ++ rest = cc in
    record {
      rest = rest;
      told = refl;
      parts = parts ∙ ap (λ (xs : List ℕ). bytes ++ xs) next
          ∙ sym (append_assoc bytes piece rest);
    }

pub taken_more : (file bytes piece : List ℕ) (source rest : Option (List ℕ))
    → IsTaken file bytes source → source ≡ prepend_known piece rest
    → IsTaken file (bytes ++ piece) rest
taken_more file bytes piece source rest taken e = taken_of file bytes piece taken.rest rest
    taken.parts (sym taken.told ∙ e)

-- all that could be read was read, or as much as is wanted
take_short : (most : ℕ) (bytes : List ℕ) → length bytes ≤ most → bytes ≡ take most bytes
take_short most bytes h = sym (take_all most bytes h)

pub whole_file : (most : ℕ) (file bytes : List ℕ) (source : Option (List ℕ))
    → IsTaken file bytes source → length bytes ≤ most → IsAtEnd source
    → bytes ≡ take most file
whole_file most file bytes source taken short at_end =
    let none : taken.rest ≡ [] = subst (λ (o : Option (List ℕ)). IsAtEnd o) taken.told at_end in
    let whole : file ≡ bytes = taken.parts ∙ ap (λ (xs : List ℕ). bytes ++ xs) none
    ∙ append_nil bytes in
    take_short most bytes short ∙ ap (take most) (sym whole)
  where
    append_nil : (xs : List ℕ) → xs ++ [] ≡ xs
    append_nil xs = no_more xs

pub front_of_file : (most : ℕ) (file bytes : List ℕ) (source : Option (List ℕ))
    → IsTaken file bytes source → length bytes ≤ most → most ≤ length bytes
    → bytes ≡ take most file
front_of_file most file bytes source taken short long =
    let size : length bytes ≡ most = omega arith in
    sym (ap (take most) taken.parts ∙ ap (λ n. take n (bytes ++ taken.rest)) (sym size)
    ∙ take-append_seam bytes taken.rest)

-- as many bytes were taken as are kept, or fewer than so many
pub within_of : (most : ℕ) (file bytes : List ℕ) (left : Option (List ℕ)) → IsTaken file bytes left
    → length bytes ≤ most → IsTakenWithin most file left
within_of most file bytes left taken short = record {
  taken = bytes;
  rest = taken.rest;
  told =
      taken.told;
  parts = taken.parts;
  few = short;
}

pub within_more : (few most : ℕ) (file : List ℕ) (left : Option (List ℕ)) → IsTakenWithin few file
    left → few ≤ most → IsTakenWithin most file left
within_more few most file left within more =
    record {
      taken = within.taken;
      rest = within.rest;
      told = within.told;
      parts = within.parts;
      few = omega (arith, within.few, more);
    }
