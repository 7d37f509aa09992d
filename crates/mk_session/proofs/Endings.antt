-- How a run ends, from what it has come to.
use Rattle.std.proofs.Common.{◌≡◌, ℕ, ◌<◌, ◌+◌, List, [], ◌∷◌, ◌++◌, length, Option, Some}
use Rattle.std.proofs.Common.{None, Result, Ok, Err, MatchOption, OnOk, OnErr, IfSome}
use Rattle.std.proofs.Common.{IfNone, ◌⊎◌, inl, inr, refl, sym, ap, subst, ◌∙◌, append_assoc}
use Rattle.mk_io.specs.declared.status.Status.{Status}
use Rattle.mk_io.specs.declared.status.Status.TheVariants.{Done, ReadFault, TooMany}
use Rattle.mk_io.specs.declared.lines.Next.{Next}
use Rattle.mk_io.specs.declared.lines.Next.TheVariants.{Line, Long, End, ReadFault as Unread}
use Rattle.mk_io.specs.declared.lines.Next.TheVariants.{TooMany as Overrun}
use Rattle.mk_io.specs.Outside.{append_known, prepend_known, AddsFront, IsAtEnd, CountsFault}
use Rattle.mk_io.specs.Stream.{StreamLine, stream_lines, AreWholeLines, max_stream_lines}
use Rattle.mk_io.specs.Stream.{max_stream_bytes}
use Rattle.mk_io.specs.Cutting.{Cutting, stream_left, first_size, GoesOn, GivesLine, Stays}
use Rattle.mk_io.specs.Cutting.{IsAnswer, IsFreshAnswer, StopsInLine, Overruns, IsTooMuch}
use Rattle.mk_io.specs.Cutting.{IsWithinLimits, CountsReadFault, HasReadCause}
use Rattle.mk_io.proofs.Told.{append_known_twice, prepend_known_twice}
use Rattle.mk_exact.specs.Market.{Market}
use Rattle.mk_rules.specs.Transcript.{Standing}
use Rattle.mk_session.specs.Transcript.{Start, Transcript}
use Rattle.mk_session.specs.Outcome.{Adds, IsBroken, IsWholeTo, HasKeepCauses}
use Rattle.mk_session.specs.Complete.{AreWithin}
use Rattle.mk_session.specs.inner.Progress.{AreGathered, IsBetween, IsPlaced, IsSoFar, IsEnded}
use Rattle.mk_session.specs.inner.Progress.{ServesTo}
use Rattle.mk_session.specs.declared.waiting.TellFault.{TellFault}
use Rattle.mk_session.specs.declared.waiting.TellFault.TheVariants.{Disk, Sink}
use Rattle.mk_session.specs.inner.Telling.{HasTellCause, CountsNoFault, ended_by}
use Rattle.mk_session.proofs.Answering.{no_more, transcript_of, transcript_stands}
use Rattle.mk_session.proofs.Completing.{past_limits}
use Rattle.mk_session.proofs.Underway.{IsRest, rest_of, are_whole, so_far_next}

-- the transcript of the lines that are done
transcript_so_far : (start : Start) (all : List ℕ) (cutting : Cutting) (source : Option (List ℕ))
    (now : Standing) (before written : Option (List ℕ))
    (waits : List ℕ) → waits ≡ [] → (far : IsSoFar start all cutting source now before written
    waits)
    → Transcript start (stream_lines far.done) far.answers.bytes
transcript_so_far start all cutting source now before written waits empty far =
    let said = far.answers in
    transcript_of start said.begins (stream_lines far.done) now said.answers said.bytes
    said.answered (sym (no_more said.bytes)
    ∙ ap (λ (rest : List ℕ). said.bytes ++ rest) (sym empty) ∙ said.printed)

-- it leaves what stands
so_far_stands : (start : Start) (all : List ℕ) (cutting : Cutting) (source : Option (List ℕ))
    (now : Standing) (before written : Option (List ℕ))
    (waits : List ℕ) → (empty : waits ≡ []) → (far : IsSoFar start all cutting source now before
    written waits)
    → (transcript_so_far start all cutting source now before written waits empty far).after ≡ now
unfolding transcript_so_far
so_far_stands start all cutting source now before written waits empty far =
    let said = far.answers in
    transcript_stands start said.begins (stream_lines far.done) now said.answers said.bytes
    said.answered (sym (no_more said.bytes)
    ∙ ap (λ (rest : List ℕ). said.bytes ++ rest) (sym empty) ∙ said.printed)

pub second_empty : (xs ys : List ℕ) → xs ++ ys ≡ [] → ys ≡ []
second_empty [] ys e = e
second_empty (x ∷ xs) ys e = absurd (cc)

pub ended_done : (start : Start) (all : List ℕ) (old new : Cutting)
    (source rest : Option (List ℕ)) (now : Standing) (before written after : Option (List ℕ))
    (waits : List ℕ) → waits ≡ [] → (far : IsSoFar start all old source now before written waits)
    → far.left ≡ [] → Stays old new source rest End → after ≡ written
    → IsEnded Done start now all rest before after
ended_done start all old new source rest now before written after waits none_waits far empty stays
    still =
    let r = rest_of old.left far.left source (sym far.known) in
    let whole : all ≡ far.done = far.bytes ∙ ap (λ (left : List ℕ). far.done ++ left) empty
    ∙ no_more far.done in
    record {
      rest = r.rest;
      told = stays.untouched ∙ r.told;
      output = record {
        bytes = far.answers.bytes;
        added = still ∙ far.answers.added;
        holds = subst (λ (bytes : List ℕ). IsWholeTo start now bytes r.rest
            far.answers.bytes) (sym whole) (record {
              whole = record {
                transcript =
                    transcript_so_far start all old source now before written waits none_waits far;
                to_the_end = second_empty old.left r.rest (sym r.parts ∙ empty);
                within = far.within;
              };
              stands = so_far_stands start all old source now before written waits none_waits far;
            });
      };
    }

past_of : (given lines spent bytes most_lines most_bytes size : ℕ) → given ≡ lines
    → spent ≡ bytes
    → (given ≡ most_lines) ⊎ (most_bytes < spent + size) → (lines ≡ most_lines)
    ⊎ (most_bytes < bytes + size)
past_of given lines spent bytes most_lines most_bytes size e f (inl full) = inl (sym e ∙ full)
past_of given lines spent bytes most_lines most_bytes size e f (inr past) =
    inr (subst (λ (n : ℕ). most_bytes < n + size) f past)

-- where the next line is too much, the stream is not within the limits
pub not_within : (all : List ℕ) (old new : Cutting) (source rest : Option (List ℕ))
    (P : List StreamLine → Type 0) → old.last ≡ None
    → Overruns old new (stream_left old source) rest → IsPlaced all old source P
    → AreWithin all → ⊥
not_within all old new source rest P none over far within =
    let much : IsTooMuch old far.left = subst (λ (o : Option (List ℕ)). IfSome o (IsTooMuch old))
    far.known over.much in
    past_limits all far.done far.left far.bytes (are_whole old.last far.done far.left none
    far.between) much.more
    (past_of old.given (length (stream_lines far.done)) old.spent (length far.done) max_stream_lines
    max_stream_bytes (first_size far.left)
    far.given far.spent much.past) within

-- a run ends between two lines, where nothing waits and nothing more is written
module _ (start : Start) (all : List ℕ) (old new : Cutting) (source rest : Option (List ℕ))
    (now : Standing) (before written after : Option (List ℕ)) (waits : List ℕ)
    (none_waits : waits ≡ []) (far : IsSoFar start all old source now before written waits)
    (none : old.last ≡ None) (still : after ≡ written) where
  -- so, by what its status says of what is left behind a part
  ends_behind : (status : Status) (part : List ℕ) (r : IsRest part far.left rest)
      → ServesTo status start now all r.rest far.answers.bytes
      → IsEnded status start now all rest before after
  ends_behind status part r serves = record {
    rest = r.rest;
    told = r.told;
    output = record {
      bytes = far.answers.bytes;
      added = still ∙ far.answers.added;
      holds = serves;
    };
  }

  pub ended_read_fault : StopsInLine new (stream_left old source) rest
      → IsEnded ReadFault start now all rest before after
  ended_read_fault stops =
      let r = rest_of stops.part far.left rest (sym far.known ∙ stops.taken) in
      ends_behind ReadFault stops.part r (record {
        whole = far.done;
        part = stops.part;
        bytes = far.bytes ∙ ap (λ (left : List ℕ). far.done ++ left) r.parts;
        lines = are_whole old.last far.done far.left none far.between;
        no_lf = stops.no_lf;
        within = far.within;
        transcript =
            transcript_so_far start all old source now before written waits none_waits far;
      })

  pub ended_too_many : Overruns old new (stream_left old source) rest
      → IsEnded TooMany start now all rest before after
  ended_too_many over =
      let r = rest_of over.part far.left rest (sym far.known ∙ over.taken) in
      let much : IsTooMuch old (over.part ++ r.rest) =
      subst (λ (left : List ℕ). IsTooMuch old left) r.parts
      (subst (λ (o : Option (List ℕ)). IfSome o (IsTooMuch old)) far.known over.much) in
      ends_behind TooMany over.part r (record {
        whole = far.done;
        part = over.part;
        bytes = far.bytes ∙ ap (λ (left : List ℕ). far.done ++ left) r.parts;
        lines = are_whole old.last far.done far.left none far.between;
        more = much.more;
        past = past_of old.given (length (stream_lines far.done)) old.spent (length far.done)
            max_stream_lines max_stream_bytes (first_size (over.part ++ r.rest)) far.given far.spent
            much.past;
        within = far.within;
        transcript =
            transcript_so_far start all old source now before written waits none_waits far;
      })

-- the bytes before a place are whole lines, or none is left behind it
pub whole_or_none : (last : Option Next) (done left left_parts : List ℕ) → left ≡ left_parts
    → IsBetween last done left → AreWholeLines done ⊎ (left_parts ≡ [])
whole_or_none None done left left_parts e whole = inl whole
whole_or_none (Some last) done left left_parts e none = inr (sym e ∙ none)

-- of what waited only a front was written
broken : (start : Start) (all part : List ℕ) (cutting : Cutting)
    (source rest : Option (List ℕ)) (now : Standing)
    (before written after : Option (List ℕ)) (waited : List ℕ)
    → stream_left cutting source ≡ prepend_known part rest → AddsFront written after waited
    → IsSoFar start all cutting source now before written waited
    → (r : List ℕ) × (rest ≡ Some r) × Adds before after (IsBroken start all r)
broken start all part cutting source rest now before written after waited taken cut far =
    let r = rest_of part far.left rest (sym far.known ∙ taken) in
    let said = far.answers in (
      r.rest,
      r.told,
      record {
        bytes = said.bytes ++ cut.front;
        added = cut.added ∙ ap (λ (w : Option (List ℕ)). append_known w cut.front) said.added
            ∙ append_known_twice before said.bytes cut.front;
        holds = record {
          done = far.done;
          part = part;
          bytes = far.bytes ∙ ap (λ (left : List ℕ). far.done ++ left) r.parts;
          lines = whole_or_none cutting.last far.done far.left (part ++ r.rest) r.parts far.between;
          within = far.within;
          text = said.bytes ++ waited;
          transcript = transcript_of start said.begins (stream_lines far.done) now said.answers
              (said.bytes ++ waited) said.answered said.printed;
          front = record {
            rest = cut.rest;
            parts = ap (λ (bytes : List ℕ). said.bytes ++ bytes) cut.parts
                ∙ sym (append_assoc said.bytes cut.front cut.rest);
          };
        };
      },
    )

-- a line that was answered: the run goes on, one line further
pub goes_on_after : {T : Type 0} (said : Result T TellFault) (ended : Option Status)
    (is_at : Market → Type 0) (line : StreamLine) (old new kept : Cutting)
    (source rest : Option (List ℕ)) (now then : Standing)
    (written after : Option (List ℕ)) (waited waits : List ℕ)
    → ended ≡ ended_by said → kept ≡ new
    → old.last ≡ None → IsWithinLimits new
    → GivesLine line old new (stream_left old source) (stream_left new rest)
    → ((file : Market) → is_at file
    → OnOk said (AreGathered file now (line ∷ []) then written after waited waits))
    → IfNone ended ((start : Start) (all : List ℕ) (before : Option (List ℕ))
    → is_at start.market → IsSoFar start all old source now before written waited
    → IsSoFar start all kept rest then before after waits)
goes_on_after said ended is_at line old new kept source rest now then written after waited waits
    e same none limits gives answered =
    subst (λ (o : Option Status). IfNone o ((start : Start) (all : List ℕ)
    (before : Option (List ℕ)) → is_at start.market
    → IsSoFar start all old source now before written waited
    → IsSoFar start all kept rest then before after waits)) (sym e) (at said answered)
  where
    at : {T : Type 0} (said : Result T TellFault)
        → ((file : Market) → is_at file
        → OnOk said (AreGathered file now (line ∷ []) then written after waited waits))
        → IfNone (ended_by said) ((start : Start) (all : List ℕ) (before : Option (List ℕ))
        → is_at start.market → IsSoFar start all old source now before written waited
        → IsSoFar start all kept rest then before after waits)
    at (Ok v) answered =
        λ start all before here far.
        subst (λ (cutting : Cutting). IsSoFar start all cutting rest then before after waits)
        (sym same)
        (so_far_next start all line old new source rest now then before written after waited
        waits none limits gives (answered start.market here) far)
    at (Err Disk) answered = tt
    at (Err Sink) answered = tt

-- what waited was not told: the run is broken
pub breaks_off : {T : Type 0} (said : Result T TellFault) (ended : Option Status)
    (is_at : Market → Type 0) (cutting : Cutting) (part : List ℕ)
    (source rest : Option (List ℕ)) (now then : Standing)
    (written after : Option (List ℕ)) (waited : List ℕ)
    → ended ≡ ended_by said → stream_left cutting source ≡ prepend_known part rest
    → OnErr said (AddsFront written after waited)
    → IfSome ended (λ end. (start : Start) (all : List ℕ) (before : Option (List ℕ))
    → is_at start.market → IsSoFar start all cutting source now before written waited
    → IsEnded end start then all rest before after)
breaks_off said ended is_at cutting part source rest now then written after waited e taken cut =
    subst (λ (o : Option Status). IfSome o (λ end. (start : Start) (all : List ℕ)
    (before : Option (List ℕ)) → is_at start.market
    → IsSoFar start all cutting source now before written waited
    → IsEnded end start then all rest before after)) (sym e) (at said cut)
  where
    at : {T : Type 0} (said : Result T TellFault) → OnErr said (AddsFront written after waited)
        → IfSome (ended_by said) (λ end. (start : Start) (all : List ℕ)
        (before : Option (List ℕ)) → is_at start.market
        → IsSoFar start all cutting source now before written waited
        → IsEnded end start then all rest before after)
    at (Ok v) cut = tt
    at (Err Disk) cut = λ start all before here far.
        let b = broken start all part cutting source rest now before written after waited taken cut
        far in
        record { rest = b.0; told = b.1; output = b.2 }
    at (Err Sink) cut = λ start all before here far.
        let b = broken start all part cutting source rest now before written after waited taken cut
        far in
        record { rest = b.0; told = b.1; output = b.2 }

-- the same where a line was given, whose reply was not told
pub breaks_after : {T : Type 0} (said : Result T TellFault) (ended : Option Status)
    (is_at : Market → Type 0) (line : StreamLine) (old new : Cutting)
    (source rest : Option (List ℕ)) (now then : Standing) (written after : Option (List ℕ))
    (waited : List ℕ)
    → ended ≡ ended_by said
    → GivesLine line old new (stream_left old source) (stream_left new rest)
    → OnErr said (AddsFront written after waited)
    → IfSome ended (λ end. (start : Start) (all : List ℕ) (before : Option (List ℕ))
    → is_at start.market → IsSoFar start all old source now before written waited
    → IsEnded end start then all rest before after)
breaks_after said ended is_at line old new source rest now then written after waited e gives cut =
    breaks_off said ended is_at old (gives.piece ++ new.left) source rest now then written after
    waited e (gives.taken ∙ prepend_known_twice gives.piece new.left rest) cut

-- the causes of a turn that read a line and said what it answers
pub causes_after : {T : Type 0} (said : Result T TellFault) (ended : Option Status)
    (disk disk_now inputs inputs_now sink sink_now : ℕ)
    → ended ≡ ended_by said → inputs_now ≡ inputs
    → HasTellCause said disk disk_now sink sink_now
    → MatchOption ended (CountsNoFault disk disk_now inputs inputs_now sink sink_now)
    (λ end. HasKeepCauses end disk disk_now inputs inputs_now sink sink_now)
causes_after said ended disk disk_now inputs inputs_now sink sink_now e same cause =
    subst (λ (o : Option Status). MatchOption o
    (CountsNoFault disk disk_now inputs inputs_now sink sink_now)
    (λ end. HasKeepCauses end disk disk_now inputs inputs_now sink sink_now)) (sym e)
    (at said cause)
  where
    at : {T : Type 0} (said : Result T TellFault) → HasTellCause said disk disk_now sink sink_now
        → MatchOption (ended_by said)
        (CountsNoFault disk disk_now inputs inputs_now sink sink_now)
        (λ end. HasKeepCauses end disk disk_now inputs inputs_now sink sink_now)
    at (Ok v) cause = (cause.0, (same, cause.1))
    at (Err Disk) cause = (cause.0, (same, cause.1))
    at (Err Sink) cause = (cause.0, (same, cause.1))

-- an answer is a fresh one where none stays
fresh_answer : (result : Next) (old new : Cutting) (source rest : Option (List ℕ))
    → old.last ≡ None
    → IsAnswer result old new source rest → IsFreshAnswer result old new source rest
fresh_answer result old new source rest none answer =
    subst (λ (o : Option Next). MatchOption o (IsFreshAnswer result old new source rest)
    (λ last. (result ≡ last) × Stays old new source rest last)) none answer

-- the end that stays
end_stays : (result : Next) (old new : Cutting) (source rest : Option (List ℕ))
    → old.last ≡ Some End → IsAnswer result old new source rest
    → (result ≡ End) × Stays old new source rest End
end_stays result old new source rest ended answer =
    subst (λ (o : Option Next). MatchOption o (IsFreshAnswer result old new source rest)
    (λ last. (result ≡ last) × Stays old new source rest last)) ended answer

-- while the lines go on, no answer but the end stays
none_stays : (result : Next) (old new : Cutting) (source rest : Option (List ℕ))
    → (result ≡ End → ⊥) → GoesOn old.last
    → IsAnswer result old new source rest → old.last ≡ None
none_stays result old new source rest other (inl none) answer = none
none_stays result old new source rest other (inr ended) answer =
    absurd (other (end_stays result old new source rest ended answer).0)

-- so each answer but the end is a fresh one
pub going_answer : (result : Next) (old new : Cutting) (source rest : Option (List ℕ))
    → (result ≡ End → ⊥) → GoesOn old.last → IsAnswer result old new source rest
    → (old.last ≡ None) × IsFreshAnswer result old new source rest
going_answer result old new source rest other goes_on answer =
    let none = none_stays result old new source rest other goes_on answer in
    (none, fresh_answer result old new source rest none answer)

pub stays_at_end : (old new : Cutting) (source rest : Option (List ℕ)) → GoesOn old.last
    → IsAnswer End old new source rest → Stays old new source rest End
stays_at_end old new source rest (inl none) answer =
    (fresh_answer End old new source rest none answer).0
stays_at_end old new source rest (inr ended) answer =
    (end_stays End old new source rest ended answer).1

pub none_left : (old new : Cutting) (source rest : Option (List ℕ)) (done left : List ℕ)
    → GoesOn old.last → IsAnswer End old new source rest
    → stream_left old source ≡ Some left → IsBetween old.last done left → left ≡ []
none_left old new source rest done left (inl none) answer known between =
    subst (λ (o : Option (List ℕ)). IsAtEnd o) known (fresh_answer End old new source rest none
    answer).1
none_left old new source rest done left (inr ended) answer known between =
    subst (λ (o : Option Next). IsBetween o done left) ended between

-- an answer other than a read fault leaves the count
pub steady : (result : Next) (old : Cutting) (before now : ℕ) → (result ≡ Unread → ⊥)
    → HasReadCause result old before now → now ≡ before
steady result old before now other cause = at result old.last other cause
  where
    at : (result : Next) (last : Option Next) → (result ≡ Unread → ⊥)
        → MatchOption last (CountsReadFault result before now) (λ _. now ≡ before) → now ≡ before
    at result (Some last) other cause = cause
    at Line None other cause = cause
    at Long None other cause = cause
    at End None other cause = cause
    at Overrun None other cause = cause
    at Unread None other cause = absurd (other refl)

pub risen : (old : Cutting) (before now : ℕ) → old.last ≡ None → HasReadCause Unread old before now
    → CountsFault before now
risen old before now none cause =
    subst (λ (o : Option Next). MatchOption o (CountsReadFault Unread before now)
    (λ _. now ≡ before)) none cause
