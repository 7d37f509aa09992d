-- What a turn of a run leaves of the changes that are held.
use Rattle.std.proofs.Common.{◌≡◌, ℕ, ◌+◌, ◌^◌, ◌<◌, ◌≤◌, List, [], ◌∷◌, ◌++◌, length, Option, None}
use Rattle.std.proofs.Common.{Some, Result, Ok, Err, OnOk, OnErr, MatchOption, IfNone, IfSome}
use Rattle.std.proofs.Common.{refl, sym, ap, subst, inl, inr, ◌∙◌, arith}
use Rattle.std.proofs.lemmas.List.{append-nil}
use Rattle.mk_io.specs.declared.status.Status.{Status}
use Rattle.mk_io.specs.declared.status.Status.TheVariants.{Done, ReadFault, TooMany}
use Rattle.mk_io.specs.declared.lines.Next.{Next}
use Rattle.mk_io.specs.declared.lines.Next.TheVariants.{Line, Long, End, ReadFault as Unread}
use Rattle.mk_io.specs.declared.lines.Next.TheVariants.{TooMany as Overrun}
use Rattle.mk_io.specs.Outside.{AddsFront}
use Rattle.mk_io.specs.Stream.{StreamLine, max_stream_lines}
use Rattle.mk_io.specs.Cutting.{Cutting, fresh, stream_left, GivesLine, IsWithinLimits, GoesOn}
use Rattle.mk_io.specs.Cutting.{TakesPiece, IsAnswer, HasReadCause, HoldsLine, IsLine}
use Rattle.mk_exact.specs.Market.{Market}
use Rattle.mk_rules.specs.Transcript.{Standing}
use Rattle.mk_market.specs.Trading.{Trading, IsAt}
use Rattle.mk_session.specs.declared.waiting.TellFault.{TellFault}
use Rattle.mk_session.specs.declared.waiting.TellFault.TheVariants.{Disk, Sink}
use Rattle.mk_session.specs.Transcript.{Start}
use Rattle.mk_session.specs.Left.{records_of, changes_from, IsLeft}
use Rattle.mk_session.specs.Outcome.{HasKeepCauses, EndsRun}
use Rattle.mk_session.specs.inner.Progress.{IsBegun, IsReady, IsSoFar, IsEnded, AreGathered}
use Rattle.mk_session.specs.inner.Telling.{HasTellCause, CountsNoFault, ended_by}
use Rattle.mk_session.specs.inner.Keeping.{HoldsSince, Tells, SpeaksAndTells, IsTold}
use Rattle.mk_session.specs.inner.Keeping.{AreHeld, AreLeft, IsHeldSoFar}
use Rattle.mk_session.specs.inner.Turning.{Moment, moment, holding, leaving, Turns, GoesFurther}
use Rattle.mk_session.specs.inner.Turning.{EndsThere, ended_at}
use Rattle.mk_session.proofs.Underway.{placed_next, placed_same, still_so_far}
use Rattle.mk_session.proofs.Gathering.{none_waits}
use Rattle.mk_session.proofs.Endings.{ended_done, ended_read_fault, ended_too_many}
use Rattle.mk_session.proofs.Endings.{goes_on_after, breaks_off, breaks_after, causes_after}
use Rattle.mk_session.proofs.Endings.{stays_at_end, none_left, steady, risen, going_answer}
use Rattle.mk_session.proofs.Going.{IsGoing, placed_at_start, causes_of_turn}
use Rattle.mk_session.proofs.Held.{held_more, left_more, left_now, left_of_placed}

-- no line more is answered
none_spoken : {T : Type 0} (said : Result T TellFault) (market : Market) (now : Standing)
    (before after : Option (List ℕ)) (waited waits : List ℕ) (least : ℕ) (all : List (List ℕ))
    (holds : ℕ → List (List ℕ) → Type 0) (leaves : List (List ℕ) → ℕ → Type 0)
    → Tells said before after waited [] waits least (length all) (λ n. holds n all) (leaves all)
    → SpeaksAndTells said market now [] now before after waited waits least all holds leaves
none_spoken said market now before after waited waits least all holds leaves tells = record {
  asked = [];
  replies = [];
  asks = tt;
  run = λ sound. refl;
  holds = subst (λ (l : List (List ℕ)). Tells said before after waited [] waits least (length l)
      (λ n. holds n l) (leaves l)) (sym (append-nil all)) tells;
}

module _ {T : Type 0} (said : Result T TellFault) (start : Start) (now : Standing)
    (before written after : Option (List ℕ)) (waited waits : List ℕ) (old : List (List ℕ))
    (holds holds' : ℕ → List (List ℕ) → Type 0) (leaves : List (List ℕ) → ℕ → Type 0)
    (tells : (least : ℕ) (all : List (List ℕ)) → holds least all
    → Tells said written after waited [] waits least (length all) (λ n. holds' n all)
    (leaves all)) (lines : List StreamLine)
    (far : AreHeld start lines now before written waited old holds) where
  abbrev all : List (List ℕ)
  all = old ++ records_of (changes_from start far.asked far.replies)

  abbrev told : SpeaksAndTells said start.market now [] now written after waited waits far.least
      all holds' leaves
  told = none_spoken said start.market now written after waited waits far.least all holds' leaves
      (tells far.least all far.held)

  -- what waits was told, or waits
  pub still_held : OnOk said (AreHeld start lines now before after waits old holds')
  still_held = subst (λ (ls : List StreamLine). OnOk said (AreHeld start ls now before after
      waits old holds')) (append-nil lines)
      (held_more start lines [] now now before written after waited waits old holds holds' leaves
      far said told)

  -- telling of it failed
  pub still_left : OnErr said (AreLeft start lines before after old leaves)
  still_left = subst (λ (ls : List StreamLine). OnErr said (AreLeft start ls before after old
      leaves)) (append-nil lines)
      (left_more start lines [] now now before written after waited waits old holds holds' leaves
      far said told)

-- the run goes on from there
pub held_from : (start : Start) (cutting : Cutting) (all : List ℕ)
    (source before written after : Option (List ℕ)) (now : Standing)
    (waited waits : List ℕ) (old : List (List ℕ))
    (holds holds' : ℕ → List (List ℕ) → Type 0) (leaves : List (List ℕ) → ℕ → Type 0)
    → ((least : ℕ) (all : List (List ℕ)) → holds least all
    → Tells {T = Unit {0}} (Ok tt) written after waited [] waits least (length all)
    (λ n. holds' n all) (leaves all))
    → IsHeldSoFar start all cutting source now before written waited old holds
    → IsHeldSoFar start all cutting source now before after waits old holds'
held_from start cutting all source before written after now waited waits old holds holds' leaves
    tells far =
    let told : Result (Unit {0}) TellFault = Ok tt in
    placed_same all cutting source
    (λ lines. AreHeld start lines now before written waited old holds)
    (λ lines. AreHeld start lines now before after waits old holds')
    (still_held told start now before written after waited waits old holds holds' leaves tells) far

-- or ends
pub kept_from : {T : Type 0} (said : Result T TellFault) (ended : Option Status) (start : Start)
    (cutting : Cutting) (all : List ℕ) (source before written after : Option (List ℕ))
    (now : Standing) (waited waits : List ℕ) (old : List (List ℕ))
    → ended ≡ ended_by said
    → (holds holds' : ℕ → List (List ℕ) → Type 0) (leaves : List (List ℕ) → ℕ → Type 0)
    → ((least : ℕ) (all : List (List ℕ)) → holds least all
    → Tells said written after waited [] waits least (length all) (λ n. holds' n all)
    (leaves all))
    → IsHeldSoFar start all cutting source now before written waited old holds
    → MatchOption ended (IsHeldSoFar start all cutting source now before after waits old holds')
    (λ end. IsLeft start all before after old leaves)
kept_from said ended start cutting all source before written after now waited waits old e holds
    holds' leaves tells far =
    subst (λ (o : Option Status). MatchOption o (IsHeldSoFar start all cutting source now before
    after waits old holds') (λ end. IsLeft start all before after old leaves)) (sym e)
    (at said tells)
  where
    fails : (T : Type 0) (fault : TellFault)
        → ((least : ℕ) (all : List (List ℕ)) → holds least all
        → Tells {T = T} (Err fault) written after waited [] waits least (length all)
        (λ n. holds' n all) (leaves all))
        → IsLeft start all before after old leaves
    fails T fault tells =
        let failed : Result T TellFault = Err fault in
        left_of_placed start all cutting source before after old leaves
        (placed_same all cutting source
        (λ lines. AreHeld start lines now before written waited old holds)
        (λ lines. AreLeft start lines before after old leaves)
        (still_left failed start now before written after waited waits old holds holds' leaves
        tells) far)

    at : {T : Type 0} (said : Result T TellFault)
        → ((least : ℕ) (all : List (List ℕ)) → holds least all
        → Tells said written after waited [] waits least (length all) (λ n. holds' n all)
        (leaves all))
        → MatchOption (ended_by said) (IsHeldSoFar start all cutting source now before
        after waits old holds') (λ end. IsLeft start all before after old leaves)
    at {T} (Ok v) tells = held_from start cutting all source before written after now waited waits
        old holds holds' leaves tells far
    at {T} (Err Disk) tells = fails T Disk tells
    at {T} (Err Sink) tells = fails T Sink tells

-- a run that ends where nothing more is told
pub kept_now : (start : Start) (cutting : Cutting) (all : List ℕ)
    (source before written : Option (List ℕ)) (now : Standing) (waited : List ℕ)
    (old : List (List ℕ)) (holds : ℕ → List (List ℕ) → Type 0)
    (leaves : List (List ℕ) → ℕ → Type 0)
    → ((n : ℕ) (rs : List (List ℕ)) → holds n rs → leaves rs n)
    → IsHeldSoFar start all cutting source now before written waited old holds
    → IsLeft start all before written old leaves
kept_now start cutting all source before written now waited old holds leaves leave far =
    left_of_placed start all cutting source before written old leaves
    (placed_same all cutting source
    (λ lines. AreHeld start lines now before written waited old holds)
    (λ lines. AreLeft start lines before written old leaves)
    (λ lines. left_now start lines now before written waited old holds leaves leave) far)

-- a line that was answered: the run goes on behind it, or ends there
pub kept_after : {T : Type 0} (said : Result T TellFault) (ended : Option Status)
    (start : Start) (line : StreamLine) (old new kept : Cutting) (all : List ℕ)
    (source rest before written after : Option (List ℕ)) (now then : Standing)
    (waited waits : List ℕ) (base : List (List ℕ))
    → ended ≡ ended_by said → kept ≡ new
    → old.last ≡ None → IsWithinLimits new
    → GivesLine line old new (stream_left old source) (stream_left new rest)
    → (holds holds' : ℕ → List (List ℕ) → Type 0) (leaves : List (List ℕ) → ℕ → Type 0)
    → ((least : ℕ) (all : List (List ℕ)) → holds least all
    → SpeaksAndTells said start.market now (line ∷ []) then written after waited waits least all
    holds' leaves)
    → IsHeldSoFar start all old source now before written waited base holds
    → MatchOption ended (IsHeldSoFar start all kept rest then before after waits base holds')
    (λ end. IsLeft start all before after base leaves)
kept_after said ended start line old new kept all source rest before written after now then
    waited waits base e same none limits gives holds holds' leaves tells far =
    subst (λ (o : Option Status). MatchOption o (IsHeldSoFar start all kept rest then before after
    waits base holds') (λ end. IsLeft start all before after base leaves)) (sym e)
    (at said tells)
  where
    fails : (T : Type 0) (fault : TellFault)
        → ((least : ℕ) (all : List (List ℕ)) → holds least all
        → SpeaksAndTells {T = T} (Err fault) start.market now (line ∷ []) then written after waited
        waits least all holds' leaves)
        → IsLeft start all before after base leaves
    fails T fault tells =
        let failed : Result T TellFault = Err fault in
        left_of_placed start all new rest before after base leaves
        (placed_next all line old new source rest
        (λ lines. AreHeld start lines now before written waited base holds)
        (λ lines. AreLeft start lines before after base leaves) none limits gives
        (λ lines held. left_more start lines (line ∷ []) now then before written after waited waits
        base holds holds' leaves held failed (tells held.least
        (base ++ records_of (changes_from start held.asked held.replies)) held.held)) far)

    at : {T : Type 0} (said : Result T TellFault)
        → ((least : ℕ) (all : List (List ℕ)) → holds least all
        → SpeaksAndTells said start.market now (line ∷ []) then written after waited waits least
        all holds' leaves)
        → MatchOption (ended_by said) (IsHeldSoFar start all kept rest then before after
        waits base holds') (λ end. IsLeft start all before after base leaves)
    at {T} (Ok v) tells =
        subst (λ (cutting : Cutting). IsHeldSoFar start all cutting rest then before after waits
        base holds') (sym same)
        (placed_next all line old new source rest
        (λ lines. AreHeld start lines now before written waited base holds)
        (λ lines. AreHeld start lines then before after waits base holds') none limits gives
        (λ lines held. held_more start lines (line ∷ []) now then before written after waited
        waits base holds holds' leaves held (Ok v)
        (tells held.least
        (base ++ records_of (changes_from start held.asked held.replies)) held.held)) far)
    at {T} (Err Disk) tells = fails T Disk tells
    at {T} (Err Sink) tells = fails T Sink tells

-- before the first line
pub held_at_start : {Own : Type 0} (start : Start) (trading : Trading Own) (all : List ℕ)
    (source before written : Option (List ℕ)) (waits : List ℕ)
    (kept : List (List ℕ)) (holds : List (List ℕ) → List (List ℕ) → Type 0)
    (passes : List (List ℕ) → ℕ → Type 0)
    → IsBegun start trading all source before written → waits ≡ [] → holds kept []
    → passes (kept ++ []) (length kept)
    → IsHeldSoFar start all fresh source trading.standing before written waits kept
    (HoldsSince holds passes (length kept))
held_at_start start trading all source before written waits kept holds passes begun empty held
    passed = placed_at_start all source (λ lines. AreHeld start lines trading.standing before
    written waits kept (HoldsSince holds passes (length kept))) begun.told
    (record {
      begins = begun.begins;
      bytes = start.head;
      added = begun.headed;
      asked = [];
      replies = [];
      asks = tt;
      run = begun.standing;
      printed = ap (λ (rest : List ℕ). start.head ++ rest) empty;
      least = length kept;
      no_fewer = omega arith;
      told = λ n few whole. omega arith;
      held = record {
        held = record {
          kept = kept;
          waiting = [];
          no_fewer = omega arith;
          parts = refl;
          held = held;
        };
        no_fewer = omega arith;
        passed = passed;
      };
    })

-- nothing was answered, and of the head a front was written
pub left_at_head : (start : Start) (all : List ℕ) (before after : Option (List ℕ))
    (kept : List (List ℕ)) (leaves : List (List ℕ) → ℕ → Type 0)
    → AddsFront before after start.head → leaves (kept ++ []) (length kept)
    → IsLeft start all before after kept leaves
left_at_head start all before after kept leaves cut left = record {
  done = [];
  rest = all;
  bytes = refl;
  lines = inl (inl refl);
  output = cut.front;
  added = cut.added;
  now = start.standing;
  asked = [];
  replies = [];
  asks = tt;
  run = refl;
  shown = record { rest = cut.rest; parts = append-nil start.head ∙ cut.parts };
  are = tt;
  least = length kept;
  no_fewer = omega arith;
  told = λ n few whole. omega arith;
  left = left;
}

-- what holds where telling succeeds, where it did
pub on_told : {T : Type 0} (said : Result T TellFault) (P : Type 0) → None ≡ ended_by said
    → OnOk said P → P
on_told (Ok v) P e p = p
on_told (Err Disk) P e p = absurd (cc)
on_told (Err Sink) P e p = absurd (cc)

-- a keeper is ready after a change that it was not told
pub ready_more : {T E : Type 0} (said : Result T E) (is_ready : ℕ → Type 0)
    → ((n : ℕ) → is_ready n → is_ready (n + 1)) → (n : ℕ) → OnOk said (is_ready n)
    → OnOk said (is_ready (n + 1))
ready_more (Ok v) is_ready later n is = later n is
ready_more (Err e) is_ready later n is = tt

-- where telling fails, a run ends so
ends_so : {T : Type 0} (said : Result T TellFault) → IfSome (ended_by said) EndsRun
ends_so (Ok v) = tt
ends_so (Err Disk) = tt
ends_so (Err Sink) = tt

module _ {T D K S : Type 0} {is_ready : K → D → ℕ → Type 0} {disk_faults : D → ℕ}
    {holds : K → D → List ℕ → List ℕ → List (List ℕ) → List (List ℕ) → Type 0}
    {leaves : D → List ℕ → List ℕ → List (List ℕ) → ℕ → Type 0}
    {passes : D → D → List ℕ → List ℕ → List (List ℕ) → ℕ → Type 0}
    {written : S → Option (List ℕ)} {sink_faults : S → ℕ} {said : Result T TellFault}
    {keeper keeper' : K} {disk disk' : D} {out out' : S} {waited waits : List ℕ}
    (told : IsTold is_ready disk_faults holds leaves passes written sink_faults said keeper keeper'
    disk disk' out out' waited [] waits) (is_at : Market → Type 0) (lines : Cutting)
    (source : Option (List ℕ)) (standing : Standing) (inputs : ℕ) where
  abbrev at_first : Moment
  at_first = moment disk_faults (λ (i : Unit {0}). source) (λ (i : Unit {0}). inputs) written
      sink_faults lines standing waited disk tt out

  abbrev at_told : Moment
  at_told = record at_first {
    written = written out';
    waits = waits;
    disk = disk_faults disk';
    sink = sink_faults out';
  }

  -- what waits was not told: the run ends
  pub turn_told : (end : Status) → Some end ≡ ended_by said
      → EndsThere end is_at at_first at_told (holding holds passes keeper disk)
      (leaving leaves passes disk')
  turn_told end e = record {
    ends = subst (λ (o : Option Status). IfSome o EndsRun) (sym e) (ends_so said);
    causes = causes_after said (Some end) (disk_faults disk) (disk_faults disk') inputs inputs
        (sink_faults out) (sink_faults out') e refl told.cause;
    ended = breaks_off said (Some end) is_at lines lines.left source source standing standing
        (written out) (written out') waited e refl told.front;
    left = λ start begun name bytes all before kept here far.
        kept_from said (Some end) start lines all source before (written out) (written out')
        standing waited waits kept e
        (holding holds passes keeper disk begun name bytes (length kept))
        (holding holds passes keeper' disk' begun name bytes (length kept))
        (leaving leaves passes disk' begun name bytes (length kept))
        (told.tells begun name bytes (length kept)) far;
  }

  module _ (e : None ≡ ended_by said) where
    so_far_mid : (start : Start) (all : List ℕ) (before : Option (List ℕ))
        → IsSoFar start all lines source standing before (written out) waited
        → IsSoFar start all lines source standing before (written out') waits
    so_far_mid start all before far =
        still_so_far start all lines source standing before (written out) (written out') waited
        waits (on_told said _ e told.gathers) far

    held_mid : (start : Start) (begun : D) (name bytes all : List ℕ) (before : Option (List ℕ))
        (kept : List (List ℕ))
        → IsHeldSoFar start all lines source standing before (written out) waited kept
        (holding holds passes keeper disk begun name bytes (length kept))
        → IsHeldSoFar start all lines source standing before (written out') waits kept
        (holding holds passes keeper' disk' begun name bytes (length kept))
    held_mid start begun name bytes all before kept far =
        kept_from said None start lines all source before (written out) (written out')
        standing waited waits kept e
        (holding holds passes keeper disk begun name bytes (length kept))
        (holding holds passes keeper' disk' begun name bytes (length kept))
        (leaving leaves passes disk' begun name bytes (length kept))
        (told.tells begun name bytes (length kept)) far

    none_mid : CountsNoFault (disk_faults disk) (disk_faults disk') inputs inputs
        (sink_faults out) (sink_faults out')
    none_mid = causes_after said None (disk_faults disk) (disk_faults disk') inputs inputs
        (sink_faults out) (sink_faults out') e refl told.cause

    -- it was told: the run goes on behind it
    pub further_from : {new : Moment} {is_ready' : ℕ → Type 0}
        {holds' : D → List ℕ → List ℕ → ℕ → ℕ → List (List ℕ) → Type 0}
        → GoesFurther is_at at_told new (is_ready keeper' disk') is_ready'
        (holding holds passes keeper' disk') holds'
        → GoesFurther is_at at_first new (is_ready keeper disk) is_ready'
        (holding holds passes keeper disk) holds'
    further_from further = record {
      goes_on = further.goes_on;
      counts = further.counts;
      within = further.within;
      ready = λ n few is.
          let less : n < 2 ^ 40 = omega (arith, few) in
          further.ready n few (on_told said _ e (told.ready n less is));
      no_fault = (
        further.no_fault.0 ∙ none_mid.0,
        (further.no_fault.1.0, further.no_fault.1.1 ∙ none_mid.1.1),
      );
      so_far = λ start all before here far.
          further.so_far start all before here (so_far_mid start all before far);
      held = λ start begun name bytes all before kept here far.
          further.held start begun name bytes all before kept here
          (held_mid start begun name bytes all before kept far);
    }

    -- or ends
    pub ends_from : {end : Status} {new : Moment}
        {leaves' : D → List ℕ → List ℕ → ℕ → List (List ℕ) → ℕ → Type 0}
        → EndsThere end is_at at_told new (holding holds passes keeper' disk') leaves'
        → EndsThere end is_at at_first new (holding holds passes keeper disk) leaves'
    ends_from {end} {new} there = record {
      ends = there.ends;
      causes = causes_of_turn end (disk_faults disk) (disk_faults disk') new.disk inputs inputs
          new.inputs (sink_faults out) (sink_faults out') new.sink none_mid there.causes;
      ended = λ start all before here far.
          there.ended start all before here (so_far_mid start all before far);
      left = λ start begun name bytes all before kept here far.
          there.left start begun name bytes all before kept here
          (held_mid start begun name bytes all before kept far);
    }

-- the run ends by the turn that ends it
module _ {Own D : Type 0} {begun trading : Trading Own} {commands : Option (List ℕ)}
    {lines : Cutting} {source headed written : Option (List ℕ)} {waits : List ℕ}
    {opened_before opened : Option (List ℕ)}
    {disk_before disk inputs_before inputs sink_before sink : ℕ} {begins is_ready : ℕ → Type 0}
    (going : IsGoing begun trading commands lines source headed written waits opened_before opened
    disk_before disk inputs_before inputs sink_before sink begins is_ready) {end : Status}
    {new : Moment} {holds : D → List ℕ → List ℕ → ℕ → ℕ → List (List ℕ) → Type 0}
    {leaves : D → List ℕ → List ℕ → ℕ → List (List ℕ) → ℕ → Type 0}
    (turn : EndsThere end (λ start. IsAt start trading) (record {
      lines = lines;
      source = source;
      standing = trading.standing;
      written = written;
      waits = waits;
      disk = disk;
      inputs = inputs;
      sink = sink;
    }) new holds leaves) where
  pub run_ended : (start : Start) (all : List ℕ) (before : Option (List ℕ))
      → IsBegun start begun all commands before headed
      → IsEnded end start new.standing all new.source before new.written
  run_ended start all before is =
      turn.ended start all before (going.market start.market is.market)
      (going.far start all before is)

  pub run_causes : HasKeepCauses end disk_before new.disk inputs_before new.inputs sink_before
      new.sink
  run_causes = causes_of_turn end disk_before disk new.disk inputs_before inputs new.inputs
      sink_before sink new.sink going.counts turn.causes

if_none : (ended : Option Status) (P : Type 0) → P → IfNone ended P
if_none None P p = p
if_none (Some end) P p = tt

goes_on_behind : (piece : List ℕ) (last : Option Next) (after : Option (List ℕ))
    → TakesPiece piece last after → GoesOn last
goes_on_behind piece last after (inl lf) = inl lf.1
goes_on_behind piece last after (inr end) = inr end.1

module _ {D : Type 0} (is_at : Market → Type 0) (old new : Moment) (is_ready is_ready' : ℕ → Type 0)
    (holds holds' : D → List ℕ → List ℕ → ℕ → ℕ → List (List ℕ) → Type 0)
    (leaves : D → List ℕ → List ℕ → ℕ → List (List ℕ) → ℕ → Type 0) where
  turns : (ended : Option Status) → IfSome ended EndsRun
      → IfNone ended (GoesOn new.lines.last)
      → IfNone ended (new.lines.given ≡ old.lines.given + 1)
      → IfNone ended (new.lines.given ≤ max_stream_lines)
      → IfNone ended ((n : ℕ) → n + 1 < 2 ^ 40 → is_ready n → is_ready' (n + 1))
      → MatchOption ended
      (CountsNoFault old.disk new.disk old.inputs new.inputs old.sink new.sink)
      (λ end. HasKeepCauses end old.disk new.disk old.inputs new.inputs old.sink new.sink)
      → IfNone ended ((start : Start) (all : List ℕ) (before : Option (List ℕ))
      → is_at start.market
      → IsSoFar start all old.lines old.source old.standing before old.written old.waits
      → IsSoFar start all new.lines new.source new.standing before new.written new.waits)
      → IfSome ended (λ end. (start : Start) (all : List ℕ) (before : Option (List ℕ))
      → is_at start.market
      → IsSoFar start all old.lines old.source old.standing before old.written old.waits
      → IsEnded end start new.standing all new.source before new.written)
      → ((start : Start) (begun : D) (name bytes all : List ℕ) (before : Option (List ℕ))
      (kept : List (List ℕ)) → is_at start.market
      → IsHeldSoFar start all old.lines old.source old.standing before old.written old.waits kept
      (holds begun name bytes (length kept))
      → MatchOption ended
      (IsHeldSoFar start all new.lines new.source new.standing before new.written new.waits kept
      (holds' begun name bytes (length kept)))
      (λ end. IsLeft start all before new.written kept (leaves begun name bytes (length kept))))
      → Turns ended is_at old new is_ready is_ready' holds holds' leaves
  turns None ends goes_on counts within ready causes far ended kept = record {
    goes_on = goes_on;
    counts = counts;
    within = within;
    ready = ready;
    no_fault = causes;
    so_far = far;
    held = kept;
  }
  turns (Some end) ends goes_on counts within ready causes far ended kept = record {
    ends = ends;
    causes = causes;
    ended = ended;
    left = kept;
  }

  ready_told : {T : Type 0} (said : Result T TellFault)
      → ((n : ℕ) → n + 1 < 2 ^ 40 → is_ready n → OnOk said (is_ready' (n + 1)))
      → IfNone (ended_by said) ((n : ℕ) → n + 1 < 2 ^ 40 → is_ready n → is_ready' (n + 1))
  ready_told (Ok v) ready = ready
  ready_told (Err Disk) ready = tt
  ready_told (Err Sink) ready = tt

  -- a line was given and answered
  pub turn_after : {T : Type 0} (said : Result T TellFault) (ended : Option Status)
      (line : StreamLine) (cut : Cutting) → ended ≡ ended_by said → new.lines ≡ cut
      → old.lines.last ≡ None → IsWithinLimits cut
      → GivesLine line old.lines cut (stream_left old.lines old.source)
      (stream_left cut new.source)
      → new.inputs ≡ old.inputs
      → ((n : ℕ) → n + 1 < 2 ^ 40 → is_ready n → OnOk said (is_ready' (n + 1)))
      → HasTellCause said old.disk new.disk old.sink new.sink
      → ((file : Market) → is_at file → OnOk said (AreGathered file old.standing (line ∷ [])
      new.standing old.written new.written old.waits new.waits))
      → OnErr said (AddsFront old.written new.written old.waits)
      → ((file : Market) → is_at file → (begun : D) (name bytes : List ℕ) (first least : ℕ)
      (all : List (List ℕ)) → holds begun name bytes first least all
      → SpeaksAndTells said file old.standing (line ∷ []) new.standing old.written new.written
      old.waits new.waits least all (holds' begun name bytes first)
      (leaves begun name bytes first))
      → Turns ended is_at old new is_ready is_ready' holds holds' leaves
  turn_after said ended line cut e same none limits gives unread ready cause answered front
      tells =
      turns ended (subst (λ (o : Option Status). IfSome o EndsRun) (sym e) (ends_so said))
      (if_none ended _ (subst (λ (c : Cutting). GoesOn c.last) (sym same)
      (goes_on_behind gives.piece cut.last (stream_left cut new.source) gives.ends)))
      (if_none ended _ (ap (λ (c : Cutting). c.given) same ∙ gives.given))
      (if_none ended _ (subst (λ (c : Cutting). c.given ≤ max_stream_lines) (sym same)
      limits.given))
      (subst (λ (o : Option Status). IfNone o ((n : ℕ) → n + 1 < 2 ^ 40 → is_ready n
      → is_ready' (n + 1))) (sym e) (ready_told said ready))
      (causes_after said ended old.disk new.disk old.inputs new.inputs old.sink new.sink e unread
      cause)
      (goes_on_after said ended is_at line old.lines cut new.lines old.source new.source
      old.standing new.standing old.written new.written old.waits new.waits e same none limits
      gives answered)
      (breaks_after said ended is_at line old.lines cut old.source new.source old.standing
      new.standing old.written new.written old.waits e gives front)
      (λ start begun name bytes all before kept here far.
      kept_after said ended start line old.lines cut new.lines all old.source new.source before
      old.written new.written old.standing new.standing old.waits new.waits kept e same none
      limits gives (holds begun name bytes (length kept)) (holds' begun name bytes (length kept))
      (leaves begun name bytes (length kept))
      (tells start.market here begun name bytes (length kept)) far)

-- no line was given: the run ends
module _ {D : Type 0} (is_at : Market → Type 0) (old : Moment) (cut : Cutting)
    (rest : Option (List ℕ)) (inputs : ℕ) (is_ready is_ready' : ℕ → Type 0)
    (holds holds' : D → List ℕ → List ℕ → ℕ → ℕ → List (List ℕ) → Type 0)
    (leaves : D → List ℕ → List ℕ → ℕ → List (List ℕ) → ℕ → Type 0)
    (leave : (begun : D) (name bytes : List ℕ) (first least : ℕ) (all : List (List ℕ))
    → holds begun name bytes first least all → leaves begun name bytes first all least)
    (goes_on : GoesOn old.lines.last) (ready : IsReady old.lines old.waits) where
  abbrev over_at : Moment
  over_at = record old { lines = cut; source = rest; inputs = inputs }

  over : (end : Status) → EndsRun end
      → HasKeepCauses end old.disk old.disk old.inputs inputs old.sink old.sink
      → ((start : Start) (all : List ℕ) (before : Option (List ℕ))
      → IsSoFar start all old.lines old.source old.standing before old.written old.waits
      → IsEnded end start old.standing all rest before old.written)
      → EndsThere end is_at old over_at holds leaves
  over end ends causes ended = record {
    ends = ends;
    causes = causes;
    ended = λ start all before here far. ended start all before far;
    left = λ start begun name bytes all before kept here far.
        kept_now start old.lines all old.source before old.written old.standing old.waits kept
        (holds begun name bytes (length kept)) (leaves begun name bytes (length kept))
        (λ n rs held. leave begun name bytes (length kept) n rs held) far;
  }

  at_next : (next : Next) → (next ≡ Line → ⊥) → (next ≡ Long → ⊥)
      → IsAnswer next old.lines cut old.source rest
      → HasReadCause next old.lines old.inputs inputs → (HoldsLine old.lines → IsLine next)
      → Turns (ended_at next) is_at old over_at is_ready is_ready' holds holds' leaves
  at_next Line no_line not_long answer cause held = absurd (no_line refl)
  at_next Long no_line not_long answer cause held = absurd (not_long refl)
  at_next End no_line not_long answer cause held =
      over Done tt (refl, (steady End old.lines old.inputs inputs (λ e. (cc)) cause, refl))
      (λ start all before far.
      ended_done start all old.lines cut old.source rest old.standing before old.written
      old.written old.waits (none_waits old.lines old.waits ready held) far
      (none_left old.lines cut old.source rest far.done far.left goes_on answer far.known
      far.between)
      (stays_at_end old.lines cut old.source rest goes_on answer) refl)
  at_next Unread no_line not_long answer cause held =
      let going = going_answer Unread old.lines cut old.source rest (λ e. (cc)) goes_on answer in
      over ReadFault tt (refl, (risen old.lines old.inputs inputs going.0 cause, refl))
      (λ start all before far.
      ended_read_fault start all old.lines cut old.source rest old.standing before old.written
      old.written old.waits (none_waits old.lines old.waits ready held) far going.0 refl going.1)
  at_next Overrun no_line not_long answer cause held =
      let going = going_answer Overrun old.lines cut old.source rest (λ e. (cc)) goes_on answer in
      over TooMany tt (refl, (steady Overrun old.lines old.inputs inputs (λ e. (cc)) cause, refl))
      (λ start all before far.
      ended_too_many start all old.lines cut old.source rest old.standing before old.written
      old.written old.waits (none_waits old.lines old.waits ready held) far going.0 refl going.1)

  pub turn_over : (next : Next) (ended : Option Status) → ended ≡ ended_at next
      → (next ≡ Line → ⊥) → (next ≡ Long → ⊥) → IsAnswer next old.lines cut old.source rest
      → HasReadCause next old.lines old.inputs inputs → (HoldsLine old.lines → IsLine next)
      → Turns ended is_at old over_at is_ready is_ready' holds holds' leaves
  turn_over next ended e no_line not_long answer cause held =
      subst
      (λ (o : Option Status). Turns o is_at old over_at is_ready is_ready' holds holds' leaves)
      (sym e) (at_next next no_line not_long answer cause held)
