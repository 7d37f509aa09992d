-- What the end of a run over a store says, by what was found of its market file and of the store.
use Rattle.std.proofs.Common.{◌≡◌, ℕ, ◌≤◌, List, [], ◌++◌, length, Option}
use Rattle.std.proofs.Common.{Some, Result, Ok, Err, IsOk, ◌⊎◌, inl, inr, refl, sym, ap}
use Rattle.std.proofs.Common.{subst, ◌∙◌, arith}
use Rattle.std.proofs.Common.{Bool, true, false, nat_lt, if◌then◌else◌, ap₂}
use Rattle.std.proofs.lemmas.Bool.{ltb-false}
use Rattle.std.proofs.lemmas.List.{take_all}
use Rattle.mk_io.specs.declared.status.Status.{Status}
use Rattle.mk_io.specs.declared.status.Status.TheVariants.{Done, Usage, MarketRefused, ReadFault}
use Rattle.mk_io.specs.declared.status.Status.TheVariants.{WriteFault, Memory, TooMany}
use Rattle.mk_io.specs.declared.status.Status.TheVariants.{DiskFault, StoreRefused}
use Rattle.mk_io.specs.Outside.{append_known, Rose}
use Rattle.mk_io.proofs.Told.{append_known_none}
use Rattle.mk_exact.specs.Market.{Market, present}
use Rattle.mk_exact.specs.History.{Entry, revision}
use Rattle.mk_file.specs.declared.fault.FileFault.{FileFault}
use Rattle.mk_file.specs.declared.fault.FileFault.TheVariants.{TooLong, Memory as FileMemory}
use Rattle.mk_file.specs.File.{file_of, of_document, document_of}
use Rattle.mk_journal.specs.Store.{IsUnstarted, StandsFor}
use Rattle.mk_disk.specs.Disk.{Elapses}
use Rattle.mk_journal.specs.Moments.{LeavesOnly}
use Rattle.mk_journal.specs.Market.{IsFront}
use Rattle.mk_journal.specs.inner.MomentLaws.{started as begun_here, then as and_then, weaken}
use Rattle.mk_journal.proofs.Lasting.{goes_on}
use Rattle.mk_session.specs.Left.{IsLeft, LeavesSince, records_of, changes_from}
use Rattle.mk_session.specs.Opening.{opened_part}
use Rattle.mk_session.proofs.Serving.{opened_same}
use Rattle.mk_session.specs.Transcript.{Start, started, resumed}
use Rattle.mk_session.specs.Begins.{CanBegin}
use Rattle.mk_rules.specs.Standings.{IsMarket, IsReady, Stands}
use Rattle.mk_rules.specs.Transcript.{Standing}
use Rattle.mk_rules.proofs.Ready.{unquoted_is_ready}
use Rattle.mk_rules.proofs.Follows.{bounded_in}
use Rattle.mk_restore.specs.Laws.{IsSafe}
use Rattle.mk_market.specs.Trading.{Trading, IsAt}
use Rattle.mk_session.specs.Complete.{AreWithin}
use Rattle.mk_session.specs.Outcome.{Adds, Refuses, Serves, IsServed, EndsRun, HasCauses}
use Rattle.mk_session.specs.Outcome.{HasKeepCauses}
use Rattle.mk_session.proofs.Completing.{past_limits}
use Rattle.mk_durable.specs.declared.fault.ResumeFault.{ResumeFault}
use Rattle.mk_durable.specs.declared.fault.ResumeFault.TheVariants as why
use Rattle.mk_durable.specs.Recovery.{GivesBack, IsHonest, unquoted}
use Rattle.mk_durable.specs.Resuming.{IsRefused}
use Rattle.mk_durable.specs.KeepOutcome.{StopsBefore, EndsKeep, OpenedKeep, RefusesStore}
use Rattle.mk_durable.specs.KeepOutcome.{KeepsChanges, IsAsBefore, GivesSound, IsSoundStore}
use Rattle.mk_durable.specs.KeepOutcome.{IsHonestStore, AreHonest}
use Rattle.mk_durable.specs.inner.Preparing.{AreHonestTo, Stops}
use Rattle.mk_durable.proofs.Refusing.{gives_one, refuses_no_honest}

-- what gives a market is not refused for its length
is_short : (long : Bool) (given : Result Market FileFault) (market : Market)
    → (if long then Err TooLong else given) ≡ Ok market → long ≡ false
is_short true given market e = absurd (ok_is_not_long (sym e))
  where
    ok_is_not_long : Ok market ≡ Err TooLong → ⊥
    ok_is_not_long f = cc
is_short false given market e = refl

pub file_is_few : (file : List ℕ) (market : Market) → file_of file ≡ Ok market
    → length file ≤ 1048576
file_is_few file market given =
    ltb-false 1048576 (length file)
    (is_short (nat_lt 1048576 (length file)) (of_document (document_of file)) market given)

-- so all of such a file is read
pub read_whole : (file : List ℕ) (market : Market) → file_of file ≡ Ok market
    → opened_part file ≡ file
unfolding opened_part
read_whole file market given =
    let few = file_is_few file market given in
    take_all 1048577 file (omega arith)

-- nothing was written
none_added : (written : Option (List ℕ)) (P : List ℕ → Type 0) → P [] → Adds written written P
none_added written P holds = record {
  bytes = [];
  added = append_known_none written;
  holds = holds;
}

-- what is left behind a run and at each moment of it, for what is left since the call began
pub left_since_call : (start : Start) (all : List ℕ) (before written : Option (List ℕ))
    (old : List (List ℕ)) (leaves passes leaves' passes' : List (List ℕ) → ℕ → Type 0)
    → ((all_records : List (List ℕ)) (least : ℕ) → leaves all_records least
    → leaves' all_records least)
    → ((all_records : List (List ℕ)) (least : ℕ) → passes all_records least
    → passes' all_records least)
    → IsLeft start all before written old (LeavesSince leaves passes (length old))
    → IsLeft start all before written old (LeavesSince leaves' passes' (length old))
left_since_call start all before written old leaves passes leaves' passes' now moments left =
    record {
      done = left.done;
      rest = left.rest;
      bytes = left.bytes;
      lines = left.lines;
      output = left.output;
      added = left.added;
      now = left.now;
      asked = left.asked;
      replies = left.replies;
      asks = left.asks;
      run = left.run;
      shown = left.shown;
      are = left.are;
      least = left.least;
      no_fewer = left.no_fewer;
      told = left.told;
      left = record {
        now = now (old ++ records_of (changes_from start left.asked left.replies)) left.least
            left.left.now;
        any_moment = moments (old ++ records_of (changes_from start left.asked left.replies))
            (length old) left.left.any_moment;
      };
    }

-- a run over a store whose market file could not be read, or is refused, or gives a market
pub ends_by_file : (status : Status) (file stored all : List ℕ)
    (source before written : Option (List ℕ)) → ((market : Market) → file_of file ≡ Ok market
    → OpenedKeep status (Ok market) file stored all source before written)
    → ((fault : FileFault) → file_of file ≡ Err fault
    → Adds before written (Refuses status fault) × (source ≡ Some all))
    → OpenedKeep status (file_of file) file stored all source before written
ends_by_file status file stored all source before written accepted refused = at (file_of file) refl
  where
    at : (given : Result Market FileFault) → file_of file ≡ given
        → OpenedKeep status given file stored all source before written
    at (Ok market) e = accepted market e
    at (Err fault) e =
        let said = refused fault e in
        record {
          rest = all;
          told = said.1;
          output = record {
            bytes = said.0.bytes;
            added = said.0.added;
            holds = (said.0.holds, refl);
          };
        }

pub keeps_by_file : (file stored all : List ℕ) (before written : Option (List ℕ))
    (images images_now : List ℕ → Type 0) (moments : (List ℕ → Type 0) → Type 0)
    → ((market : Market) → file_of file ≡ Ok market
    → KeepsChanges (Ok market) file stored all before written images images_now moments)
    → ((fault : FileFault) → file_of file ≡ Err fault → moments images)
    → KeepsChanges (file_of file) file stored all before written images images_now moments
keeps_by_file file stored all before written images images_now moments accepted refused =
    at (file_of file) refl
  where
    at : (given : Result Market FileFault) → file_of file ≡ given
        → KeepsChanges given file stored all before written images images_now moments
    at (Ok market) e = accepted market e
    at (Err fault) e = refused fault e

-- where nothing was written and each image is from before, that is so of each market file
pub keeps_as_before : (given : Result Market FileFault) (file stored all : List ℕ)
    (before written : Option (List ℕ)) (images images_now images_since : List ℕ → Type 0)
    → written ≡ before → ((c : List ℕ) → images_since c → images c)
    → KeepsChanges given file stored all before written images images_now
    (λ P. (c : List ℕ) → images_since c → P c)
keeps_as_before (Ok market) file stored all before written images images_now images_since nothing
    same = inl (nothing, λ c is. inl (same c is))
keeps_as_before (Err fault) file stored all before written images images_now images_since nothing
    same = same

as_before_still : (file : List ℕ) (images images' : List ℕ → Type 0)
    → ((c : List ℕ) → images c → images' c) → (c : List ℕ) → IsAsBefore file images c
    → IsAsBefore file images' c
as_before_still file images images' more c (inl was) = inl (more c was)
as_before_still file images images' more c (inr alike) = inr (record {
  other = alike.other;
  was = more alike.other alike.was;
  records = alike.records;
  one = alike.one;
  both = alike.both;
})

-- what is kept since a later moment, since an earlier one
pub keeps_still : (market : Market) (file stored all : List ℕ) (before written : Option (List ℕ))
    (images images' images_now : List ℕ → Type 0) (moments moments' : (List ℕ → Type 0) → Type 0)
    → ((c : List ℕ) → images c → images' c)
    → ((P Q : List ℕ → Type 0) → ((c : List ℕ) → images' c → Q c) → ((c : List ℕ) → P c → Q c)
    → moments P → moments' Q)
    → KeepsChanges (Ok market) file stored all before written images images_now moments
    → KeepsChanges (Ok market) file stored all before written images' images_now moments'
keeps_still market file stored all before written images images' images_now moments moments' more
    step (inl nothing) = inl (
      nothing.0,
      step (IsAsBefore file images) (IsAsBefore file images')
          (λ c was. inl was) (as_before_still file images images' more) nothing.1,
    )
keeps_still market file stored all before written images images' images_now moments moments' more
    step (inr kept) = inr (record {
      records = kept.records;
      history = kept.history;
      gives = kept.gives;
      left = left_since_call (resumed market kept.history) all before written kept.records
          (λ together least. (c : List ℕ) → images_now c → IsFront file together least c)
          (λ together least. moments
          (λ c. IsAsBefore file images c ⊎ IsFront file together least c))
          (λ together least. (c : List ℕ) → images_now c → IsFront file together least c)
          (λ together least. moments'
          (λ c. IsAsBefore file images' c ⊎ IsFront file together least c))
          (λ together least now. now)
          (λ together least. step (λ c. IsAsBefore file images c ⊎ IsFront file together least c)
          (λ c. IsAsBefore file images' c ⊎ IsFront file together least c)
          (λ c was. inl (inl was)) (either_still file images images' more together least))
          kept.left;
    })
  where
    either_still : (file : List ℕ) (images images' : List ℕ → Type 0)
        → ((c : List ℕ) → images c → images' c) → (together : List (List ℕ)) (least : ℕ)
        (c : List ℕ) → IsAsBefore file images c ⊎ IsFront file together least c
        → IsAsBefore file images' c ⊎ IsFront file together least c
    either_still file images images' more together least c (inl was) =
        inl (as_before_still file images images' more c was)
    either_still file images images' more together least c (inr front) = inr front

-- memory was wanting, or the disk failed, before the store was opened
stops_before : (status : Status) (all output : List ℕ) → (status ≡ Memory) ⊎ (status ≡ DiskFault)
    → output ≡ [] → StopsBefore status all all output
stops_before status all output (inl e) nothing =
    subst (λ (s : Status). StopsBefore s all all output) (sym e)
    (record { nothing = nothing; unread = refl })
stops_before status all output (inr e) nothing =
    subst (λ (s : Status). StopsBefore s all all output) (sym e)
    (record { nothing = nothing; unread = refl })

pub stopped_before : (status : Status) (market : Market) (file stored all : List ℕ)
    (source written : Option (List ℕ)) → (status ≡ Memory) ⊎ (status ≡ DiskFault)
    → source ≡ Some all → OpenedKeep status (Ok market) file stored all source written written
stopped_before status market file stored all source written cause told = record {
  rest = all;
  told = told;
  output = none_added written (EndsKeep status (Ok market) file stored all all)
      (inl (stops_before status all [] cause refl));
}

-- the store was not opened: nothing was written, or the store is refused
ends_stopped : (status : Status) (fault : ResumeFault) (market : Market)
    (file stored all output : List ℕ) → Stops status fault output
    → IsRefused market file stored fault → EndsKeep status (Ok market) file stored all all output
ends_stopped status why.Disk market file stored all output stops refused =
    inl (stops_before status all output (inr stops.0) stops.1)
ends_stopped status why.Memory market file stored all output stops refused =
    inl (stops_before status all output (inl stops.0) stops.1)
ends_stopped status (why.Refused fault) market file stored all output stops refused =
    inr (inl (record { fault = fault; cause = refused; line = stops; unread = refl }))

pub stopped : (status : Status) (fault : ResumeFault) (market : Market)
    (file stored all : List ℕ) (source before written : Option (List ℕ)) → source ≡ Some all
    → Adds before written (Stops status fault) → IsRefused market file stored fault
    → OpenedKeep status (Ok market) file stored all source before written
stopped status fault market file stored all source before written told said refused = record {
  rest = all;
  told = told;
  output = record {
    bytes = said.bytes;
    added = said.added;
    holds = ends_stopped status fault market file stored all said.bytes said.holds refused;
  };
}

-- a store that is honest is not refused
says_nothing : (status : Status) (fault : ResumeFault) (market : Market)
    (file stored output : List ℕ) → IsHonest market file stored → Stops status fault output
    → IsRefused market file stored fault → output ≡ []
says_nothing status why.Disk market file stored output honest stops refused = stops.1
says_nothing status why.Memory market file stored output honest stops refused = stops.1
says_nothing status (why.Refused fault) market file stored output honest stops refused =
    absurd (refuses_no_honest market file stored fault honest refused)

pub nothing_told : (status : Status) (fault : ResumeFault) (market : Market)
    (file stored : List ℕ) (before written : Option (List ℕ)) → IsHonest market file stored
    → Adds before written (Stops status fault) → IsRefused market file stored fault
    → written ≡ before
nothing_told status fault market file stored before written honest said refused =
    said.added
    ∙ ap (λ (bytes : List ℕ). append_known before bytes)
    (says_nothing status fault market file stored said.bytes honest said.holds refused)
    ∙ sym (append_known_none before)

-- at each moment of the opening of a file, its images are those from before
pub opens_as_before : {before now : ℕ} {past since : ℕ → List ℕ → Type 0}
    {images images_now : List ℕ → Type 0} → Elapses before now past since images_now
    → ((c : List ℕ) → past before c → images c) → ((c : List ℕ) → images_now c → images c)
    → LeavesOnly before now past since images
opens_as_before time only_now no_more = goes_on (begun_here only_now) time no_more

-- an image of a moment of the opening of a store is one from before, or stands for no record as the
-- store did
pub resumes_as_before : (file stored : List ℕ) (images middle : List ℕ → Type 0) (c : List ℕ)
    → images stored → ((c : List ℕ) → middle c → images c)
    → middle c ⊎ (IsUnstarted file stored × StandsFor file [] c) → IsAsBefore file images c
resumes_as_before file stored images middle c is_image no_more (inl was) = inl (no_more c was)
resumes_as_before file stored images middle c is_image no_more (inr new) = inr (record {
  other = stored;
  was = is_image;
  records = [];
  one = inl (new.0, refl);
  both = new.1;
})

-- the history that an honest file gives back stands
pub stands_given : (market : Market) (file stored : List ℕ) (records : List (List ℕ))
    (history : List Entry) → IsHonest market file stored
    → GivesBack market file stored records history → Stands (present market history) history
stands_given market file stored records history honest gives =
    subst (λ (H : List Entry). Stands (present market H) H)
    (gives_one market file stored honest.records records honest.history history honest.gives
    gives).1 honest.stands

-- the market of a file that stands at the history that its store gave back can go on from there
pub can_go_on : {Own : Type 0} (market : Market) (now : Trading Own) → IsMarket market
    → IsAt market now → now.standing ≡ unquoted now.standing.history
    → Stands (present market now.standing.history) now.standing.history
    → IsSafe now.market now.standing.history → CanBegin market now.standing
can_go_on market now is_market here quotes stands safe = record {
  is_market = is_market;
  ready = subst (λ (s : Standing). IsReady (present market now.standing.history) s) (sym quotes)
      (unquoted_is_ready (present market now.standing.history) now.standing.history stands);
  bounded = bounded_in now.market market now.standing.history
      (ap (λ (m : Market). m.max_trades) here) (ap (λ (m : Market). m.max_users) here)
      (ap (λ (m : Market). m.max_transfers) here) safe.bounded;
}

module _ (market : Market) (standing : Standing) (count : ℕ)
    (quotes : standing ≡ unquoted standing.history) (number : count ≡ revision standing.history)
    (file stored all : List ℕ) (records : List (List ℕ))
    (gives : GivesBack market file stored records standing.history)
    (before written : Option (List ℕ)) where
  is_resumed : started market standing (Some count) ≡ resumed market standing.history
  is_resumed = ap₂ (λ (s : Standing) (n : ℕ). started market s (Some n)) quotes number

  -- the run goes on from the history that the store gave back
  pub carried_on : (status : Status) (source : Option (List ℕ))
      → IsServed status (started market standing (Some count)) all source before written
      → OpenedKeep status (Ok market) file stored all source before written
  carried_on status source served = record {
    rest = served.rest;
    told = served.told;
    output = record {
      bytes = served.output.bytes;
      added = served.output.added;
      holds = inr (inr (record {
        records = records;
        history = standing.history;
        gives = gives;
        serves = subst (λ (s : Start). Serves status s all served.rest served.output.bytes)
            is_resumed served.output.holds;
      }));
    };
  }

  -- and all that it told is kept
  pub kept_on : (images images_now : List ℕ → Type 0) (first mid last : ℕ)
      (past between since : ℕ → List ℕ → Type 0)
      → LeavesOnly first mid past between (IsAsBefore file images)
      → IsLeft (started market standing (Some count)) all before written records
      (LeavesSince (λ together least. (c : List ℕ) → images_now c → IsFront file together least c)
      (λ together least. LeavesOnly mid last between since (IsFront file together least))
      (length records))
      → KeepsChanges (Ok market) file stored all before written images images_now
      (LeavesOnly first last past since)
  kept_on images images_now first mid last past between since opening left = inr (record {
    records = records;
    history = standing.history;
    gives = gives;
    left = left_since_call (resumed market standing.history) all before written records
        (λ together least. (c : List ℕ) → images_now c → IsFront file together least c)
        (λ together least. LeavesOnly mid last between since (IsFront file together least))
        (λ together least. (c : List ℕ) → images_now c → IsFront file together least c)
        (λ together least. LeavesOnly first last past since
        (λ c. IsAsBefore file images c ⊎ IsFront file together least c))
        (λ together least now. now)
        (λ together least moments. and_then (weaken (λ c was. inl was) opening)
        (weaken (λ c front. inr front) moments))
        (subst (λ (s : Start). IsLeft s all before written records
        (LeavesSince (λ together least. (c : List ℕ) → images_now c
        → IsFront file together least c)
        (λ together least. LeavesOnly mid last between since (IsFront file together least))
        (length records))) is_resumed left);
  })

-- where the store is honest and no count rose, a run that was not opened wants memory
pub wants_memory : (status : Status) (fault : ResumeFault) (market : Market)
    (file stored output : List ℕ) → IsHonest market file stored → Stops status fault output
    → IsRefused market file stored fault → (fault ≡ why.Disk → ⊥) → status ≡ Memory
wants_memory status why.Disk market file stored output honest stops refused steady =
    absurd (steady refl)
wants_memory status why.Memory market file stored output honest stops refused steady = stops.0
wants_memory status (why.Refused fault) market file stored output honest stops refused steady =
    absurd (refuses_no_honest market file stored fault honest refused)

pub never_usage : (status : Status) (fault : ResumeFault) (output : List ℕ)
    → Stops status fault output → status ≡ Usage → ⊥
never_usage status why.Disk output stops e = status_apart (sym stops.0 ∙ e)
  where
    status_apart : DiskFault ≡ Usage → ⊥
    status_apart same = cc
never_usage status why.Memory output stops e = status_apart (sym stops.0 ∙ e)
  where
    status_apart : Memory ≡ Usage → ⊥
    status_apart same = cc
never_usage status (why.Refused fault) output stops e =
    subst (λ (s : Status). RefusesStore s fault output) e stops

-- where no count rose and the commands are within the limits, a run that was opened is done
pub done_well : (status : Status) (start : Start) (all : List ℕ)
    (source before written : Option (List ℕ))
    (disk disk_now inputs inputs_now sink sink_now : ℕ)
    → IsServed status start all source before written → EndsRun status → AreWithin all
    → HasKeepCauses status disk disk_now inputs inputs_now sink sink_now
    → (Rose disk disk_now → ⊥) → (Rose inputs inputs_now → ⊥) → (Rose sink sink_now → ⊥)
    → (status ≡ Done) ⊎ (status ≡ Memory)
done_well Done start all source before written disk disk_now inputs inputs_now sink sink_now served
    ends within causes disk_steady inputs_steady sink_steady = inl refl
done_well ReadFault start all source before written disk disk_now inputs inputs_now sink sink_now
    served ends within causes disk_steady inputs_steady sink_steady =
    absurd (inputs_steady causes.1.0.rose)
done_well WriteFault start all source before written disk disk_now inputs inputs_now sink sink_now
    served ends within causes disk_steady inputs_steady sink_steady =
    absurd (sink_steady causes.1.1.rose)
done_well TooMany start all source before written disk disk_now inputs inputs_now sink sink_now
    served ends within causes disk_steady inputs_steady sink_steady =
    let over = served.output.holds in
    absurd (past_limits all over.whole (over.part ++ served.rest) over.bytes over.lines over.more
    over.past within)
done_well DiskFault start all source before written disk disk_now inputs inputs_now sink sink_now
    served ends within causes disk_steady inputs_steady sink_steady =
    absurd (disk_steady causes.0.rose)
done_well Memory start all source before written disk disk_now inputs inputs_now sink sink_now
    served ends within causes disk_steady inputs_steady sink_steady = absurd ends
done_well Usage start all source before written disk disk_now inputs inputs_now sink sink_now
    served ends within causes disk_steady inputs_steady sink_steady = absurd ends
done_well MarketRefused start all source before written disk disk_now inputs inputs_now sink
    sink_now served ends within causes disk_steady inputs_steady sink_steady = absurd ends
done_well StoreRefused start all source before written disk disk_now inputs inputs_now sink
    sink_now served ends within causes disk_steady inputs_steady sink_steady = absurd ends

-- a run that leaves the disk and the inputs alone, whatever their counts are, has the causes of one
-- over them
pub causes_alone : (status : Status) (disk inputs sink sink_now : ℕ)
    → ((count : ℕ) → HasCauses status count count sink sink_now)
    → HasKeepCauses status disk disk inputs inputs sink sink_now
causes_alone Done disk inputs sink sink_now causes = (refl, causes inputs)
causes_alone Usage disk inputs sink sink_now causes = (refl, causes inputs)
causes_alone MarketRefused disk inputs sink sink_now causes = (refl, causes inputs)
causes_alone ReadFault disk inputs sink sink_now causes = (refl, causes inputs)
causes_alone WriteFault disk inputs sink sink_now causes = (refl, causes inputs)
causes_alone Memory disk inputs sink sink_now causes = (refl, causes inputs)
causes_alone TooMany disk inputs sink sink_now causes = (refl, causes inputs)
causes_alone DiskFault disk inputs sink sink_now causes = absurd (causes inputs)
causes_alone StoreRefused disk inputs sink sink_now causes = absurd (causes inputs)

-- what holds of the bytes that were read holds of the whole file, where that gives a market
pub carried_by_file : (status : Status) (bytes file stored all : List ℕ)
    (source before written : Option (List ℕ)) → bytes ≡ opened_part file
    → IsSoundStore file stored
    → ((market : Market) → file_of bytes ≡ Ok market → GivesSound market bytes stored
    → OpenedKeep status (Ok market) bytes stored all source before written)
    → ((fault : FileFault) → file_of bytes ≡ Err fault
    → Adds before written (Refuses status fault) × (source ≡ Some all))
    → OpenedKeep status (file_of file) file stored all source before written
carried_by_file status bytes file stored all source before written is sound accepted refused =
    let same : file_of bytes ≡ file_of file = ap file_of is ∙ opened_same file in
    ends_by_file status file stored all source before written
    (λ market given. let whole : bytes ≡ file = is ∙ read_whole file market given in
    subst (λ (b : List ℕ). OpenedKeep status (Ok market) b stored all source before written) whole
    (accepted market (same ∙ given)
    (subst (λ (b : List ℕ). GivesSound market b stored) (sym whole) (sound market given))))
    (λ fault given. refused fault (same ∙ given))

pub kept_by_file : (bytes file stored all : List ℕ) (before written : Option (List ℕ))
    (images images_now : List ℕ → Type 0) (moments : (List ℕ → Type 0) → Type 0)
    → bytes ≡ opened_part file → AreHonest file images
    → ((market : Market) → file_of bytes ≡ Ok market → AreHonestTo market bytes images
    → KeepsChanges (Ok market) bytes stored all before written images images_now moments)
    → ((fault : FileFault) → file_of bytes ≡ Err fault → moments images)
    → KeepsChanges (file_of file) file stored all before written images images_now moments
kept_by_file bytes file stored all before written images images_now moments is honest accepted
    refused =
    let same : file_of bytes ≡ file_of file = ap file_of is ∙ opened_same file in
    keeps_by_file file stored all before written images images_now moments
    (λ market given. let whole : bytes ≡ file = is ∙ read_whole file market given in
    subst (λ (b : List ℕ). KeepsChanges (Ok market) b stored all before written images images_now
    moments) whole
    (accepted market (same ∙ given)
    (subst (λ (b : List ℕ). AreHonestTo market b images) (sym whole)
    (λ c left. honest c left market given))))
    (λ fault given. refused fault (same ∙ given))

pub ok_by_file : (R : Type 0) (bytes file stored : List ℕ) → bytes ≡ opened_part file
    → IsHonestStore file stored → IsOk (file_of file)
    → ((market : Market) → file_of bytes ≡ Ok market → IsHonest market bytes stored → R) → R
ok_by_file R bytes file stored is honest ok accepted = at (file_of file) refl ok
  where
    same : file_of bytes ≡ file_of file
    same = ap file_of is ∙ opened_same file

    at : (given : Result Market FileFault) → file_of file ≡ given → IsOk given → R
    at (Ok market) e ok =
        let whole : bytes ≡ file = is ∙ read_whole file market e in
        accepted market (same ∙ e)
        (subst (λ (b : List ℕ). IsHonest market b stored) (sym whole) (honest market e))
    at (Err fault) e ok = absurd (cc)

-- what comes of a market file for which memory was wanting, or that is refused
pub wants_for_file : (status : Status) (fault : FileFault) (market : Market) (bytes : List ℕ)
    (before written : Option (List ℕ))
    → ((status ≡ Memory) × (written ≡ before))
    ⊎ ((fault ≡ FileMemory → ⊥) × Adds before written (Refuses status fault))
    → ((fault ≡ FileMemory → ⊥) → file_of bytes ≡ Err fault) → file_of bytes ≡ Ok market
    → (status ≡ Memory) × (written ≡ before)
wants_for_file status fault market bytes before written (inl wanting) refused given = wanting
wants_for_file status fault market bytes before written (inr said) refused given =
    absurd (both (sym given ∙ refused said.0))
  where
    both : Ok market ≡ Err fault → ⊥
    both e = cc

pub refused_file : (status : Status) (fault named : FileFault) (bytes : List ℕ)
    (before written : Option (List ℕ))
    → ((status ≡ Memory) × (written ≡ before))
    ⊎ ((fault ≡ FileMemory → ⊥) × Adds before written (Refuses status fault))
    → ((fault ≡ FileMemory → ⊥) → file_of bytes ≡ Err fault) → file_of bytes ≡ Err named
    → Adds before written (Refuses status named)
refused_file status fault named bytes before written (inl wanting) refused given = record {
  bytes = [];
  added = wanting.1 ∙ append_known_none before;
  holds = subst (λ (s : Status). Refuses s named []) (sym wanting.0) refl;
}
refused_file status fault named bytes before written (inr said) refused given =
    subst (λ (f : FileFault). Adds before written (Refuses status f))
    (same_fault (file_of bytes) (refused said.0) given) said.1
  where
    same_fault : (g : Result Market FileFault) → g ≡ Err fault → g ≡ Err named → fault ≡ named
    same_fault g first second = cc

pub stopped_silent : (status : Status) (market : Market) (file stored all : List ℕ)
    (source before written : Option (List ℕ)) → (status ≡ Memory) × (written ≡ before)
    → source ≡ Some all → OpenedKeep status (Ok market) file stored all source before written
stopped_silent status market file stored all source before written wants told =
    subst (λ (w : Option (List ℕ)). OpenedKeep status (Ok market) file stored all source before w)
    (sym wants.1)
    (stopped_before status market file stored all source before (inl wants.0) told)

-- one file gives one market
pub same_market : (bytes : List ℕ) (market other : Market) → file_of bytes ≡ Ok other
    → file_of bytes ≡ Ok market → other ≡ market
same_market bytes market other first second = one (file_of bytes) first second
  where
    one : (g : Result Market FileFault) → g ≡ Ok other → g ≡ Ok market → other ≡ market
    one g e f = cc

-- where no count rose, an opening that stopped wanted memory
pub stops_well : (status : Status) (disk disk_now : ℕ) → (status ≡ Memory) ⊎ (status ≡ DiskFault)
    → HasKeepCauses status disk disk_now 0 0 0 0 → (Rose disk disk_now → ⊥)
    → (status ≡ Done) ⊎ (status ≡ Memory)
stops_well status disk disk_now (inl e) causes steady = inr e
stops_well status disk disk_now (inr e) causes steady =
    let fault = subst (λ (s : Status). HasKeepCauses s disk disk_now 0 0 0 0) e causes in
    absurd (steady fault.0.rose)
