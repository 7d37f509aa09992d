-- The opening of a run, and what its end says of the whole run.
use Rattle.std.proofs.Common.{◌≡◌, ℕ, ◌<◌, ◌≤◌, List, [], length, take, Option, Some, None, Result}
use Rattle.std.proofs.Common.{Ok, Err, inl, inr, refl, sym, ap, subst, ◌∙◌, arith, nat_lt, ◌⊎◌}
use Rattle.std.specs.Prelude.{if◌then◌else◌}
use Rattle.std.proofs.lemmas.List.{take_all, length-take}
use Rattle.std.proofs.lemmas.Bool.{cases_lt, lt-ltb}
use Rattle.mk_io.specs.declared.status.Status.{Status}
use Rattle.mk_io.specs.declared.status.Status.TheVariants.{MarketRefused, ReadFault, WriteFault}
use Rattle.mk_io.specs.declared.status.Status.TheVariants.{Memory, Done, Usage, TooMany, DiskFault}
use Rattle.mk_io.specs.declared.status.Status.TheVariants.{StoreRefused}
use Rattle.mk_io.specs.Outside.{append_known, AddsFront}
use Rattle.mk_io.proofs.Told.{append_known_none}
use Rattle.mk_exact.specs.Market.{Market}
use Rattle.mk_file.specs.declared.fault.FileFault.{FileFault}
use Rattle.mk_file.specs.declared.fault.FileFault.TheVariants.{TooLong}
use Rattle.mk_file.specs.File.{file_of, of_document, document_of}
use Rattle.mk_session.specs.Texts.{head_of, fault_line}
use Rattle.mk_rules.specs.Transcript.{Standing, opening}
use Rattle.mk_market.specs.Trading.{Trading, IsAt}
use Rattle.mk_session.specs.Transcript.{Start, started, from_opening}
use Rattle.mk_session.specs.Begins.{CanBegin}
use Rattle.mk_session.specs.Outcome.{Adds, Ends, Serves, Refuses, NotOpened, Opened, IsTurnedAway}
use Rattle.mk_session.specs.Outcome.{IsServed, IsRunFrom, IsRunTo, HasCauses, HasKeepCauses}
use Rattle.mk_session.specs.Outcome.{EndsRun}
use Rattle.mk_session.specs.inner.Progress.{IsBegun, IsEnded, ServesTo}
use Rattle.mk_session.specs.Opening.{opened_part}
use Rattle.mk_session.proofs.Answering.{no_more, none_answered, transcript_of}
use Rattle.mk_session.proofs.Completing.{none_within_stream, none_rose}

memory_ends : (given : Result Market FileFault) (all : List ℕ) → Ends Memory given all all []
memory_ends (Ok market) all = record { nothing = refl; unread = refl }
memory_ends (Err fault) all = (refl, refl)

-- nothing was written
pub adds_nothing : (before : Option (List ℕ)) (P : List ℕ → Type 0) → P [] → Adds before before P
adds_nothing before P holds = record { bytes = []; added = append_known_none before; holds = holds }

pub out_of_memory : (given : Result Market FileFault) (all : List ℕ) (before : Option (List ℕ))
    → Adds before before (Ends Memory given all all)
out_of_memory given all before = adds_nothing before (Ends Memory given all all)
    (memory_ends given all)

pub not_read : (given : Result Market FileFault) (all : List ℕ) (source before : Option (List ℕ))
    → source ≡ Some all
    → NotOpened ReadFault all source before before ⊎ Opened ReadFault given all source before before
not_read given all source before told =
    inl (record { failed = refl; unread = told; nothing = refl })

pub no_memory : (given : Result Market FileFault) (all : List ℕ) (source before : Option (List ℕ))
    → source ≡ Some all
    → Opened Memory given all source before before
no_memory given all source before told = record {
  rest = all;
  told = told;
  output =
      out_of_memory given all before;
}

-- the line of a refused file was written, or a front of it
pub refused_whole : (given : Result Market FileFault) (fault : FileFault) (all : List ℕ)
    (before after : Option (List ℕ)) → given ≡ Err fault
    → after ≡ append_known before (fault_line fault)
    → Adds before after (Ends MarketRefused given all all)
refused_whole given fault all before after e added = record {
  bytes = fault_line fault;
  added = added;
  holds = subst (λ (r : Result Market FileFault). Ends MarketRefused r all all (fault_line fault))
      (sym e) (refl, refl);
}

pub refused_front : (given : Result Market FileFault) (fault : FileFault) (all : List ℕ)
    (before after : Option (List ℕ)) → given ≡ Err fault
    → AddsFront before after (fault_line fault) → Adds before after (Ends WriteFault given all all)
refused_front given fault all before after e front = record {
  bytes = front.front;
  added = front.added;
  holds = subst (λ (r : Result Market FileFault). Ends WriteFault r all all front.front) (sym e)
      (record { rest = front.rest; parts = front.parts }, refl);
}

-- a refused file: no command is read, whatever is told of them
pub turned_unread : (fault : FileFault) (source left before : Option (List ℕ)) → left ≡ source
    → IsTurnedAway ReadFault fault source left before before
turned_unread fault source left before same = record { unread = same; output = inl (refl, refl) }

pub turned_short : (fault : FileFault) (source left before : Option (List ℕ)) → left ≡ source
    → IsTurnedAway Memory fault source left before before
turned_short fault source left before same = record {
  unread = same;
  output =
      inr (adds_nothing before (Refuses Memory fault) refl);
}

pub turned_told : (status : Status) (fault : FileFault) (source before after : Option (List ℕ))
    → Adds before after (Ends status (Err fault) [] [])
    → IsTurnedAway status fault source source before after
turned_told status fault source before after said =
    record {
      unread = refl;
      output = inr (record {
        bytes = said.bytes;
        added = said.added;
        holds =
            said.holds.0;
      });
    }

pub turned_from : (status : Status) (fault : FileFault) (source mid left before after : Option
    (List ℕ)) → mid ≡ source
    → IsTurnedAway status fault mid left before after → IsTurnedAway status fault source left before
    after
turned_from status fault source mid left before after same turned = record {
  unread = turned.unread
      ∙ same;
  output = turned.output;
}

-- where the head of a run was written, it has begun
pub begun_at : {Own : Type 0} (start : Market) (trading : Trading Own) (recovered : Option ℕ)
    (all line : List ℕ) (source before written : Option (List ℕ)) → IsAt start trading
    → CanBegin start trading.standing
    → source ≡ Some all → written ≡ append_known before line
    → line ≡ head_of start recovered
    → IsBegun (started start trading.standing recovered) trading all source before written
begun_at start trading recovered all line source before written here begins told added is =
    record {
      market = here;
      standing = refl;
      begins = begins;
      told = told;
      headed = added ∙ ap (append_known before) is;
    }

-- whatever it leaves, a run serves
serves_anyhow : (status : Status) (start : Start) (now : Standing) (all rest output : List ℕ)
    → ServesTo status start now all rest output → Serves status start all rest output
serves_anyhow Done start now all rest output serves = serves.whole
serves_anyhow ReadFault start now all rest output serves = serves
serves_anyhow WriteFault start now all rest output serves = serves
serves_anyhow TooMany start now all rest output serves = serves
serves_anyhow Memory start now all rest output serves = serves
serves_anyhow MarketRefused start now all rest output serves = serves
serves_anyhow Usage start now all rest output serves = serves
serves_anyhow DiskFault start now all rest output serves = serves
serves_anyhow StoreRefused start now all rest output serves = serves

pub served_when_ended : (status : Status) (start : Start) (now : Standing) (all : List ℕ)
    (source before after : Option (List ℕ)) → IsEnded status start now all source before after
    → IsServed status start all source before after
served_when_ended status start now all source before after ended = record {
  rest = ended.rest;
  told = ended.told;
  output = record {
    bytes = ended.output.bytes;
    added = ended.output.added;
    holds = serves_anyhow status start now all ended.rest ended.output.bytes ended.output.holds;
  };
}

-- one that came to its end leaves a standing
pub whole_when_done : (status : Status) (start : Start) (now : Standing) (all : List ℕ)
    (source before after : Option (List ℕ)) → status ≡ Done
    → IsEnded status start now all source before after
    → IsRunFrom start now all source before after
whole_when_done status start now all source before after done ended =
    let whole : IsEnded Done start now all source before after =
    subst (λ (s : Status). IsEnded s start now all source before after) done ended in
    record { rest = whole.rest; told = whole.told; output = whole.output }

-- a run of which only a front of what stands before the first reply was written
pub broken_at_head : (start : Start) → CanBegin start.market start.standing
    → (all : List ℕ) (source before after : Option (List ℕ)) → source ≡ Some all
    → AddsFront before after start.head → IsServed WriteFault start all source before after
broken_at_head start begins all source before after told front = record {
  rest = all;
  told = told;
  output = record {
    bytes = front.front;
    added = front.added;
    holds = record {
      done = [];
      part = [];
      bytes = refl;
      lines = inl (inl refl);
      within = none_within_stream;
      text = start.head;
      transcript = transcript_of start begins [] start.standing [] start.head
          (none_answered start.market start.standing start.standing refl)
          (sym (no_more start.head));
      front = record { rest = front.rest; parts = front.parts };
    };
  };
}

-- a run that begins at the opening is that of the file
pub opened_when_served : (status : Status) (market : Market) (standing : Standing) (all : List ℕ)
    (source before after : Option (List ℕ)) → standing ≡ opening
    → IsServed status (started market standing None) all source before after
    → Opened status (Ok market) all source before after
opened_when_served status market standing all source before after begins served =
    let opened : IsServed status (from_opening market) all source before after =
    subst (λ (s : Standing). IsServed status (started market s None) all source before after)
    begins served in
    record { rest = opened.rest; told = opened.told; output = opened.output }

pub run_to_when_from : (market : Market) (standing now : Standing) (all : List ℕ)
    (source before after : Option (List ℕ)) → standing ≡ opening
    → IsRunFrom (started market standing None) now all source before after
    → IsRunTo market now all source before after
run_to_when_from market standing now all source before after begins run =
    subst (λ (s : Standing). IsRunFrom (started market s None) now all source before after)
    begins run

-- where nothing is kept, there is no fault of a disk
pub causes_of_no_disk : (status : Status) (inputs inputs_now sink sink_now : ℕ) → EndsRun status
    → HasKeepCauses status 0 0 inputs inputs_now sink sink_now
    → HasCauses status inputs inputs_now sink sink_now
causes_of_no_disk Done inputs inputs_now sink sink_now ends causes = causes.1
causes_of_no_disk ReadFault inputs inputs_now sink sink_now ends causes = causes.1
causes_of_no_disk WriteFault inputs inputs_now sink sink_now ends causes = causes.1
causes_of_no_disk TooMany inputs inputs_now sink sink_now ends causes = causes.1
causes_of_no_disk DiskFault inputs inputs_now sink sink_now ends causes =
    absurd (none_rose causes.0.rose)
causes_of_no_disk Memory inputs inputs_now sink sink_now ends causes = absurd ends
causes_of_no_disk MarketRefused inputs inputs_now sink sink_now ends causes = absurd ends
causes_of_no_disk Usage inputs inputs_now sink sink_now ends causes = absurd ends
causes_of_no_disk StoreRefused inputs inputs_now sink sink_now ends causes = absurd ends

-- the opened part of a file gives what the file gives: a longer file is too long by that part
gate : ℕ → List ℕ → Result Market FileFault
gate most bytes = if nat_lt most (length bytes) then Err TooLong else of_document
    (document_of bytes)

too_long : (most : ℕ) (bytes : List ℕ) → most < length bytes → gate most bytes ≡ Err TooLong
unfolding gate
too_long most bytes h = rw (lt-ltb most (length bytes) h) refl

gate_take : (most limit : ℕ) (file : List ℕ) → most < limit → gate most (take limit file) ≡ gate
    most file
gate_take most limit file h = at (cases_lt limit (length file))
  where
    at : ((limit < length file) ⊎ (length file ≤ limit)) → gate most (take limit file) ≡ gate most
        file
    at (inl longer) =
        let whole : most < length file = omega arith in
        let cut : most < length (take limit file) = rw (length-take limit file) (omega arith) in
        too_long most (take limit file) cut ∙ sym (too_long most file whole)
    at (inr shorter) = ap (gate most) (take_all limit file shorter)

pub opened_same : (file : List ℕ) → file_of (opened_part file) ≡ file_of file
unfolding opened_part gate
opened_same file = gate_take 1048576 1048577 file (omega arith)
