-- What a count of a sample's replies says of what is written.
use Rattle.std.proofs.Common.{◌≡◌, ◌≢◌, ℕ, List, [], ◌++◌, Option, Result, Ok, Err, OnOk, OnErr}
use Rattle.std.proofs.Common.{◌⊎◌, refl, sym, ap, ◌∙◌, append_assoc}
use Rattle.mk_io.specs.declared.status.Status.TheVariants.{Done, MarketRefused, WriteFault, Memory}
use Rattle.mk_io.specs.Outside.{append_known, AddsFront}
use Rattle.mk_io.proofs.Told.{append_known_none, append_known_twice}
use Rattle.mk_file.specs.declared.fault.FileFault.{FileFault}
use Rattle.mk_file.specs.declared.fault.FileFault.TheVariants.{Memory as FileMemory}
use Rattle.mk_file.specs.File.{file_of}
use Rattle.mk_make.specs.Sample.{sample_file, sample_commands}
use Rattle.mk_session.specs.Texts.{fault_line}
use Rattle.mk_session.specs.Outcome.{Adds}
use Rattle.mk_tally.specs.declared.counts.Tally.{Tally}
use Rattle.mk_tally.specs.declared.counts.TallyFault.TheVariants.{Market as Refuses}
use Rattle.mk_tally.specs.Tally.{TallyEnds}
use Rattle.daggre.specs.Sampled.{sample_text, IsSampled, IsSampleRefused, EndsSample}

-- a count was made: the sample's file is accepted
pub sampled : (n : ℕ) (tally : Tally) → TallyEnds (Ok tally) (file_of (sample_file n))
    (sample_commands n) → IsSampled n (sample_text n tally)
sampled n tally counted = record { tally = tally; counted = counted; printed = refl }

refused_by : (n : ℕ) (fault : FileFault) (given : Result _ FileFault) → file_of (sample_file n) ≡
    given
    → TallyEnds (Err (Refuses fault)) given (sample_commands n)
    → IsSampleRefused n (fault_line fault)
refused_by n fault (Ok market) is ends = absurd ends
refused_by n fault (Err named) is ends =
    record {
      fault = fault;
      refused = is ∙ ap (λ (f : FileFault). Err f) (sym ends.0);
      printed =
          refl;
    }

-- no count was made, since the sample's file is refused
pub refused : (n : ℕ) (fault : FileFault) → TallyEnds (Err (Refuses fault))
    (file_of (sample_file n)) (sample_commands n)
    → IsSampleRefused n (fault_line fault)
refused n fault ends = refused_by n fault (file_of (sample_file n)) refl ends

-- and not for want of memory
pub has_line : (fault : FileFault) (given : Result _ FileFault) (all : List ℕ)
    → TallyEnds (Err (Refuses fault)) given all → fault ≢ FileMemory
has_line fault (Ok market) all ends = absurd ends
has_line fault (Err named) all ends = λ e. ends.1 (sym ends.0 ∙ e)

pub adds_whole : (n : ℕ) (tally : Tally) (before after : Option (List ℕ))
    → IsSampled n (sample_text n tally)
    → after ≡ append_known before (sample_text n tally) → Adds before after (EndsSample Done n)
adds_whole n tally before after holds added = record {
  bytes = sample_text n tally;
  added = added;
  holds = holds;
}

pub adds_fault : (n : ℕ) (fault : FileFault) (before after : Option (List ℕ))
    → IsSampleRefused n (fault_line fault)
    → after ≡ append_known before (fault_line fault)
    → Adds before after (EndsSample MarketRefused n)
adds_fault n fault before after holds added = record {
  bytes = fault_line fault;
  added = added;
  holds = holds;
}

-- only a front of either was written
pub adds_front : (n : ℕ) (whole : List ℕ) (before after : Option (List ℕ)) → IsSampled n whole
    ⊎ IsSampleRefused n whole
    → AddsFront before after whole → Adds before after (EndsSample WriteFault n)
adds_front n whole before after text front = record {
  bytes = front.front;
  added = front.added;
  holds = record {
    whole = whole;
    text = text;
    front = record {
      rest = front.rest;
      parts =
          front.parts;
    };
  };
}

pub adds_nothing : (n : ℕ) (before : Option (List ℕ)) → Adds before before (EndsSample Memory n)
adds_nothing n before = record { bytes = []; added = append_known_none before; holds = refl }

-- a front of the first lines, or the first lines and a front of the others, is a front of all
pub front_first : (first more : List ℕ) (before after : Option (List ℕ)) → AddsFront before after
    first → AddsFront before after (first ++ more)
front_first first more before after f = record {
  front = f.front;
  rest = f.rest ++ more;
  parts = ap (λ (bytes : List ℕ). bytes ++ more) f.parts ∙ append_assoc f.front f.rest more;
  added = f.added;
}

front_behind : (first more : List ℕ) (before between after : Option (List ℕ))
    → between ≡ append_known before first → AddsFront between after more
    → AddsFront before after (first ++ more)
front_behind first more before between after added f = record {
  front = first ++ f.front;
  rest = f.rest;
  parts = ap (λ (bytes : List ℕ). first ++ bytes) f.parts ∙ sym (append_assoc first f.front f.rest);
  added = f.added ∙ ap (λ (w : Option (List ℕ)). append_known w f.front) added
      ∙ append_known_twice before first f.front;
}

whole_behind : (first more : List ℕ) (before between after : Option (List ℕ))
    → between ≡ append_known before first
    → after ≡ append_known between more → after ≡ append_known before (first ++ more)
whole_behind first more before between after added e =
    e ∙ ap (λ (w : Option (List ℕ)). append_known w more) added ∙ append_known_twice before first
    more

-- the same of a write that may fail
pub whole_when : {T E : Type 0} (said : Result T E) (first more : List ℕ)
    (before between after : Option (List ℕ)) → between ≡ append_known before first
    → OnOk said (after ≡ append_known between more)
    → OnOk said (after ≡ append_known before (first ++ more))
whole_when (Ok v) first more before between after added e = whole_behind first more before between
    after added e
whole_when (Err x) first more before between after added e = tt

pub front_when : {T E : Type 0} (said : Result T E) (first more : List ℕ)
    (before between after : Option (List ℕ)) → between ≡ append_known before first
    → OnErr said (AddsFront between after more)
    → OnErr said (AddsFront before after (first ++ more))
front_when (Ok v) first more before between after added f = tt
front_when (Err x) first more before between after added f = front_behind first more before between
    after added f
