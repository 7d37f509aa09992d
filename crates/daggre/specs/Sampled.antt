-- What is written of a sample market and its run.
use Rattle.std.specs.Prelude.{◌≡◌, ℕ, ◌≤◌, List, [], ◌++◌, codes, decimal, Option, Some, None, Ok}
use Rattle.std.specs.Prelude.{Err, ◌⊎◌}
use Rattle.mk_io.specs.declared.status.Status.{Status}
use Rattle.mk_io.specs.declared.status.Status.TheVariants.{Done, Usage, MarketRefused, ReadFault}
use Rattle.mk_io.specs.declared.status.Status.TheVariants.{WriteFault, Memory, TooMany}
use Rattle.mk_io.specs.declared.status.Status.TheVariants.{DiskFault, StoreRefused}
use Rattle.mk_file.specs.declared.fault.FileFault.{FileFault}
use Rattle.mk_file.specs.File.{file_of}
use Rattle.mk_reply.specs.declared.reply.Reply.{Reply}
use Rattle.mk_make.specs.Sample.{sample_file, sample_commands}
use Rattle.mk_session.specs.Texts.{as_line, reply_line, fault_line}
use Rattle.mk_session.specs.Complete.{AreWithin}
use Rattle.mk_session.specs.Outcome.{IsFrontOf}
use Rattle.mk_tally.specs.declared.counts.Tally.{Tally}
use Rattle.mk_tally.specs.Tally.{TallyEnds}
use Rattle.daggre.specs.Words.{max_sample}

-- the line that names the sample, and the line of the counts
unfoldable pub count_lines : ℕ → Tally → List ℕ
count_lines n tally =
    as_line (codes "sample " ++ decimal n)
    ++ as_line (codes "replies " ++ decimal tally.replies ++ codes " trades "
    ++ decimal tally.trades ++ codes " refused " ++ decimal tally.refused)

abbrev pub last_line : Option Reply → List ℕ
last_line None = []
last_line (Some reply) = reply_line reply

-- these lines, and the line of the last reply, where there is one
abbrev pub sample_text : ℕ → Tally → List ℕ
sample_text n tally = count_lines n tally ++ last_line tally.last

-- the sample's file is accepted, and what is written are the counts of a run of its commands
pub record IsSampled (n : ℕ) (output : List ℕ) : Type 0 where
  pub tally : Tally
  pub counted : TallyEnds (Ok tally) (file_of (sample_file n)) (sample_commands n)
  pub printed : output ≡ sample_text n tally

-- the sample's file is refused, and what is written is the line of its fault
pub record IsSampleRefused (n : ℕ) (output : List ℕ) : Type 0 where
  pub fault : FileFault
  pub refused : file_of (sample_file n) ≡ Err fault
  pub printed : output ≡ fault_line fault

-- writing failed: a front of either was written
pub record IsSampleCut (n : ℕ) (output : List ℕ) : Type 0 where
  pub whole : List ℕ
  pub text : IsSampled n whole ⊎ IsSampleRefused n whole
  pub front : IsFrontOf whole output

-- how the run of a sample ends, by its status
abbrev pub EndsSample : Status → ℕ → List ℕ → Type 0
EndsSample Done n output = IsSampled n output
EndsSample MarketRefused n output = IsSampleRefused n output
EndsSample WriteFault n output = IsSampleCut n output
EndsSample Memory n output = output ≡ []
EndsSample Usage n output = ⊥
EndsSample ReadFault n output = ⊥
EndsSample TooMany n output = ⊥
EndsSample DiskFault n output = ⊥
EndsSample StoreRefused n output = ⊥

-- the commands of every sample are no more than a stream may hold
abbrev pub SamplesAreWithin : Type 0
SamplesAreWithin = (n : ℕ) → 2 ≤ n → n ≤ max_sample → AreWithin (sample_commands n)
