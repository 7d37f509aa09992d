-- What each status says of an audit, and the line that it writes.
use Rattle.std.specs.Prelude.{◌≡◌, ℕ, ◌<◌, ◌≤◌, List, [], ◌++◌, codes, decimal, length, Option}
use Rattle.std.specs.Prelude.{Result, Ok, Err, ◌⊎◌}
use Rattle.mk_io.specs.declared.status.Status.{Status}
use Rattle.mk_io.specs.declared.status.Status.TheVariants.{Done, Usage, MarketRefused, ReadFault}
use Rattle.mk_io.specs.declared.status.Status.TheVariants.{WriteFault, Memory, TooMany}
use Rattle.mk_io.specs.declared.status.Status.TheVariants.{DiskFault, StoreRefused}
use Rattle.mk_io.specs.Stream.{stream_lines}
use Rattle.mk_exact.specs.Market.{Market}
use Rattle.mk_file.specs.declared.fault.FileFault.{FileFault}
use Rattle.mk_file.specs.File.{file_of}
use Rattle.mk_session.specs.Complete.{AreWithin}
use Rattle.mk_session.specs.Outcome.{Adds, IsFrontOf, Refuses, NotOpened}
use Rattle.mk_session.specs.Texts.{as_line}
use Rattle.mk_audit.specs.declared.verdict.Verdict.{Verdict}
use Rattle.mk_audit.specs.declared.verdict.Verdict.TheVariants.{Yes, No, Unsure}
use Rattle.mk_audit.specs.Verdicts.{Means}

-- the greatest length of a transcript that is audited, in bytes
abbrev pub max_transcript_bytes : ℕ
max_transcript_bytes = 67108864

abbrev pub verdict_line : Verdict → List ℕ
verdict_line (Yes n) = as_line (codes "audit yes " ++ decimal n)
verdict_line (No n) = as_line (codes "audit no " ++ decimal n)
verdict_line (Unsure n) = as_line (codes "audit unsure " ++ decimal n)

-- the line where a transcript is longer
abbrev pub long_line : List ℕ
long_line = as_line (codes "audit long")

-- a transcript was audited, and its verdict is written
pub record IsJudged (market : Market) (all transcript output : List ℕ) : Type 0 where
  pub few : length transcript ≤ max_transcript_bytes
  pub verdict : Verdict
  pub means : Means market (stream_lines all) transcript verdict
  pub printed : output ≡ verdict_line verdict

-- it is too long, which is written
pub record IsUnjudged (transcript output : List ℕ) : Type 0 where
  pub more : max_transcript_bytes < length transcript
  pub printed : output ≡ long_line

-- the one line of an audit
abbrev pub IsAudited : Market → List ℕ → List ℕ → List ℕ → Type 0
IsAudited market all transcript output =
    IsJudged market all transcript output ⊎ IsUnjudged transcript output

-- writing failed: a front of that line was written
pub record IsAuditCut (market : Market) (all transcript output : List ℕ) : Type 0 where
  pub whole : List ℕ
  pub audited : IsAudited market all transcript whole
  pub front : IsFrontOf whole output

-- the audit of an accepted file's market: nothing is written where a read failed, where the
-- commands are more than a stream may hold, and where memory was wanting
abbrev pub AuditsTo : Status → Market → List ℕ → List ℕ → List ℕ → Type 0
AuditsTo Done market all transcript output = IsAudited market all transcript output
AuditsTo WriteFault market all transcript output = IsAuditCut market all transcript output
AuditsTo TooMany market all transcript output = (output ≡ []) × ¬ AreWithin all
AuditsTo ReadFault market all transcript output = output ≡ []
AuditsTo Memory market all transcript output = output ≡ []
AuditsTo MarketRefused market all transcript output = ⊥
AuditsTo Usage market all transcript output = ⊥
AuditsTo DiskFault market all transcript output = ⊥
AuditsTo StoreRefused market all transcript output = ⊥

-- the audit of an accepted file, or of a refused one, for which neither the transcript nor a
-- command is read
abbrev pub EndsAudit : Status → Result Market FileFault → List ℕ → List ℕ → List ℕ → Type 0
EndsAudit status (Ok market) all transcript output = AuditsTo status market all transcript output
EndsAudit status (Err fault) all transcript output = Refuses status fault output

-- a whole audit over the bytes of a file, of a transcript, and of the commands: the file could not
-- be read, or the audit ends by the market or the fault that it gives
abbrev pub AuditOutcome : Status → List ℕ → List ℕ → List ℕ → Option (List ℕ) → Option (List ℕ)
    → Option (List ℕ) → Type 0
AuditOutcome status file transcript all source before written =
    NotOpened status all source before written
    ⊎ Adds before written (EndsAudit status (file_of file) all transcript)
