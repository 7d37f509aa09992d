-- What each status says of the one line of an audit.
use Rattle.std.specs.Prelude.{◌≡◌, ℕ, List}
use Rattle.mk_io.specs.declared.status.Status.{Status}
use Rattle.mk_io.specs.declared.status.Status.TheVariants.{Done, WriteFault}
use Rattle.mk_session.specs.Outcome.{IsFrontOf}

-- all of a line was written, or a front of it where writing failed; no other status tells a line
abbrev pub Says : Status → List ℕ → List ℕ → Type 0
Says Done line output = output ≡ line
Says WriteFault line output = IsFrontOf line output
Says status line output = ⊥
