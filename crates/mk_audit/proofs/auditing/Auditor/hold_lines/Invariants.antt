use Rattle.std.proofs.Common.{◌≡◌, ℕ, ◌+◌, ◌-◌, ◌≤◌, List, length}
use Rattle.mk_io.specs.Stream.{max_stream_lines}
use Rattle.mk_io.specs.Cutting.{GoesOn}
use Rattle.mk_exact.specs.Market.{Market}
use Rattle.mk_market.specs.Trading.{IsAt}
use Rattle.mk_audit.specs.inner.Progress.{StandsAt, IsSoFar}
use Rattle.mk_audit.proofs.auditing.Auditor.hold_lines.Given as goal

abbrev pub invariant-loop-ended : goal.invariant-loop-ended
invariant-loop-ended g l = record {
  still : (start : Market) → IsAt start l.fn.market → IsAt start l.market;
  goes_on : GoesOn l.self.lines.last;
  place : l.self.front.place ≤ length l.transcript;
  count : l.self.front.right ≤ l.self.lines.given + 1;
  known : StandsAt l.market.market l.market.standing l.self.front;
  so_far : (start : Market) (all : List ℕ) → IsAt start l.fn.market
      → IsSoFar start all l.fn.self.lines (g.I.Inputs.commands l.fn.inputs)
      l.fn.market.standing l.transcript l.fn.self.front
      → IsSoFar start all l.self.lines (g.I.Inputs.commands l.inputs)
      l.market.standing l.transcript l.self.front;
  faults : g.I.Inputs.faults l.inputs ≡ g.I.Inputs.faults l.fn.inputs;
  opened : g.I.Inputs.market l.inputs ≡ g.I.Inputs.market l.fn.inputs;
}

abbrev pub decreases-loop-ended : goal.decreases-loop-ended
decreases-loop-ended g l = max_stream_lines - l.self.lines.given
