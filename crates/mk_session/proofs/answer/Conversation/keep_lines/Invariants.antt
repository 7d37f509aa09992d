use Rattle.std.proofs.Common.{◌-◌, List, ℕ, [], Option, length}
use Rattle.mk_io.specs.Stream.{max_stream_lines}
use Rattle.mk_session.specs.Transcript.{Start}
use Rattle.mk_session.specs.inner.Progress.{IsBegun}
use Rattle.mk_session.specs.inner.Keeping.{HoldsSince, IsHeldSoFar}
use Rattle.mk_session.proofs.Going.{IsGoing}
use Rattle.mk_session.proofs.answer.Conversation.keep_lines.Given as goal

abbrev pub invariant-turns : goal.invariant-turns
invariant-turns g l = record {
  going : IsGoing l.fn.market l.market
      (g.I.Inputs.commands l.fn.inputs) l.self.lines (g.I.Inputs.commands l.inputs)
      (g.S.Sink.written l.fn.out) (g.S.Sink.written l.out) l.self.waiting.bytes
      (g.I.Inputs.market l.fn.inputs) (g.I.Inputs.market l.inputs)
      (g.J.Keeper.faults l.fn.disk) (g.J.Keeper.faults l.disk)
      (g.I.Inputs.faults l.fn.inputs) (g.I.Inputs.faults l.inputs)
      (g.S.Sink.faults l.fn.out) (g.S.Sink.faults l.out)
      (g.J.Keeper.is_ready l.fn.self.keeper l.fn.disk) (g.J.Keeper.is_ready l.self.keeper l.disk);
  held : (start : Start) (all name bytes : List ℕ) (before : Option (List ℕ))
      (kept : List (List ℕ))
      → IsBegun start l.fn.market all (g.I.Inputs.commands l.fn.inputs) before
      (g.S.Sink.written l.fn.out)
      → g.J.Keeper.holds l.fn.self.keeper l.fn.disk name bytes kept []
      → IsHeldSoFar start all l.self.lines (g.I.Inputs.commands l.inputs)
      l.market.standing before (g.S.Sink.written l.out) l.self.waiting.bytes
      kept (HoldsSince (g.J.Keeper.holds l.self.keeper l.disk name bytes)
      (g.J.Keeper.passes l.fn.disk l.disk name bytes) (length kept));
}

abbrev pub decreases-turns : goal.decreases-turns
decreases-turns g l = max_stream_lines - l.self.lines.given
