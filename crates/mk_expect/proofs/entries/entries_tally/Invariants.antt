use Rattle.std.proofs.Common.{ℕ, List, take}
use Rattle.mk_net.specs.Network.{Variable}
use Rattle.mk_engine.specs.Meaning.{Meaning}
use Rattle.mk_expect.specs.Expectation.{AreBits}
use Rattle.mk_expect.specs.inner.Added.{AddsEntries}
use Rattle.mk_expect.specs.inner.Shares.{HasWhole}
use Rattle.mk_expect.proofs.entries.entries_tally.Given as goal

abbrev pub invariant-loop-number : goal.invariant-loop-number
invariant-loop-number g l = record {
  kept : (m : Meaning) → g.E.Engine.stands_for l.fn.engine m → g.E.Engine.stands_for l.engine m;
  adds : (network : List Variable)
      → HasWhole g.E.Engine.stands_for l.fn.engine network l.tree l.history.history l.whole
      → (bits : ℕ → ℕ) → AreBits bits
      → AddsEntries network l.history.history bits l.user (take l.number l.history.history)
      l.tally;
}
