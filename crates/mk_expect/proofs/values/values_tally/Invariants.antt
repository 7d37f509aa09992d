use Rattle.std.proofs.Common.{ℕ, ◌*◌, ◌^◌, List}
use Rattle.mk_net.specs.Network.{Variable}
use Rattle.mk_net.specs.Trades.{trade_ratio}
use Rattle.mk_states.specs.Events.{always}
use Rattle.mk_exact.specs.History.{Entry}
use Rattle.mk_exact.specs.Weight.{total}
use Rattle.mk_tree.specs.Given.{GivenTree}
use Rattle.mk_engine.specs.Meaning.{Meaning}
use Rattle.mk_expect.specs.Expectation.{AreBits}
use Rattle.mk_expect.specs.inner.Parts.{values_gained, values_owed}
use Rattle.mk_expect.specs.inner.Shares.{HasWhole}
use Rattle.mk_expect.specs.inner.Tallies.{IsTally, IsWithin, IsThin}
use Rattle.mk_expect.proofs.values.values_tally.Given as goal

abbrev pub invariant-loop-value : goal.invariant-loop-value
invariant-loop-value g l = record {
  kept : (m : Meaning) → g.E.Engine.stands_for l.fn.engine m → g.E.Engine.stands_for l.engine m;
  tallied : (network : List Variable) (tree : GivenTree) (H : List Entry)
      → HasWhole g.E.Engine.stands_for l.fn.engine network tree H l.whole
      → (bits : ℕ → ℕ) → AreBits bits → IsTally l.tally (total network H always)
      (values_gained network H bits (trade_ratio l.ratio) l.value) 0
      (values_owed network H (trade_ratio l.ratio) l.value);
  within : IsWithin l.tally (l.value * 2 ^ 60) (l.value * 2 ^ 60);
  thin : IsThin l.tally l.value;
}
