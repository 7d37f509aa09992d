use Rattle.std.proofs.Common.{◌≡◌, List, take}
use Rattle.std.specs.List.{AllByRecursion}
use Rattle.mk_exact.specs.History.{Entry}
use Rattle.mk_engine.specs.Meaning.{Meaning}
use Rattle.mk_beliefs.specs.Meanings.{weights_of}
use Rattle.mk_best.proofs.Failing.{fails}
use Rattle.mk_best.proofs.sure.are_sure.Given as goal

abbrev pub invariant-loop-pair : goal.invariant-loop-pair
invariant-loop-pair g l = record {
  kept : (m : Meaning) → g.E.Engine.stands_for l.fn.engine m → g.E.Engine.stands_for l.engine m;
  so_far : (H : List Entry) → g.E.Engine.stands_for l.fn.engine (weights_of l.net l.tree H)
      → AllByRecursion (λ p. fails l.net H p ≡ 0) (take l.pair-index l.pairs);
}
