use Rattle.std.proofs.Common.{◌≡◌, [], length}
use Rattle.mk_tree.specs.Given.{GivenTree}
use Rattle.mk_answers.specs.Open.{holding_of}
use Rattle.mk_replay.specs.Each.{HoldAll}
use Rattle.mk_replay.proofs.holdings.assets_of_none.Given as goal

abbrev pub invariant-loop : goal.invariant-loop
invariant-loop g l = record {
  count : length l.all.items ≡ l.counter;
  held : (tree : GivenTree) → g.A.Engine.plan_for l.plan l.net tree
      → HoldAll g.A.Engine.stands_for (holding_of l.net tree []) l.all.items;
}
