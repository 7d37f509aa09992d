use Rattle.std.proofs.Common.{◌≡◌, length, take}
use Rattle.mk_answers.specs.Open.{holding_of}
use Rattle.mk_replay.specs.Each.{HoldAll}
use Rattle.mk_replay.proofs.holdings.assets_of_each.Given as goal

abbrev pub invariant-loop-number : goal.invariant-loop-number
invariant-loop-number g l = record {
  count : length l.all.items ≡ l.joined;
  held : HoldAll g.A.Engine.stands_for
      (holding_of l.net l.tree (take l.number l.history.history)) l.all.items;
}
