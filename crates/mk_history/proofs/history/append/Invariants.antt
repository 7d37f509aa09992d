use Rattle.std.proofs.Common.{◌≡◌, ◌++◌, take, vec_capacity}
use Rattle.mk_history.proofs.history.append.Given as goal

abbrev pub invariant-loop-item : goal.invariant-loop-item
invariant-loop-item g l = record {
  items : l.list.items ≡ l.initial.list.items ++ take l.item-index l.more;
  capacity : vec_capacity l.list ≡ vec_capacity l.initial.list;
}
