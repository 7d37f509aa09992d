use Rattle.std.proofs.Common.{◌≡◌, replicate, vec_capacity}
use Rattle.mk_table.specs.inner.Store.{no_head}
use Rattle.mk_table.proofs.store.put_heads.Given as goal

abbrev pub invariant-loop : goal.invariant-loop
invariant-loop l = record {
  heads : l.heads.items ≡ replicate l.counter no_head;
  room : vec_capacity l.heads ≡ vec_capacity l.fn.heads;
}
