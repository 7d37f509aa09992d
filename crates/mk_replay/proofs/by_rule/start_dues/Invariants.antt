use Rattle.std.proofs.Common.{◌≡◌, vec_len, vec_capacity}
use Rattle.mk_replay.specs.inner.Dues.{no_dues}
use Rattle.mk_replay.proofs.by_rule.start_dues.Given as goal

abbrev pub invariant-loop : goal.invariant-loop
invariant-loop l = record {
  count : vec_len l.dues ≡ l.counter;
  room : vec_capacity l.dues ≡ vec_capacity l.fn.dues;
  none : l.dues.items ≡ no_dues l.counter;
}
