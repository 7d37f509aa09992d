use Rattle.std.proofs.Common.{◌≡◌, vec_len, vec_capacity}
use Rattle.mk_passes.specs.Blank.{filled}
use Rattle.mk_passes.proofs.blank.append_until.Given as goal

abbrev pub invariant-loop : goal.invariant-loop
invariant-loop g l = record {
  long : vec_len l.values ≡ l.counter;
  room : vec_capacity l.values ≡ vec_capacity l.fn.values;
  same : filled l.value l.count l.values.items ≡ filled l.value l.count l.fn.values.items;
}
