use Rattle.std.proofs.Common.{◌≡◌, ◌≤◌, length, take, max, vec_len, vec_capacity}
use Rattle.mk_scope.proofs.strides.reach.Given as goal

abbrev pub invariant-loop : goal.invariant-loop
invariant-loop l = record {
  long : vec_len l.written ≡ l.counter;
  least : length l.fn.written.items ≤ l.counter;
  most : l.counter ≤ max l.places (length l.fn.written.items);
  room : vec_capacity l.written ≡ vec_capacity l.fn.written;
  kept : take (length l.fn.written.items) l.written.items ≡ l.fn.written.items;
}
