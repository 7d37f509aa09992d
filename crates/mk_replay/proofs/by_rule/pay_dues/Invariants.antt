use Rattle.std.proofs.Common.{◌≡◌, map, take, vec_len, vec_capacity}
use Rattle.mk_cash.specs.Dues.{due_payment}
use Rattle.mk_history.specs.Entries.{ends}
use Rattle.mk_replay.proofs.by_rule.pay_dues.Given as goal

abbrev pub invariant-loop-due : goal.invariant-loop-due
invariant-loop-due l = record {
  count : vec_len l.payments ≡ l.due-index;
  room : vec_capacity l.payments ≡ vec_capacity l.fn.payments;
  paid : map ends l.payments.items ≡ map (due_payment l.points_per_bit) (take l.due-index l.dues);
}
