use Rattle.std.proofs.Common.{◌≡◌, length, take, vec_capacity}
use Rattle.mk_exact.specs.History.{users}
use Rattle.mk_replay.specs.inner.Dues.{dues_of}
use Rattle.mk_replay.proofs.by_rule.pay_by_rule.Given as goal

abbrev pub invariant-loop-number : goal.invariant-loop-number
invariant-loop-number l = record {
  dues : l.dues.items
      ≡ dues_of (length (users l.history.history)) l.state (take l.number l.history.history);
  room : vec_capacity l.dues ≡ vec_capacity l.fn.dues;
}
