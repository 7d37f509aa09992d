use Rattle.std.proofs.Common.{◌≤◌, length}
use Rattle.mk_text_trials.proofs.replies.reads_and_prints_the_longest_settlement.Given as goal

abbrev pub invariant-loop : goal.invariant-loop
invariant-loop g l = length l.payments ≤ l.counter
