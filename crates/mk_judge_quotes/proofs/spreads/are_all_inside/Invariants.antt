use Rattle.std.proofs.Common.{ℕ, ◌<◌, Some, get_or}
use Rattle.mk_exact.specs.Limits.{Inside}
use Rattle.mk_judge_quotes.proofs.spreads.are_all_inside.Given as goal

abbrev pub invariant-loop-index : goal.invariant-loop-index
invariant-loop-index l = (k : ℕ) → k < l.index → Inside (Some (get_or l.intervals k (0, 0))) (get_or l.to k 0)
