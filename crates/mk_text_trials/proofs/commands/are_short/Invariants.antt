use Rattle.std.proofs.Common.{ℕ, ◌<◌, slice_index_or}
use Rattle.mk_text.specs.Numbers.{IsShort}
use Rattle.mk_text_trials.proofs.commands.are_short.Given as goal

abbrev pub invariant-loop-number : goal.invariant-loop-number
invariant-loop-number l = (k d : ℕ) → k < l.number-index → IsShort (slice_index_or l.numbers k d)
