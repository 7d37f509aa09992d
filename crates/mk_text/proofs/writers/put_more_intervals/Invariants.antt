use Rattle.std.proofs.Common.{◌≡◌, ◌+◌, ◌*◌, ◌≤◌, ◌++◌, drop, codes}
use Rattle.arrayvec.specs.ArrayString.{array_string_len}
use Rattle.mk_text.specs.Joined.{items_text}
use Rattle.mk_text.specs.Numbers.{interval_text}
use Rattle.mk_text.proofs.writers.put_more_intervals.Given as goal

abbrev pub invariant-loop-interval : goal.invariant-loop-interval
invariant-loop-interval g l = record {
  growth : array_string_len l.out ≤ array_string_len l.initial.out + 43 * l.interval-index;
  text : l.out.bytes ++ items_text (codes " ") interval_text (drop l.interval-index l.intervals) ≡ l.initial.out.bytes ++ items_text (codes " ") interval_text l.intervals;
}
