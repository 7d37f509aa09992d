use Rattle.std.proofs.Common.{◌≡◌, ◌+◌, ◌*◌, ◌≤◌, ◌++◌, drop, codes, decimal}
use Rattle.arrayvec.specs.ArrayString.{array_string_len}
use Rattle.mk_text.specs.Joined.{items_text}
use Rattle.mk_text.proofs.writers.put_more_units.Given as goal

abbrev pub invariant-loop-number : goal.invariant-loop-number
invariant-loop-number g l = record {
  growth : array_string_len l.out ≤ array_string_len l.initial.out + 21 * l.number-index;
  text : l.out.bytes ++ items_text (codes " ") decimal (drop l.number-index l.units) ≡ l.initial.out.bytes ++ items_text (codes " ") decimal l.units;
}
