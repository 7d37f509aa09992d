use Rattle.std.proofs.Common.{◌≡◌, ◌+◌, ◌*◌, ◌≤◌, ◌++◌, drop, codes}
use Rattle.arrayvec.specs.ArrayString.{array_string_len}
use Rattle.mk_text.specs.Joined.{items_text}
use Rattle.mk_text.specs.Numbers.{ends_text}
use Rattle.mk_text.proofs.writers.put_more_ends.Given as goal

abbrev pub invariant-loop-one : goal.invariant-loop-one
invariant-loop-one g l = record {
  growth : array_string_len l.out ≤ array_string_len l.initial.out + 43 * l.one-index;
  text : l.out.bytes ++ items_text (codes " ") ends_text (drop l.one-index l.ends)
      ≡ l.initial.out.bytes ++ items_text (codes " ") ends_text l.ends;
}
