use Rattle.std.proofs.Common.{◌≡◌, ◌+◌, ◌*◌, ◌≤◌, ◌++◌, drop, codes}
use Rattle.arrayvec.specs.ArrayString.{array_string_len}
use Rattle.mk_text.specs.Joined.{items_text}
use Rattle.mk_text.specs.Texts.{pair_text}
use Rattle.mk_text.proofs.writers.put_more_pairs.Given as goal

abbrev pub invariant-loop-pair : goal.invariant-loop-pair
invariant-loop-pair g l = record {
  growth : array_string_len l.out ≤ array_string_len l.initial.out + 67 * l.pair-index;
  text : l.out.bytes ++ items_text (codes ", ") pair_text (drop l.pair-index l.pairs) ≡ l.initial.out.bytes ++ items_text (codes ", ") pair_text l.pairs;
}
