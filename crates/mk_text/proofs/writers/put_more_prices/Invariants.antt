use Rattle.std.proofs.Common.{◌≡◌, ◌+◌, ◌*◌, ◌≤◌, ◌++◌, drop, codes}
use Rattle.arrayvec.specs.ArrayString.{array_string_len}
use Rattle.mk_text.specs.Joined.{items_text}
use Rattle.mk_text.specs.Numbers.{prices_text}
use Rattle.mk_text.proofs.writers.put_more_prices.Given as goal

abbrev pub invariant-loop-two : goal.invariant-loop-two
invariant-loop-two g l = record {
  growth : array_string_len l.out ≤ array_string_len l.initial.out + 65 * l.two-index;
  text : l.out.bytes ++ items_text (codes " ") prices_text (drop l.two-index l.prices)
      ≡ l.initial.out.bytes ++ items_text (codes " ") prices_text l.prices;
}
