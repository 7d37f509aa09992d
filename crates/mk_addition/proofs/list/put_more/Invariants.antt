use Rattle.std.proofs.Common.{◌≡◌, ◌+◌, ◌≤◌, ◌++◌, length, drop}
use Rattle.arrayvec.specs.ArrayString.{array_string_len}
use Rattle.mk_text.specs.Joined.{items_text}
use Rattle.mk_addition.proofs.list.put_more.Given as goal

abbrev pub invariant-loop-thing : goal.invariant-loop-thing
invariant-loop-thing g l =
    let text = g.T.Writable.text in
    let left = items_text l.separator text (drop l.thing-index l.things) in record {
      room : array_string_len l.out + length left ≤ 1024;
      text : l.out.bytes ++ left ≡ l.initial.out.bytes ++ items_text l.separator text l.things;
    }
