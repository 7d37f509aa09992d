use Rattle.std.proofs.Common.{◌≡◌, ◌+◌, ◌*◌, ◌≤◌, length, drop}
use Rattle.mk_text.specs.Joined.{items_text}
use Rattle.mk_addition.proofs.list.more_length.Given as goal

abbrev pub invariant-loop-thing : goal.invariant-loop-thing
invariant-loop-thing g l =
    let text = g.T.Writable.text in
    let left = items_text l.separator text (drop l.thing-index l.things) in record {
      few : l.size ≤ (g.T.Writable.most + length l.separator) * l.thing-index;
      exact : l.size + length left ≡ length (items_text l.separator text l.things);
    }
