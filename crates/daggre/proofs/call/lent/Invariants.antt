use Rattle.std.proofs.Common.{◌≡◌, length, map, take, string_bytes}
use Rattle.daggre.proofs.call.lent.Given as goal

abbrev pub invariant-loop-word : goal.invariant-loop-word
invariant-loop-word l = record {
  count : length l.texts.items ≡ l.word-index;
  same : map (λ w. w.now) l.texts.items ≡ map string_bytes (take l.word-index l.words);
}
