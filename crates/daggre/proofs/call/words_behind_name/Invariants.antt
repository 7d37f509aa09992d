use Rattle.std.proofs.Common.{◌≡◌, ◌++◌, drop, map, length, string_bytes}
use Rattle.std.specs.Vec.Iter.{into_iter_items}
use Rattle.daggre.proofs.call.words_behind_name.Given as goal

abbrev pub invariant-words : goal.invariant-words
invariant-words l = drop 1 (map string_bytes (into_iter_items l.fn.arguments))
    ≡ map string_bytes l.words.items ++ map string_bytes (into_iter_items l.arguments)

abbrev pub decreases-words : goal.decreases-words
decreases-words l = length (into_iter_items l.arguments)
