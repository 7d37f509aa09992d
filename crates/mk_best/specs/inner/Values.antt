-- The values of pairs.
use Rattle.std.specs.Prelude.{ℕ, List, map}
use Rattle.mk_net.specs.declared.words.Pair.{Pair}

-- the value of each pair, in their order
abbrev pub values_in : List Pair → List ℕ
values_in pairs = map (λ (p : Pair). p.value) pairs
