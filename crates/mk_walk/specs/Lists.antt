-- Vectors of vectors, as lists of lists.
use Rattle.std.specs.Prelude.{ℕ, List, map, Vec}
use Rattle.std.specs.declared.alloc.Global.{Global}

abbrev pub lists : List (Vec ℕ Global) → List (List ℕ)
lists vectors = map (λ (v : Vec ℕ Global). v.items) vectors
