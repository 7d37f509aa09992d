-- The pairs that some words write, read one word after another.
use Rattle.std.proofs.Common.{◌≡◌, ℕ, List, ◌++◌, length, map, drop}
use Rattle.std.proofs.Common.{option_map}
use Rattle.mk_net.specs.declared.words.PairText.{PairText}
use Rattle.daggre.specs.Words.{pairs_of}

-- these pairs, and those of the words from a place on, are those of all words
pub record IsListing {X : Type 0} (text : X → List ℕ) (words : List X) (k : ℕ)
    (pairs : List PairText) : Type 0 where
  pub same : option_map (λ rest. pairs ++ rest) (pairs_of (map text (drop k words)))
      ≡ pairs_of (map text words)
  pub count : length pairs ≡ k
