-- What is kept gives its fields back.
use Rattle.std.specs.Prelude.{◌≡◌, ℕ, ◌≤◌, List, length, take}
use Rattle.std.proofs.Common.{ap₂, ◌∙◌, arith}
use Rattle.std.proofs.lemmas.List.{length-take-le}

pub given_back : {X I : Type 0} (make : List X → ℕ → I) (most : ℕ) (kept : List X) (n : ℕ)
    (items : List X) (size : ℕ) → length kept ≡ most → n ≤ most
    → items ≡ kept → size ≡ length (take n kept) → make items size ≡ make kept n
given_back make most kept n items size whole fits same long =
    ap₂ make same (long ∙ length-take-le n kept (omega (arith, whole, fits)))
