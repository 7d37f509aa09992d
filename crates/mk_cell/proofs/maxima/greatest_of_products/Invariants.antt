use Rattle.std.specs.Prelude.{ℕ, ◌+◌, ◌*◌, max, length}
use Rattle.mk_cell.specs.Cell.{StandsAt}
use Rattle.mk_cell.specs.Passes.{plus_below}
use Rattle.mk_cell.specs.Products.{AreUnrounded, PairsStand}
use Rattle.mk_cell.proofs.maxima.greatest_of_products.Given as goal

abbrev pub invariant-loop-c : goal.invariant-loop-c
invariant-loop-c l = (a e b d : ℕ → ℕ) → AreUnrounded a e b d l.places l.exponents
    → (j k : ℕ) (f g : ℕ → ℕ) (n p : ℕ) → PairsStand (length l.places) a e b d j k f g n p
    → StandsAt (j + k) l.most.digits l.most.exponent (plus_below max l.c (λ c. f c * g c))
    (n + p + 2 * length l.places + 1)
