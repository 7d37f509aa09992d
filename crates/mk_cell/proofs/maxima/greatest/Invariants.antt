use Rattle.std.specs.Prelude.{ℕ, max}
use Rattle.mk_cell.specs.Cell.{AllStand, StandsAt}
use Rattle.mk_cell.specs.Passes.{plus_below}
use Rattle.mk_cell.proofs.maxima.greatest.Given as goal

abbrev pub invariant-loop-c : goal.invariant-loop-c
invariant-loop-c l = (k : ℕ) (f : ℕ → ℕ) (n : ℕ) → AllStand k l.digits l.exponents f n
    → StandsAt k l.most.digits l.most.exponent (plus_below max l.c f) n
