-- What holds of a gain of which nothing was rounded, and of a gain of one, holds in the small case
-- and of a user without trades.
use Rattle.std.specs.Prelude.{ℕ}
use Rattle.std.proofs.Common.{inl, inr, ⊎_elim}
use Rattle.mk_exact.specs.Accepted.{IsMost}
use Rattle.mk_exact.specs.Factors.{Fraction}

module _ (small exact idle one : Type 0) (small_is : small → exact) (idle_is : idle
    → one) (q : Fraction) where
  pub most_when : (near bits : ℕ) → IsMost exact one near q bits → IsMost small idle near q bits
  most_when near bits most = record {
    within = most.within;
    nearly = most.nearly;
    exactly = λ either. most.exactly (⊎_elim (λ s. inl (small_is s)) (λ i. inr (idle_is i)) either);
  }
