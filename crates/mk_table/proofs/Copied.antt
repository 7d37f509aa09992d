-- Two arrays that are copied cell by cell.
use Rattle.std.proofs.Common.{◌≡◌, ℕ, ◌⊎◌, inl, inr, List, length, sym, ◌∙◌}
use Rattle.mk_passes.specs.Parts.{AreBlankOrFull}

pub as_many_exponents : (n : ℕ) (d e : List ℕ) → AreBlankOrFull n d e → length e ≡ length d
as_many_exponents n d e h = at h.either
  where
    at : ((length d ≡ 0) × (length e ≡ 0)) ⊎ ((length d ≡ n) × (length e ≡ n)) → length e ≡ length d
    at (inl p) = p.1 ∙ sym p.0
    at (inr p) = p.1 ∙ sym p.0
