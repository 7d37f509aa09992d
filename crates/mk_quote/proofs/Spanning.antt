-- Where what is tested holds of all numbers between two of which it holds, the least and the greatest say which they are.
use Rattle.std.proofs.Common.{◌≡◌, ℕ, zero, suc, ◌≤◌, ◌↔◌, Bool, true, false, Option, Some, None, inl, inr, Decides, refl, sym, ap, ap₂, ◌∙◌, arith, le_refl}
use Rattle.std.proofs.lemmas.Bool.{false≢true, cases_lt}
use Rattle.mk_exact.specs.Limits.{Inside, IsWithinRange}
use Rattle.mk_quote.specs.Spans.{widened, span}

-- what the least and the greatest number up to n are
abbrev pub AreEnds : (ℕ → Bool) → ℕ → Option (ℕ × ℕ) → Type 0
AreEnds holds n None = (X : ℕ) → 1 ≤ X → X ≤ n → holds X ≡ false
AreEnds holds n (Some (least, greatest)) =
    (1 ≤ least) × (least ≤ greatest) × (greatest ≤ n) × (holds least ≡ true) × (holds greatest ≡ true)
    × ((X : ℕ) → 1 ≤ X → X ≤ n → holds X ≡ true → (least ≤ X) × (X ≤ greatest))

ends_widened : (holds : ℕ → Bool) (n : ℕ) (b : Bool) (below : Option (ℕ × ℕ)) → holds (suc n) ≡ b → AreEnds holds n below → AreEnds holds (suc n) (widened b (suc n) below)
ends_widened holds n false None e none = λ X p q. elim (cases_lt X (suc n)) as (λ _. holds X ≡ false) [ inl below ↦ none X p (omega arith) | inr at ↦ let s : X ≡ suc n = omega arith in ap holds s ∙ e ]
ends_widened holds n false (Some (least, greatest)) e ends = (
  ends.0,
  ends.1,
  omega (arith, ends.2),
  ends.3,
  ends.4,
  λ X p q h. elim (cases_lt X (suc n)) as (λ _. (least ≤ X) × (X ≤ greatest)) [
    | inl below ↦ ends.5 X p (omega arith) h
    | inr at ↦ let s : suc n ≡ X = omega arith in absurd (false≢true (sym e ∙ ap holds s ∙ h))
  ],
)
ends_widened holds n true None e none = (
  omega arith,
  le_refl (suc n),
  le_refl (suc n),
  e,
  e,
  λ X p q h. elim (cases_lt X (suc n)) as (λ _. (suc n ≤ X) × (X ≤ suc n)) [ inl below ↦ absurd (false≢true (sym (none X p (omega arith)) ∙ h)) | inr at ↦ (at, q) ],
)
ends_widened holds n true (Some (least, greatest)) e ends = (
  ends.0,
  omega (arith, ends.1, ends.2),
  le_refl (suc n),
  ends.3,
  e,
  λ X p q h. elim (cases_lt X (suc n)) as (λ _. (least ≤ X) × (X ≤ suc n)) [ inl below ↦ ((ends.5 X p (omega arith) h).0, q) | inr at ↦ (omega (arith, ends.1, ends.2), q) ],
)

are_ends : (holds : ℕ → Bool) (n : ℕ) → AreEnds holds n (span holds n)
unfolding span
are_ends holds zero = λ X p q. absurd (omega arith)
are_ends holds (suc n) = ends_widened holds n (holds (suc n)) (span holds n) refl (are_ends holds n)

-- intervals of the same numbers are the same
abbrev from_to : ℕ → ℕ → Option (ℕ × ℕ)
from_to least greatest = Some (least, greatest)

pub same_interval : (o p : Option (ℕ × ℕ)) → IsWithinRange o → IsWithinRange p → ((X : ℕ) → 1 ≤ X → X ≤ 999999 → Inside o X ↔ Inside p X) → o ≡ p
same_interval None None r s same = refl
same_interval None (Some (low, high)) r s same = absurd ((same low s.0 (omega (arith, s.1, s.2))).1 (le_refl low, s.1))
same_interval (Some (least, greatest)) None r s same = absurd ((same least r.0 (omega (arith, r.1, r.2))).0 (le_refl least, r.1))
same_interval (Some (least, greatest)) (Some (low, high)) r s same =
    let a = (same least r.0 (omega (arith, r.1, r.2))).0 (le_refl least, r.1) in
    let b = (same greatest (omega (arith, r.0, r.1)) r.2).0 (r.1, le_refl greatest) in
    let c = (same low s.0 (omega (arith, s.1, s.2))).1 (le_refl low, s.1) in
    let d = (same high (omega (arith, s.0, s.1)) s.2).1 (s.1, le_refl high) in
    ap₂ from_to (omega (arith, a.0, c.0)) (omega (arith, b.1, d.1))

-- ---- a test that decides what holds between any two of its numbers

module _ (holds : ℕ → Bool) (P : ℕ → Type 0) (decides : (X : ℕ) → Decides (holds X) (P X)) (between : (X Y Z : ℕ) → X ≤ Y → Y ≤ Z → P X → P Z → P Y) where
  pub span_in_range : (n : ℕ) → n ≤ 999999 → IsWithinRange (span holds n)
  span_in_range n most = at (span holds n) (are_ends holds n)
    where
      at : (o : Option (ℕ × ℕ)) → AreEnds holds n o → IsWithinRange o
      at None none = tt
      at (Some (least, greatest)) ends = (ends.0, ends.1, omega (arith, ends.2, most))

  pub span_holds : (n X : ℕ) → 1 ≤ X → X ≤ n → Inside (span holds n) X ↔ P X
  span_holds n X p q = at (span holds n) (are_ends holds n)
    where
      at : (o : Option (ℕ × ℕ)) → AreEnds holds n o → Inside o X ↔ P X
      at None none = (λ i. absurd i, λ h. absurd (false≢true (sym (none X p q) ∙ (decides X).1 h)))
      at (Some (least, greatest)) ends = (
        λ i. between least X greatest i.0 i.1 ((decides least).0 ends.3) ((decides greatest).0 ends.4),
        λ h. ends.5 X p q ((decides X).1 h),
      )

  pub is_span : (o : Option (ℕ × ℕ)) → IsWithinRange o → ((X : ℕ) → 1 ≤ X → X ≤ 999999 → Inside o X ↔ P X) → o ≡ span holds 999999
  is_span o range inside = same_interval o (span holds 999999) range (span_in_range 999999 (le_refl 999999)) (λ X p q.
      let a = inside X p q in
      let b = span_holds 999999 X p q in
      (λ i. b.1 (a.0 i), λ i. a.1 (b.0 i)))
