use Rattle.std.proofs.Common.{◌≡◌, ℕ, List, Some, eqb, ◌&&◌, Decides, ap, sym, ◌∙◌}
use Rattle.std.proofs.lemmas.Bool.Decides.{Decides-and, Decides-eqb, Decides-like}
use Rattle.std.proofs.lemmas.Slice.Eq.{slice_eq-Decides}
use Rattle.mk_judge_quotes.proofs.spreads.are_same.Goals as goal

abbrev span_of : ℕ → ℕ → ℕ × ℕ
span_of low high = (low, high)

same_span : (a b : ℕ × ℕ) → (a.0 ≡ b.0) × (a.1 ≡ b.1) → a ≡ b
same_span a b e = ap (λ n. span_of n a.1) e.0 ∙ ap (λ n. span_of b.0 n) e.1

span_decides : (a b : ℕ × ℕ) → Decides (eqb a.0 b.0 && eqb a.1 b.1) (a ≡ b)
span_decides a b = Decides-like _ (same_span a b) (λ e. (ap (λ (p : ℕ × ℕ). p.0) e, ap (λ (p : ℕ × ℕ). p.1) e)) (Decides-and _ _ (Decides-eqb a.0 b.0) (Decides-eqb a.1 b.1))

items_of : (xs ys : List (ℕ × ℕ)) → Some xs ≡ Some ys → xs ≡ ys
items_of xs ys e = cc

pub returns-in-Some-right : goal.returns-in-Some-right
returns-in-Some-right c =
    let same = slice_eq-Decides span_decides _ _ _ c.eq.ensures in
    rw (c.in-Some.is, c.in-Some-right.is) (
      λ yes. ap (λ (xs : List (ℕ × ℕ)). Some xs) (sym c.as_slice.ensures.value ∙ same.0 yes ∙ c.as_slice-in-Some-right.ensures.value),
      λ e. same.1 (c.as_slice.ensures.value ∙ items_of _ _ e ∙ sym c.as_slice-in-Some-right.ensures.value),
    )
