use Rattle.std.proofs.Common.{◌≡◌, ℕ, eqb, ◌&&◌, Decides, ap, ◌∙◌}
use Rattle.std.proofs.lemmas.Bool.Decides.{Decides-and, Decides-eqb, Decides-like}
use Rattle.std.proofs.lemmas.Slice.Eq.{slice_eq-Decides}
use Rattle.mk_net.specs.declared.words.Pair.{Pair}
use Rattle.mk_quote.proofs.quote.have_same_pairs.Goals as goal

abbrev pair_of : ℕ → ℕ → Pair
pair_of variable value = record { variable = variable; value = value }

same_pair : (a b : Pair) → (a.variable ≡ b.variable) × (a.value ≡ b.value) → a ≡ b
same_pair a b e = ap (λ v. pair_of v a.value) (e.0) ∙ ap (λ v. pair_of b.variable v) (e.1)

pair_decides : (a b : Pair) → Decides (eqb a.variable b.variable && eqb a.value b.value) (a ≡ b)
pair_decides a b = Decides-like _ (same_pair a b) (λ e. (ap (λ (p : Pair). p.variable) e, ap (λ (p : Pair). p.value) e)) (Decides-and _ _ (Decides-eqb a.variable b.variable) (Decides-eqb a.value b.value))

pub returns : goal.returns
returns c = rw (← c.pairs.ensures.pairs, ← c.pairs-2.ensures.pairs) (slice_eq-Decides pair_decides _ _ _ c.eq.ensures)
