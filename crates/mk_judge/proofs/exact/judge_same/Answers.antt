use Rattle.std.proofs.Common.{◌≡◌, ℕ, eqb, ◌&&◌, Option, Some, None, Decides, refl, sym, ap, ◌∙◌}
use Rattle.std.specs.Option.{option_eq}
use Rattle.std.proofs.lemmas.Bool.{false≢true}
use Rattle.std.proofs.lemmas.Bool.Decides.{Decides-and, Decides-at, Decides-eqb, Decides-like}
use Rattle.std.proofs.lemmas.Option.{none-some, same_Some}
use Rattle.mk_judge.proofs.Judging.{judges_test}
use Rattle.mk_judge.proofs.exact.judge_same.Goals as goal

abbrev shares_of : ℕ → ℕ → ℕ × ℕ
shares_of low high = (low, high)

same_shares : (a b : ℕ × ℕ) → (a.0 ≡ b.0) × (a.1 ≡ b.1) → a ≡ b
same_shares a b e = ap (λ n. shares_of n a.1) e.0 ∙ ap (λ n. shares_of b.0 n) e.1

shares_decide : (a b : ℕ × ℕ) → Decides (eqb a.0 b.0 && eqb a.1 b.1) (a ≡ b)
shares_decide a b =
    Decides-like _ (same_shares a b)
    (λ e. (ap (λ (p : ℕ × ℕ). p.0) e, ap (λ (p : ℕ × ℕ). p.1) e))
    (Decides-and _ _ (Decides-eqb a.0 b.0) (Decides-eqb a.1 b.1))

decide : (a b : Option (ℕ × ℕ))
    → Decides (option_eq (λ (x y : ℕ × ℕ). eqb x.0 y.0 && eqb x.1 y.1) a b) (a ≡ b)
decide None None = (λ _. refl, λ _. refl)
decide None (Some b) = (λ e. absurd (false≢true e), λ e. absurd (none-some b e))
decide (Some a) None = (λ e. absurd (false≢true e), λ e. absurd (none-some a (sym e)))
decide (Some a) (Some b) = Decides-like _ (ap Some) (same_Some a b) (shares_decide a b)

pub returns : goal.returns
returns c =
    rw c.where_true.ensures
    (judges_test c.eq.result (c.args.right ≡ c.args.printed)
    (Decides-at c.eq.result _ c.eq.ensures (decide c.args.right c.args.printed)))
