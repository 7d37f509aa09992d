-- How a run of moments begins, goes on and is seen.
use Rattle.std.proofs.Common.{inl, inr, ⊎_elim, ℕ, List, arith}
use Rattle.mk_journal.specs.Moments.{LeavesOnly}

-- before the first call
pub started : {now : ℕ} {past : ℕ → List ℕ → Type 0} {P : List ℕ → Type 0} → ((c : List ℕ) → past now c → P c) → LeavesOnly now now past past P
started here = record { later = omega arith; each = here; earlier = λ t c le left. inl left }

-- one function more
pub then : {before mid now : ℕ} {past between since : ℕ → List ℕ → Type 0} {P : List ℕ → Type 0} → LeavesOnly before mid past between P → LeavesOnly mid now between since P → LeavesOnly before now past since P
then {before = before} so_far more = record {
  later = omega (arith, so_far.later, more.later);
  each = λ c left. ⊎_elim (so_far.each c) (λ (p : _). p) (more.earlier before c so_far.later left);
  earlier = λ t c le left. ⊎_elim (so_far.earlier t c le) (λ p. inr p) (more.earlier t c (omega (arith, le, so_far.later)) left);
}

pub weaken : {before now : ℕ} {past since : ℕ → List ℕ → Type 0} {P Q : List ℕ → Type 0} → ((c : List ℕ) → P c → Q c) → LeavesOnly before now past since P → LeavesOnly before now past since Q
weaken less so_far = record {
  later = so_far.later;
  each = λ c left. less c (so_far.each c left);
  earlier = λ t c le left. ⊎_elim (λ was. inl was) (λ p. inr (less c p)) (so_far.earlier t c le left);
}
