-- How a run of calls goes on.
use Rattle.std.proofs.Common.{◌≡◌, inr, ⊎_elim, ℕ, List, sym, subst, arith}
use Rattle.mk_disk.specs.Disk.{Elapses, Only, Follows, Torn}
use Rattle.mk_journal.specs.Moments.{LeavesOnly}

-- one call of the disk more
pub goes_on : {before mid now : ℕ} {past between since : ℕ → List ℕ → Type 0} {may_leave P : List ℕ → Type 0} → LeavesOnly before mid past between P → Elapses mid now between since may_leave → ((c : List ℕ) → may_leave c → P c) → LeavesOnly before now past since P
goes_on {before = before} so_far time here = record {
  later = omega (arith, so_far.later, time.later);
  each = λ c left. ⊎_elim (so_far.each c) (here c) (time.nothing_else before c so_far.later left);
  earlier = λ t c le left. ⊎_elim (so_far.earlier t c le) (λ now. inr (here c now)) (time.nothing_else t c (omega (arith, le, so_far.later)) left);
}

-- what a write leaves of a file that is kept
pub torn_from : (old new : List ℕ → List ℕ → Type 0) (n m f : List ℕ) (at len : ℕ) → n ≡ m → Only f (old n) → Follows (Torn at len) (old m) (new m) → (c : List ℕ) → new n c → Torn at len f c
torn_from old new n m f at len named only follows c left =
    let from = follows c (subst (λ x. new x c) named left) in
    subst (λ x. Torn at len x c) (only from.0 (subst (λ x. old x from.0) (sym named) from.1)) from.2
