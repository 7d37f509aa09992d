-- Cells that lie so far from a base: those of a whole that have the values of one cell of a part, and of one part's cell after the other.
use Rattle.std.proofs.Common.{◌≡◌, ℕ, ◌+◌, ◌<◌, true, ◌==◌, ◌⊎◌, inl, inr, List, length, slice_index, All, sym, subst, arith, eq-eqb}
use Rattle.std.proofs.lemmas.Bool.{cases_eq, eqb-true}
use Rattle.std.proofs.lemmas.List.Elements.{All-weaker}
use Rattle.mk_scope.specs.Scopes.{ScopeOf, Rising, cells_in}
use Rattle.mk_scope.specs.Cells.{cell_in, cells_onto}
use Rattle.mk_passes.specs.Parts.{IsChanged, IsTimesCell}
use Rattle.mk_scope.specs.Runs.{IsAmong, IsOfRuns, cells_at, runs_of}
use Rattle.mk_scope.specs.Places.{ArePlaces}
use Rattle.mk_passes.proofs.Changes.{changed_as, changed_then}
use Rattle.mk_scope.proofs.Chosen.{among_chosen, chosen_pass, chosen_rising}
use Rattle.mk_scope.proofs.Runs.{all_of_runs, runs_of_all}

-- the cells that have the values of the part's cells before one
abbrev pub IsBefore : ScopeOf → ScopeOf → ℕ → ℕ → Type 0
IsBefore part whole d c = (c < cells_in whole) × (cell_in part whole c < d)

module _ (part whole : ScopeOf) (bases offsets : List ℕ) (run : ℕ) (are : ArePlaces part whole bases (runs_of run offsets) run) (d : ℕ) (l : d < cells_in part) where
  abbrev here : List ℕ
  here = cells_at (slice_index bases d) (runs_of run offsets)

  -- the cells of its runs
  abbrev reached : ℕ → Type 0
  reached = IsOfRuns (slice_index bases d) run offsets (length offsets)

  pub placed_each : (P : ℕ → Type 0) → ((c : ℕ) → c < cells_in whole → cell_in part whole c ≡ d → P c) → All P here
  placed_each P h =
      subst (λ (ys : List ℕ). All P ys) (sym (are.onto d l))
      (All-weaker (λ c. ((cell_in part whole c == d) ≡ true) × (c < cells_in whole)) P (λ c p. h c p.1 (eqb-true (cell_in part whole c) d p.0)) (cells_onto part whole d)
      (chosen_pass (λ c. cell_in part whole c == d) (cells_in whole)))

  pub placed_below : (n : ℕ) → n ≡ cells_in whole → All (λ k. k < n) here
  placed_below n e = subst (λ m. All (λ k. k < m) here) (sym e) (placed_each (λ k. k < cells_in whole) (λ k m i. m))

  pub placed_rising : Rising here
  placed_rising = subst (λ (ys : List ℕ). Rising ys) (sym (are.onto d l)) (chosen_rising (λ c. cell_in part whole c == d) (cells_in whole))

  there : (c : ℕ) → c < cells_in whole → cell_in part whole c ≡ d → reached c
  there c m e =
      let p = subst (λ (ys : List ℕ). IsAmong ys (length ys) c) (sym (are.onto d l)) (among_chosen (λ k. cell_in part whole k == d) (cells_in whole) c m (eq-eqb (cell_in part whole c) d e)) in
      subst reached p.2 (runs_of_all reached (slice_index bases d) run offsets (λ i k c b. (i, k, b)) p.0 0 p.1)

  among_here : (c : ℕ) → reached c → (c < cells_in whole) × (cell_in part whole c ≡ d)
  among_here c p =
      all_of_runs (λ k. (k < cells_in whole) × (cell_in part whole k ≡ d)) (slice_index bases d) run offsets (placed_each (λ k. (k < cells_in whole) × (cell_in part whole k ≡ d)) (λ k m e. (m, e))) p.0 p.1 c p.2

  -- a cell of a message multiplies the cells that have its values
  pub message_more : (md me od oe d_now e_now nd ne : List ℕ)
      → IsChanged (λ c a b x y. IsTimesCell a b (slice_index md (cell_in part whole c)) (slice_index me (cell_in part whole c)) x y) (IsBefore part whole d) od oe d_now e_now
      → IsChanged (λ c a b x y. IsTimesCell a b (slice_index md d) (slice_index me d) x y) reached d_now e_now nd ne
      → IsChanged (λ c a b x y. IsTimesCell a b (slice_index md (cell_in part whole c)) (slice_index me (cell_in part whole c)) x y) (IsBefore part whole (d + 1)) od oe nd ne
  message_more md me od oe d_now e_now nd ne h k =
      changed_then (λ c a b x y. IsTimesCell a b (slice_index md (cell_in part whole c)) (slice_index me (cell_in part whole c)) x y) (IsBefore part whole d) reached (IsBefore part whole (d + 1))
      od oe d_now e_now nd ne (λ c p. splits c p (cases_eq (cell_in part whole c) d)) (λ c p. (p.0, omega (arith, p.1)))
      (λ c p. let q = among_here c p in (q.0, omega (arith, q.1))) (λ c p q. let r = among_here c p in omega (arith, r.1, q.1)) h
      (changed_as (λ c a b x y. IsTimesCell a b (slice_index md d) (slice_index me d) x y) (λ c a b x y. IsTimesCell a b (slice_index md (cell_in part whole c)) (slice_index me (cell_in part whole c)) x y)
      reached d_now e_now nd ne (λ c a b x y p made. subst (λ i. IsTimesCell a b (slice_index md i) (slice_index me i) x y) (sym (among_here c p).1) made) k)
    where
      splits : (c : ℕ) → IsBefore part whole (d + 1) c → ((cell_in part whole c ≡ d) ⊎ (cell_in part whole c ≡ d → ⊥)) → IsBefore part whole d c ⊎ reached c
      splits c p (inl e) = inr (there c p.0 e)
      splits c p (inr n) = inl (p.0, omega (arith, p.1, n))
