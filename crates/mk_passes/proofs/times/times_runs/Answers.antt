use Rattle.std.proofs.Common.{◌≡◌, ℕ, ◌+◌, ◌-◌, ◌<◌, ◌≤◌, ◌⊎◌, inl, inr, List, All, length, slice_index, arith, subst}
use Rattle.std.proofs.lemmas.Bool.{cases_eq}
use Rattle.mk_cell.specs.Cell.{IsCell}
use Rattle.mk_passes.specs.Parts.{IsTimesCell}
use Rattle.mk_scope.specs.Runs.{IsBetween, IsOfRuns, cells_at, runs_of}
use Rattle.mk_passes.proofs.Changes.{cell_left, changed_none, changed_then}
use Rattle.mk_scope.proofs.Runs.{all_of_runs, runs_apart}
use Rattle.mk_passes.proofs.times.times_runs.Goals as goal

-- one more run
run_more : (base run : ℕ) (offsets : List ℕ) (n c : ℕ) → IsOfRuns base run offsets (n + 1) c → IsOfRuns base run offsets n c ⊎ IsBetween (base + slice_index offsets n) (base + slice_index offsets n + run) c
run_more base run offsets n c p = at (cases_eq p.0 n)
  where
    at : ((p.0 ≡ n) ⊎ (p.0 ≡ n → ⊥)) → IsOfRuns base run offsets n c ⊎ IsBetween (base + slice_index offsets n) (base + slice_index offsets n + run) c
    at (inl e) = inr (subst (λ k. IsBetween (base + slice_index offsets k) (base + slice_index offsets k + run) c) e p.2)
    at (inr e) = inl (p.0, omega (arith, p.1, e), p.2)

-- the last cell of a run
last_of : (first run : ℕ) → 1 ≤ run → IsBetween first (first + run) (first + (run - 1))
last_of first run l = record { from = omega arith; below = omega (arith, l) }

-- a run ends within
run_ends : (base run count : ℕ) (offsets : List ℕ) → 1 ≤ run → All (λ k. k < count) (cells_at base (runs_of run offsets)) → (i : ℕ) → i < length offsets → base + slice_index offsets i + run ≤ count
run_ends base run count offsets some within i l =
    let first = base + slice_index offsets i in
    let w : first + (run - 1) < count = all_of_runs (λ k. k < count) base run offsets within i l (first + (run - 1)) (last_of first run some) in
    omega (arith, w, some)

pub overflow_add-first : goal.overflow_add-first
overflow_add-first c =
    let w = run_ends c.args.base c.args.run (length c.args.digits.now) c.args.offsets.now c.requires.some c.requires.within c.loop-place.place (omega (arith, c.loop-place-test.true)) in omega (arith, w, c.requires.some)

pub loop-place-init : goal.loop-place-init
loop-place-init c = changed_none _ (IsOfRuns c.args.base c.args.run c.args.offsets.now 0) c.args.digits.now c.args.exponents.now (λ k p. omega (arith, p.1))

pub times_run-requires-clause-within : goal.times_run-requires-clause-within
times_run-requires-clause-within c =
    let w = run_ends c.args.base c.args.run (length c.args.digits.now) c.args.offsets.now c.requires.some c.requires.within c.loop-place.place (omega (arith, c.loop-place-test.true)) in omega (arith, w, c.loop-place.invariant.as_many_digits)

pub times_run-requires-clause-within_exponents : goal.times_run-requires-clause-within_exponents
times_run-requires-clause-within_exponents c =
    let w = run_ends c.args.base c.args.run (length c.args.exponents.now) c.args.offsets.now c.requires.some c.requires.within_exponents c.loop-place.place (omega (arith, c.loop-place-test.true)) in omega (arith, w, c.loop-place.invariant.as_many_exponents)

pub times_run-requires-clause-cells : goal.times_run-requires-clause-cells
times_run-requires-clause-cells c = λ k b.
    let i = c.loop-place.place in
    let l : i < length c.args.offsets.now = omega (arith, c.loop-place-test.true) in
    cell_left _ (IsOfRuns c.args.base c.args.run c.args.offsets.now i) c.args.digits.now c.args.exponents.now c.loop-place.digits c.loop-place.exponents k c.loop-place.invariant
    (λ p. runs_apart c.args.base c.args.run c.args.offsets.now c.requires.some c.requires.rising i l k p b)
    (all_of_runs (λ j. IsCell (slice_index c.args.digits.now j) (slice_index c.args.exponents.now j)) c.args.base c.args.run c.args.offsets.now c.requires.cells i l k b)

pub loop-place-preserved : goal.loop-place-preserved
loop-place-preserved c =
    let i = c.loop-place.place in let base = c.args.base in let run = c.args.run in let offsets = c.args.offsets.now in
    let l : i < length offsets = omega (arith, c.loop-place-test.true) in
    changed_then (λ k d e x y. IsTimesCell d e c.args.other.digits c.args.other.exponent x y) (IsOfRuns base run offsets i) (IsBetween (base + slice_index offsets i) (base + slice_index offsets i + run)) (IsOfRuns base run offsets (i + 1))
    c.args.digits.now c.args.exponents.now c.loop-place.digits c.loop-place.exponents c.times_run.new.digits c.times_run.new.exponents
    (λ k p. run_more base run offsets i k p) (λ k p. (p.0, omega (arith, p.1), p.2)) (λ k b. (i, omega arith, b)) (λ k b p. runs_apart base run offsets c.requires.some c.requires.rising i l k p b)
    c.loop-place.invariant c.times_run.ensures
