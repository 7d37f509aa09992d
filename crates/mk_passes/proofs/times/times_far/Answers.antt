use Rattle.std.proofs.Common.{◌<◌, ℕ, List, All, length, slice_index, ap, subst, ◌∙◌}
use Rattle.mk_cell.specs.Cell.{IsCell}
use Rattle.mk_scope.specs.Scopes.{Rising}
use Rattle.mk_passes.specs.Parts.{IsTimesCell}
use Rattle.mk_scope.specs.Runs.{IsAmong, IsOfRuns, cells_at, runs_of}
use Rattle.mk_passes.proofs.Changes.{changed_where}
use Rattle.mk_scope.proofs.Runs.{runs_single, is_of_single, single_is_of}
use Rattle.mk_passes.proofs.times.times_far.Goals as goal

pub times_listed-requires-clause-within : goal.times_listed-requires-clause-within
times_listed-requires-clause-within c =
    subst (λ (ys : List ℕ). All (λ k. k < length c.args.digits.now) (cells_at c.args.base ys)) (ap (λ r. runs_of r c.args.offsets.now) c.if-run-eq1.true ∙ runs_single c.args.offsets.now) c.requires.within

pub times_listed-requires-clause-within_exponents : goal.times_listed-requires-clause-within_exponents
times_listed-requires-clause-within_exponents c =
    subst (λ (ys : List ℕ). All (λ k. k < length c.args.exponents.now) (cells_at c.args.base ys)) (ap (λ r. runs_of r c.args.offsets.now) c.if-run-eq1.true ∙ runs_single c.args.offsets.now) c.requires.within_exponents

pub times_listed-requires-clause-rising : goal.times_listed-requires-clause-rising
times_listed-requires-clause-rising c =
    subst (λ (ys : List ℕ). Rising (cells_at c.args.base ys)) (ap (λ r. runs_of r c.args.offsets.now) c.if-run-eq1.true ∙ runs_single c.args.offsets.now) c.requires.rising

pub times_listed-requires-clause-cells : goal.times_listed-requires-clause-cells
times_listed-requires-clause-cells c =
    subst (λ (ys : List ℕ). All (λ k. IsCell (slice_index c.args.digits.now k) (slice_index c.args.exponents.now k)) (cells_at c.args.base ys)) (ap (λ r. runs_of r c.args.offsets.now) c.if-run-eq1.true ∙ runs_single c.args.offsets.now) c.requires.cells

pub returns-then-run-eq1 : goal.returns-then-run-eq1
returns-then-run-eq1 c =
    let base = c.args.base in let run = c.args.run in let offsets = c.args.offsets.now in
    changed_where (λ k d e x y. IsTimesCell d e c.args.other.digits c.args.other.exponent x y) (IsAmong (cells_at base offsets) (length offsets)) (IsOfRuns base run offsets (length offsets))
    c.args.digits.now c.args.exponents.now c.times_listed.new.digits c.times_listed.new.exponents (λ k p. is_of_single base run offsets k c.if-run-eq1.true p) (λ k p. single_is_of base run offsets k c.if-run-eq1.true p) c.times_listed.ensures
