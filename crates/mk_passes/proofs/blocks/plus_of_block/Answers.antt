use Rattle.std.proofs.Common.{◌≡◌, ◌+◌, ◌-◌, ◌*◌, ◌<◌, ◌≤◌, ℕ, List, All, length, take, slice_index, arith, ap, subst, sym, ◌∙◌, length-take-le}
use Rattle.std.specs.List.{range_with_len}
use Rattle.std.proofs.Math.ListN.{length-set}
use Rattle.mk_states.specs.States.{plus_over}
use Rattle.mk_cell.specs.Cell.{StandsAt}
use Rattle.mk_cell.specs.Passes.{plus_below}
use Rattle.mk_cell.specs.inner.Laws.{all_have_room, stands_with_more}
use Rattle.mk_passes.specs.Parts.{StandListed}
use Rattle.mk_scope.specs.Runs.{runs_of}
use Rattle.mk_passes.proofs.Blocked.{cells_of_room, first_stand, all_listed, written_next, gathered_all}
use Rattle.mk_scope.proofs.Runs.{length-runs, run_within, runs_single}
use Rattle.mk_passes.proofs.Summed.{listed_run, block_runs_few, plus_moved, plus_of_runs, steps_of_runs}
use Rattle.mk_passes.proofs.blocks.plus_of_block.Goals as goal

pub plus_of_cells-requires-clause-within : goal.plus_of_cells-requires-clause-within
plus_of_cells-requires-clause-within g c =
    subst (λ (ys : List ℕ). All (λ k. c.args.base + k < length c.args.digits.now) ys) (ap (λ r. runs_of r c.args.offsets.now) c.if-run-eq1.true ∙ runs_single c.args.offsets.now) c.requires.within

pub plus_of_cells-requires-clause-cells : goal.plus_of_cells-requires-clause-cells
plus_of_cells-requires-clause-cells g c = cells_of_room c.requires.room.0 _ _ _ c.requires.room.1

pub returns-then-run-eq1 : goal.returns-then-run-eq1
returns-then-run-eq1 g c = λ k f n a.
    let R = g.R.Semiring in let xs = c.args.offsets.now in let base = c.args.base in
    let one : runs_of c.args.run xs ≡ xs = ap (λ r. runs_of r xs) c.if-run-eq1.true ∙ runs_single xs in
    let made = c.plus_of_cells.ensures k f n (subst (λ (ys : List ℕ). StandListed k c.args.digits.now c.args.exponents.now f n base ys) one a) in
    let steps : n + length xs ≡ n + length xs * (2 * c.args.run - 1) =
    let e : 2 * c.args.run - 1 ≡ 1 = omega (arith, c.if-run-eq1.true) in let t : length xs * (2 * c.args.run - 1) ≡ length xs * 1 = ap (λ r. length xs * r) e in omega (arith, t) in
    subst (λ m. StandsAt k c.plus_of_cells.result.digits c.plus_of_cells.result.exponent (plus_over R.plus_of 0 (λ j. f (base + j)) (runs_of c.args.run xs)) m) steps
    (subst (λ (ys : List ℕ). StandsAt k c.plus_of_cells.result.digits c.plus_of_cells.result.exponent (plus_over R.plus_of 0 (λ j. f (base + j)) ys) (n + length xs)) (sym one) made)

pub overflow_add-base : goal.overflow_add-base
overflow_add-base g c =
    let l : c.loop-place.place < length c.args.offsets.now = omega (arith, c.loop-place-test.true) in
    let w = run_within c.args.base c.args.run (length c.args.digits.now) c.args.offsets.now (omega (arith, c.requires.some)) c.requires.within c.loop-place.place l in
    omega (arith, w)

pub plus_of_run-cell-requires-clause-within : goal.plus_of_run-cell-requires-clause-within
plus_of_run-cell-requires-clause-within g c =
    let l : c.loop-place.place < length c.args.offsets.now = omega (arith, c.loop-place-test.true) in
    run_within c.args.base c.args.run (length c.args.digits.now) c.args.offsets.now (omega (arith, c.requires.some)) c.requires.within c.loop-place.place l

pub plus_of_run-cell-requires-clause-cells : goal.plus_of_run-cell-requires-clause-cells
plus_of_run-cell-requires-clause-cells g c = cells_of_room c.requires.room.0 _ _ _ c.requires.room.1

pub loop-place-preserved : goal.loop-place-preserved
loop-place-preserved g c =
    let R = g.R.Semiring in let b = c.loop-place.place in let xs = c.args.offsets.now in let run = c.args.run in let base = c.args.base in
    let cell = c.plus_of_run-cell.result in
    let l : b < length xs = omega (arith, c.loop-place-test.true) in
    record {
      long = length-set c.loop-place.run_digits b cell.digits ∙ c.loop-place.invariant.long;
      long_too = length-set c.loop-place.run_exponents b cell.exponent ∙ c.loop-place.invariant.long_too;
      stand = written_next
          (λ i q x. (k : ℕ) (f : ℕ → ℕ) (n : ℕ) → StandListed k c.args.digits.now c.args.exponents.now f n base (runs_of run xs)
          → StandsAt k q x (plus_over R.plus_of 0 (λ j. f (base + j)) (range_with_len (slice_index xs i) run)) (n + length (runs_of run xs)))
          b cell.digits cell.exponent c.loop-place.run_digits c.loop-place.run_exponents
          (omega (arith, l, c.requires.few, c.loop-place.invariant.long)) (omega (arith, l, c.requires.few, c.loop-place.invariant.long_too)) c.loop-place.invariant.stand
          (λ k f n a.
          let made = c.plus_of_run-cell.ensures k f n (listed_run k c.args.digits.now c.args.exponents.now f n base run xs a b l) in
          let moved = subst (λ v. StandsAt k cell.digits cell.exponent v (n + run)) (plus_moved R.plus_of f base (slice_index xs b) run) made in
          let e = length-runs run xs in let m : 1 * run ≤ length xs * run = block_runs_few run 1 (length xs) (omega (arith, l)) in
          stands_with_more k _ _ _ (n + run) (n + length (runs_of run xs)) (omega (arith, e, m)) moved);
    }

pub over-requires : goal.over-requires
over-requires g c =
    let R = g.R.Semiring in let xs = c.args.offsets.now in let count = length xs in let run = c.args.run in let base = c.args.base in
    let room = c.requires.room.1 in let f = room.few_steps in
    let l : count ≤ length c.loop-place.run_digits = omega (arith, c.requires.few, c.loop-place.invariant.long) in
    let m : count ≤ length c.loop-place.run_exponents = omega (arith, c.requires.few, c.loop-place.invariant.long_too) in
    let sums : ℕ → ℕ = λ b. plus_over R.plus_of 0 (λ j. room.numbers (base + j)) (range_with_len (slice_index xs b) run) in
    all_have_room c.requires.room.0 (take count c.loop-place.run_digits) (take count c.loop-place.run_exponents) sums (room.steps + length (runs_of run xs)) (let l = room.small_shift in omega (arith, l)) (omega arith)
    (length-take-le count c.loop-place.run_exponents m ∙ sym (length-take-le count c.loop-place.run_digits l))
    (first_stand c.requires.room.0 c.loop-place.run_digits c.loop-place.run_exponents sums (room.steps + length (runs_of run xs)) count l
    (λ b p. c.loop-place.invariant.stand b (omega (arith, p, c.loop-place-test.false)) c.requires.room.0 room.numbers room.steps
    (all_listed c.requires.room.0 c.args.digits.now c.args.exponents.now room.numbers room.steps base (runs_of run xs) c.requires.within room.stand)))

pub returns : goal.returns
returns g c = λ k f n a.
    let R = g.R.Semiring in let xs = c.args.offsets.now in let count = length xs in let run = c.args.run in let base = c.args.base in
    let q = c.over.result.digits in let x = c.over.result.exponent in
    let l : count ≤ length c.loop-place.run_digits = omega (arith, c.requires.few, c.loop-place.invariant.long) in
    let sum : ℕ → ℕ = λ o. plus_over R.plus_of 0 (λ j. f (base + j)) (range_with_len o run) in
    let cells = length (runs_of run xs) in
    let made = c.over.ensures k (λ b. sum (slice_index xs b)) (n + cells)
    (first_stand k c.loop-place.run_digits c.loop-place.run_exponents (λ b. sum (slice_index xs b)) (n + cells) count l
    (λ b p. c.loop-place.invariant.stand b (omega (arith, p, c.loop-place-test.false)) k f n a)) in
    let same = subst (λ m. StandsAt k q x (plus_below R.plus_of m (λ b. sum (slice_index xs b))) (n + cells + m)) (length-take-le count c.loop-place.run_digits l) made in
    let all = subst (λ v. StandsAt k q x v (n + cells + count)) (gathered_all R.plus_of g.met.R.Semiring.lawful sum xs ∙ plus_of_runs R.plus_of g.met.R.Semiring.lawful (λ j. f (base + j)) run xs) same in
    let e = length-runs run xs in let s = steps_of_runs run count (omega (arith, c.requires.some, c.if-run-eq1.false)) in
    stands_with_more k _ _ _ (n + cells + count) (n + count * (2 * run - 1)) (omega (arith, e, s)) all
