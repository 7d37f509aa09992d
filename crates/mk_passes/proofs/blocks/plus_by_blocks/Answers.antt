use Rattle.std.proofs.Common.{◌+◌, ◌-◌, ◌*◌, ◌<◌, ◌≤◌, ℕ, List, length, take, arith, subst, sym, ◌∙◌, length-take-le}
use Rattle.std.specs.List.{range_with_len}
use Rattle.std.proofs.Math.ListN.{length-set}
use Rattle.std.proofs.lemmas.Grind.{div_ceil_times}
use Rattle.mk_states.specs.States.{plus_over}
use Rattle.mk_cell.specs.Cell.{StandsAt}
use Rattle.mk_cell.specs.Passes.{plus_below}
use Rattle.mk_cell.specs.inner.Laws.{all_have_room, stands_with_more}
use Rattle.mk_passes.specs.Parts.{StandListed, block_of}
use Rattle.mk_scope.specs.Runs.{runs_of}
use Rattle.mk_passes.proofs.Blocked.{first_stand, blocks_all, all_listed, block_few, block_at_most, written_next}
use Rattle.mk_scope.proofs.Runs.{length-runs, runs_few}
use Rattle.mk_passes.proofs.Summed.{block_runs, block_runs_listed, block_runs_few, less_room, plus_of_runs, more_runs_steps, steps_of_blocks}
use Rattle.mk_passes.proofs.blocks.plus_by_blocks.Goals as goal

-- the blocks of a list
record AreBlocks (blocks count : ℕ) : Type 0 where
  all : count ≤ blocks * 64
  few : blocks ≤ 64
  fewer : 64 < count → blocks < count

are_blocks : (run blocks : ℕ) (xs : List ℕ) → 1 ≤ run → length (runs_of run xs) ≤ 4096 → (length xs ≤ blocks * 64) × (blocks * 64 < length xs + 64) → AreBlocks blocks (length xs)
are_blocks run blocks xs some l h =
    let f = runs_few run xs some in
    record { all = h.0; few = omega (arith, h.1, f, l); fewer = λ many. omega (arith, h.1, many) }

pub plus_of_block-cell-requires-clause-few : goal.plus_of_block-cell-requires-clause-few
plus_of_block-cell-requires-clause-few g c = rw c.block_of-listed.ensures (block_at_most c.args.offsets.now c.loop-block.block)

pub plus_of_block-cell-requires-clause-within : goal.plus_of_block-cell-requires-clause-within
plus_of_block-cell-requires-clause-within g c =
    rw c.block_of-listed.ensures (block_runs (λ k. c.args.base + k < length c.args.digits.now) c.args.run c.args.offsets.now c.loop-block.block c.requires.within)

pub plus_of_block-cell-requires-clause-room : goal.plus_of_block-cell-requires-clause-room
plus_of_block-cell-requires-clause-room g c =
    let xs = c.args.offsets.now in let run = c.args.run in let ys = block_of xs c.loop-block.block in
    let e = length-runs run xs in let f = length-runs run ys in let m = block_runs_few run (length ys) (length xs) (block_few xs c.loop-block.block) in
    (c.requires.room.0, rw c.block_of-listed.ensures (less_room c.requires.room.0 (2 * length (runs_of run xs)) (2 * length (runs_of run ys)) c.args.digits.now c.args.exponents.now (omega (arith, e, f, m)) c.requires.room.1))

pub loop-block-preserved : goal.loop-block-preserved
loop-block-preserved g c =
    let R = g.R.Semiring in let b = c.loop-block.block in let xs = c.args.offsets.now in let run = c.args.run in let base = c.args.base in
    let cell = c.plus_of_block-cell.result in
    let few = (are_blocks run c.div_ceil-blocks.result xs c.requires.some c.requires.few (rw c.div_ceil-blocks.ensures (div_ceil_times (length xs) 64 (omega arith)))).few in
    let l = c.loop-block-test.true in
    record {
      long = length-set c.loop-block.block_digits b cell.digits ∙ c.loop-block.invariant.long;
      long_too = length-set c.loop-block.block_exponents b cell.exponent ∙ c.loop-block.invariant.long_too;
      stand = written_next
          (λ i q x. (k : ℕ) (f : ℕ → ℕ) (n : ℕ) → StandListed k c.args.digits.now c.args.exponents.now f n base (runs_of run xs)
          → StandsAt k q x (plus_over R.plus_of 0 (λ o. plus_over R.plus_of 0 (λ j. f (base + j)) (range_with_len o run)) (block_of xs i)) (n + length xs * (2 * run - 1)))
          b cell.digits cell.exponent c.loop-block.block_digits c.loop-block.block_exponents
          (omega (arith, few, l, c.loop-block.invariant.long)) (omega (arith, few, l, c.loop-block.invariant.long_too)) c.loop-block.invariant.stand
          (λ k f n a.
          let made : StandsAt k cell.digits cell.exponent (plus_over R.plus_of 0 (λ j. f (base + j)) (runs_of run (block_of xs b))) (n + length (block_of xs b) * (2 * run - 1)) =
          subst (λ (ys : List ℕ). StandsAt k cell.digits cell.exponent (plus_over R.plus_of 0 (λ j. f (base + j)) (runs_of run ys)) (n + length ys * (2 * run - 1))) c.block_of-listed.ensures
          (c.plus_of_block-cell.ensures k f n (rw c.block_of-listed.ensures (block_runs_listed k c.args.digits.now c.args.exponents.now f n base run xs b a))) in
          let sums = subst (λ v. StandsAt k cell.digits cell.exponent v (n + length (block_of xs b) * (2 * run - 1))) (sym (plus_of_runs R.plus_of g.met.R.Semiring.lawful (λ j. f (base + j)) run (block_of xs b))) made in
          let m = more_runs_steps run (length (block_of xs b)) (length xs) (block_few xs b) in
          stands_with_more k _ _ _ (n + length (block_of xs b) * (2 * run - 1)) (n + length xs * (2 * run - 1)) (omega (arith, m)) sums);
    }

pub bounds-block_digits-block : goal.bounds-block_digits-block
bounds-block_digits-block g c =
    let blocks = c.div_ceil-blocks.result in let xs = c.args.offsets.now in
    let are = are_blocks c.args.run blocks xs c.requires.some c.requires.few (rw c.div_ceil-blocks.ensures (div_ceil_times (length xs) 64 (omega arith))) in
    omega (arith, are.few, c.loop-block-test.true)

pub bounds-block_exponents-block : goal.bounds-block_exponents-block
bounds-block_exponents-block g c =
    let blocks = c.div_ceil-blocks.result in let xs = c.args.offsets.now in
    let are = are_blocks c.args.run blocks xs c.requires.some c.requires.few (rw c.div_ceil-blocks.ensures (div_ceil_times (length xs) 64 (omega arith))) in
    omega (arith, are.few, c.loop-block-test.true)

pub slice_bounds-block_digits-end : goal.slice_bounds-block_digits-end
slice_bounds-block_digits-end g c =
    let blocks = c.div_ceil-blocks.result in let xs = c.args.offsets.now in
    let are = are_blocks c.args.run blocks xs c.requires.some c.requires.few (rw c.div_ceil-blocks.ensures (div_ceil_times (length xs) 64 (omega arith))) in
    omega (arith, are.few, c.loop-block.invariant.long)

pub slice_bounds-over-end : goal.slice_bounds-over-end
slice_bounds-over-end g c =
    let blocks = c.div_ceil-blocks.result in let xs = c.args.offsets.now in
    let are = are_blocks c.args.run blocks xs c.requires.some c.requires.few (rw c.div_ceil-blocks.ensures (div_ceil_times (length xs) 64 (omega arith))) in
    sym (length-take-le blocks c.loop-block.block_digits (omega (arith, are.few, c.loop-block.invariant.long)))

pub slice_bounds-block_exponents-end : goal.slice_bounds-block_exponents-end
slice_bounds-block_exponents-end g c =
    let blocks = c.div_ceil-blocks.result in let xs = c.args.offsets.now in
    let are = are_blocks c.args.run blocks xs c.requires.some c.requires.few (rw c.div_ceil-blocks.ensures (div_ceil_times (length xs) 64 (omega arith))) in
    omega (arith, are.few, c.loop-block.invariant.long_too)

pub slice_bounds-over-end-2 : goal.slice_bounds-over-end-2
slice_bounds-over-end-2 g c =
    let blocks = c.div_ceil-blocks.result in let xs = c.args.offsets.now in
    let are = are_blocks c.args.run blocks xs c.requires.some c.requires.few (rw c.div_ceil-blocks.ensures (div_ceil_times (length xs) 64 (omega arith))) in
    sym (length-take-le blocks c.loop-block.block_exponents (omega (arith, are.few, c.loop-block.invariant.long_too)))

pub over-requires : goal.over-requires
over-requires g c =
    let R = g.R.Semiring in let xs = c.args.offsets.now in let run = c.args.run in let base = c.args.base in let blocks = c.div_ceil-blocks.result in
    let room = c.requires.room.1 in let f = room.few_steps in
    let are = are_blocks run blocks xs c.requires.some c.requires.few (rw c.div_ceil-blocks.ensures (div_ceil_times (length xs) 64 (omega arith))) in
    let l : blocks ≤ length c.loop-block.block_digits = omega (arith, are.few, c.loop-block.invariant.long) in
    let m : blocks ≤ length c.loop-block.block_exponents = omega (arith, are.few, c.loop-block.invariant.long_too) in
    let e = length-runs run xs in let s = steps_of_blocks run (length xs) 0 c.requires.some (omega arith) in
    let sums : ℕ → ℕ = λ b. plus_over R.plus_of 0 (λ o. plus_over R.plus_of 0 (λ j. room.numbers (base + j)) (range_with_len o run)) (block_of xs b) in
    all_have_room c.requires.room.0 (take blocks c.loop-block.block_digits) (take blocks c.loop-block.block_exponents) sums (room.steps + length xs * (2 * run - 1)) (let l = room.small_shift in omega (arith, l)) (omega (arith, f, e, s))
    (length-take-le blocks c.loop-block.block_exponents m ∙ sym (length-take-le blocks c.loop-block.block_digits l))
    (first_stand c.requires.room.0 c.loop-block.block_digits c.loop-block.block_exponents sums (room.steps + length xs * (2 * run - 1)) blocks l
    (λ b p. c.loop-block.invariant.stand b (omega (arith, p, c.loop-block-test.false)) c.requires.room.0 room.numbers room.steps
    (all_listed c.requires.room.0 c.args.digits.now c.args.exponents.now room.numbers room.steps base (runs_of run xs) c.requires.within room.stand)))

pub returns : goal.returns
returns g c = λ k f n a.
    let R = g.R.Semiring in let xs = c.args.offsets.now in let run = c.args.run in let base = c.args.base in let blocks = c.div_ceil-blocks.result in
    let q = c.over.result.digits in let x = c.over.result.exponent in
    let are = are_blocks run blocks xs c.requires.some c.requires.few (rw c.div_ceil-blocks.ensures (div_ceil_times (length xs) 64 (omega arith))) in
    let l : blocks ≤ length c.loop-block.block_digits = omega (arith, are.few, c.loop-block.invariant.long) in
    let sum : ℕ → ℕ = λ o. plus_over R.plus_of 0 (λ j. f (base + j)) (range_with_len o run) in
    let steps = n + length xs * (2 * run - 1) in
    let made = c.over.ensures k (λ b. plus_over R.plus_of 0 sum (block_of xs b)) steps
    (first_stand k c.loop-block.block_digits c.loop-block.block_exponents (λ b. plus_over R.plus_of 0 sum (block_of xs b)) steps blocks l (λ b p. c.loop-block.invariant.stand b (omega (arith, p, c.loop-block-test.false)) k f n a)) in
    let same = subst (λ m. StandsAt k q x (plus_below R.plus_of m (λ b. plus_over R.plus_of 0 sum (block_of xs b))) (steps + m)) (length-take-le blocks c.loop-block.block_digits l) made in
    let all = subst (λ v. StandsAt k q x v (steps + blocks)) (blocks_all R.plus_of g.met.R.Semiring.lawful sum xs blocks are.all ∙ plus_of_runs R.plus_of g.met.R.Semiring.lawful (λ j. f (base + j)) run xs) same in
    let e = length-runs run xs in let s = steps_of_blocks run (length xs) blocks c.requires.some (are.fewer c.requires.many) in
    stands_with_more k _ _ _ (steps + blocks) (n + (2 * length (runs_of run xs) - 1)) (omega (arith, e, s)) all
