use Rattle.std.proofs.Common.{◌≡◌, ◌+◌, ◌*◌, ◌<◌, ◌≤◌, ℕ, List, All, length, slice_index, arith, subst, sym, ◌∙◌, length-take-le}
use Rattle.std.proofs.lemmas.List.{length-map}
use Rattle.std.proofs.lemmas.List.Elements.{All-map}
use Rattle.std.proofs.Math.ListN.{length-set}
use Rattle.std.proofs.lemmas.Grind.{div_ceil_times}
use Rattle.mk_states.specs.States.{plus_over}
use Rattle.mk_cell.specs.Cell.{StandsAt}
use Rattle.mk_cell.specs.Passes.{plus_below}
use Rattle.mk_cell.specs.inner.Laws.{stands_with_more}
use Rattle.mk_passes.specs.Parts.{StandPairs, block_of}
use Rattle.mk_scope.specs.Runs.{cells_at}
use Rattle.mk_passes.specs.Blank.{one_digits, one_exponent, filled}
use Rattle.mk_passes.proofs.Blocked.{first_stand, first_cells, blocks_all, block_few, block_at_most, block_within, written_next}
use Rattle.mk_passes.proofs.Filled.{at_most, filled_length}
use Rattle.mk_passes.proofs.Summed.{less_room}
use Rattle.mk_passes.proofs.Paired.{MakesPairs, block_at, block_pairs, room_pairs, onto_there, made_cell}
use Rattle.mk_passes.proofs.products.products_by_blocks.Goals as goal

-- the blocks of a list
record AreBlocks (blocks count : ℕ) : Type 0 where
  all : count ≤ blocks * 64
  few : blocks ≤ 64
  steps : 129 + blocks ≤ 2 * count + 1

are_blocks : (blocks count : ℕ) → 64 < count → count ≤ 4096 → (count ≤ blocks * 64) × (blocks * 64 < count + 64) → AreBlocks blocks count
are_blocks blocks count many few h = record { all = h.0; few = omega (arith, h.1, few); steps = omega (arith, h.0, h.1, many) }

pub products_of_block-cell-requires-clause-few : goal.products_of_block-cell-requires-clause-few
products_of_block-cell-requires-clause-few g c = rw c.block_of-listed.ensures (block_at_most c.args.chosen.now c.loop-block.block)

pub products_of_block-cell-requires-clause-within : goal.products_of_block-cell-requires-clause-within
products_of_block-cell-requires-clause-within g c =
    rw c.block_of-listed.ensures (block_within (λ k. c.args.base + k < length c.args.onto.now) c.args.chosen.now c.loop-block.block c.requires.within)

pub products_of_block-cell-requires-clause-room : goal.products_of_block-cell-requires-clause-room
products_of_block-cell-requires-clause-room g c =
    let xs = c.args.chosen.now in let ys = block_of xs c.loop-block.block in let count = length c.args.onto.now in
    let m = block_few xs c.loop-block.block in
    (c.requires.room.0, rw c.block_of-listed.ensures (less_room c.requires.room.0 (2 * length xs) (2 * length ys) (filled one_digits count c.args.left.digits.now) (filled one_exponent count c.args.left.exponents.now) (omega (arith, m)) c.requires.room.1))

pub loop-block-preserved : goal.loop-block-preserved
loop-block-preserved g c =
    let R = g.R.Semiring in let b = c.loop-block.block in let xs = c.args.chosen.now in let cell = c.products_of_block-cell.result in
    let ys = cells_at c.args.base xs in
    let d = filled one_digits (length c.args.onto.now) c.args.left.digits.now in let e = filled one_exponent (length c.args.onto.now) c.args.left.exponents.now in
    let are = are_blocks c.div_ceil-blocks.result (length xs) c.requires.many c.requires.few (rw c.div_ceil-blocks.ensures (div_ceil_times (length xs) 64 (omega arith))) in
    let l = c.loop-block-test.true in
    let listed : cells_at c.args.base c.block_of-listed.result.now ≡ block_of ys b = block_at c.args.base xs b c.block_of-listed.result.now c.block_of-listed.ensures in
    let few : length c.block_of-listed.result.now ≤ 64 = rw c.block_of-listed.ensures (block_at_most xs b) in
    record {
      long = length-set c.loop-block.block_digits b cell.digits ∙ c.loop-block.invariant.long;
      long_too = length-set c.loop-block.block_exponents b cell.exponent ∙ c.loop-block.invariant.long_too;
      stand = written_next
          (λ i q x. MakesPairs R.plus_of c.args.left.digits.now c.args.left.exponents.now c.args.onto.now c.args.right.digits.now c.args.right.exponents.now ys (block_of ys i) q x)
          b cell.digits cell.exponent c.loop-block.block_digits c.loop-block.block_exponents
          (omega (arith, are.few, l, c.loop-block.invariant.long)) (omega (arith, are.few, l, c.loop-block.invariant.long_too)) c.loop-block.invariant.stand
          (λ j k f h n p pairs.
          let product : ℕ → ℕ = λ i. f i * h i in
          let made = c.products_of_block-cell.ensures j k f h n p
          (subst (λ (zs : List ℕ). StandPairs j k d e c.args.right.digits.now c.args.right.exponents.now (slice_index c.args.onto.now) f h n p zs) (sym listed)
          (block_pairs d e c.args.right.digits.now c.args.right.exponents.now ys (slice_index c.args.onto.now) b j k f h n p pairs)) in
          stands_with_more (j + k) cell.digits cell.exponent (plus_over R.plus_of 0 product (block_of ys b)) (n + p + (2 * length c.block_of-listed.result.now + 1)) (n + p + 129) (omega (arith, few))
          (subst (λ (zs : List ℕ). StandsAt (j + k) cell.digits cell.exponent (plus_over R.plus_of 0 product zs) (n + p + (2 * length c.block_of-listed.result.now + 1))) listed made));
    }

pub bounds-block_digits-block : goal.bounds-block_digits-block
bounds-block_digits-block g c =
    let xs = c.args.chosen.now in
    let are = are_blocks c.div_ceil-blocks.result (length xs) c.requires.many c.requires.few (rw c.div_ceil-blocks.ensures (div_ceil_times (length xs) 64 (omega arith))) in
    omega (arith, are.few, c.loop-block-test.true)

pub bounds-block_exponents-block : goal.bounds-block_exponents-block
bounds-block_exponents-block g c =
    let xs = c.args.chosen.now in
    let are = are_blocks c.div_ceil-blocks.result (length xs) c.requires.many c.requires.few (rw c.div_ceil-blocks.ensures (div_ceil_times (length xs) 64 (omega arith))) in
    omega (arith, are.few, c.loop-block-test.true)

pub slice_bounds-block_digits-end : goal.slice_bounds-block_digits-end
slice_bounds-block_digits-end g c =
    let xs = c.args.chosen.now in
    let are = are_blocks c.div_ceil-blocks.result (length xs) c.requires.many c.requires.few (rw c.div_ceil-blocks.ensures (div_ceil_times (length xs) 64 (omega arith))) in
    omega (arith, are.few, c.loop-block.invariant.long)

pub slice_bounds-over-end : goal.slice_bounds-over-end
slice_bounds-over-end g c =
    let xs = c.args.chosen.now in
    let are = are_blocks c.div_ceil-blocks.result (length xs) c.requires.many c.requires.few (rw c.div_ceil-blocks.ensures (div_ceil_times (length xs) 64 (omega arith))) in
    sym (length-take-le c.div_ceil-blocks.result c.loop-block.block_digits (omega (arith, are.few, c.loop-block.invariant.long)))

pub slice_bounds-block_exponents-end : goal.slice_bounds-block_exponents-end
slice_bounds-block_exponents-end g c =
    let xs = c.args.chosen.now in
    let are = are_blocks c.div_ceil-blocks.result (length xs) c.requires.many c.requires.few (rw c.div_ceil-blocks.ensures (div_ceil_times (length xs) 64 (omega arith))) in
    omega (arith, are.few, c.loop-block.invariant.long_too)

pub slice_bounds-over-end-2 : goal.slice_bounds-over-end-2
slice_bounds-over-end-2 g c =
    let xs = c.args.chosen.now in
    let are = are_blocks c.div_ceil-blocks.result (length xs) c.requires.many c.requires.few (rw c.div_ceil-blocks.ensures (div_ceil_times (length xs) 64 (omega arith))) in
    sym (length-take-le c.div_ceil-blocks.result c.loop-block.block_exponents (omega (arith, are.few, c.loop-block.invariant.long_too)))

pub over-requires : goal.over-requires
over-requires g c =
    let R = g.R.Semiring in let xs = c.args.chosen.now in let blocks = c.div_ceil-blocks.result in let count = length c.args.onto.now in
    let d = filled one_digits count c.args.left.digits.now in let e = filled one_exponent count c.args.left.exponents.now in
    let are = are_blocks blocks (length xs) c.requires.many c.requires.few (rw c.div_ceil-blocks.ensures (div_ceil_times (length xs) 64 (omega arith))) in
    let long : length d ≡ count = filled_length one_digits count c.args.left.digits.now ((at_most count c.args.left.digits.now c.args.left.exponents.now c.requires.whole).0) in
    let ys = cells_at c.args.base xs in
    let here : All (λ k. k < count) ys = All-map (λ k. k < count) (λ k. c.args.base + k) xs c.requires.within in
    let within : All (λ k. k < length d) ys = rw long here in
    let there = onto_there ys c.args.onto.now (length c.args.right.digits.now) c.requires.onto here in
    let pairs = room_pairs d e c.args.right.digits.now c.args.right.exponents.now ys (slice_index c.args.onto.now) c.requires.room.0 c.requires.other_room.0 (2 * length xs) 1 c.requires.room.1 c.requires.other_room.1 within there in
    first_cells c.loop-block.block_digits c.loop-block.block_exponents blocks (omega (arith, are.few, c.loop-block.invariant.long)) (omega (arith, are.few, c.loop-block.invariant.long_too))
    (λ b p. made_cell d e c.args.right.digits.now c.args.right.exponents.now c.requires.room.0 c.requires.other_room.0 (2 * length xs) (omega (arith, c.requires.many)) c.requires.room.1 c.requires.other_room.1
    (slice_index c.loop-block.block_digits b) (slice_index c.loop-block.block_exponents b) _
    (c.loop-block.invariant.stand b (omega (arith, p, c.loop-block-test.false)) c.requires.room.0 c.requires.other_room.0 _ _ _ _ pairs))

pub returns : goal.returns
returns g c = λ j k f h n p pairs.
    let R = g.R.Semiring in let xs = c.args.chosen.now in let blocks = c.div_ceil-blocks.result in
    let q = c.over.result.digits in let x = c.over.result.exponent in
    let are = are_blocks blocks (length xs) c.requires.many c.requires.few (rw c.div_ceil-blocks.ensures (div_ceil_times (length xs) 64 (omega arith))) in
    let l : blocks ≤ length c.loop-block.block_digits = omega (arith, are.few, c.loop-block.invariant.long) in
    let ys = cells_at c.args.base xs in let long : length ys ≡ length xs = length-map xs (λ i. c.args.base + i) in
    let product : ℕ → ℕ = λ i. f i * h i in let steps = n + p + 129 in
    let made = c.over.ensures (j + k) (λ b. plus_over R.plus_of 0 product (block_of ys b)) steps
    (first_stand (j + k) c.loop-block.block_digits c.loop-block.block_exponents (λ b. plus_over R.plus_of 0 product (block_of ys b)) steps blocks l (λ b m. c.loop-block.invariant.stand b (omega (arith, m, c.loop-block-test.false)) j k f h n p pairs)) in
    let same = subst (λ m. StandsAt (j + k) q x (plus_below R.plus_of m (λ b. plus_over R.plus_of 0 product (block_of ys b))) (steps + m)) (length-take-le blocks c.loop-block.block_digits l) made in
    let all = subst (λ v. StandsAt (j + k) q x v (steps + blocks)) (blocks_all R.plus_of g.met.R.Semiring.lawful product ys blocks (omega (arith, are.all, long))) same in
    stands_with_more (j + k) q x (plus_over R.plus_of 0 product ys) (steps + blocks) (n + p + (2 * length xs + 1)) (omega (arith, are.steps)) all
