use Rattle.std.proofs.Common.{◌≡◌, ℕ, ◌+◌, ◌-◌, ◌*◌, ◌/◌, ◌%◌, ◌<◌, ◌≤◌, length, replicate, arith, subst}
use Rattle.std.proofs.lemmas.List.{length-replicate}
use Rattle.mk_states.specs.States.{plus_over}
use Rattle.mk_cell.specs.Cell.{IsCell, StandsAt}
use Rattle.mk_cell.specs.inner.Laws.{has_room, stands_with_more}
use Rattle.mk_passes.specs.Parts.{block_of}
use Rattle.mk_passes.specs.Blank.{one_digits, one_exponent}
use Rattle.mk_passes.proofs.Blocked.{blocks_all, block_within}
use Rattle.mk_passes.proofs.OnesSum.{one_stands, block_long, last_block_long}
use Rattle.mk_passes.proofs.blank.plus_of_ones.Goals as goal

-- what the ones of a block add up to is a cell
few_cell : (q x count : ℕ) (plus : ℕ → ℕ → ℕ) → count ≤ 64 → StandsAt 0 q x (plus_over {X = ℕ} plus 0 (λ c. 1) (replicate count 0)) (0 + count) → IsCell q x
few_cell q x count plus h s = has_room 0 q x _ (0 + count) (omega arith) (omega (arith, h)) s

pub returns-then-count-le-FEW : goal.returns-then-count-le-FEW
returns-then-count-le-FEW g c = λ xs l k f n a.
    stands_with_more k _ _ _ (n + c.args.count) (n + (2 * c.args.count - 1)) (omega arith) (c.plus_of_few.ensures xs l k f n a)

pub returns-then-count-le-BLOCK : goal.returns-then-count-le-BLOCK
returns-then-count-le-BLOCK g c = λ xs l k f n a.
    stands_with_more k _ _ _ (n + c.args.count) (n + (2 * c.args.count - 1)) (omega arith) (c.plus_of_few-then-count-le-BLOCK.ensures xs l k f n a)

pub plus_of_blocks-requires-clause-block : goal.plus_of_blocks-requires-clause-block
plus_of_blocks-requires-clause-block g c =
    few_cell _ _ 64 g.R.Semiring.plus_of (omega arith) (c.plus_of_few-block.ensures (replicate 64 0) (length-replicate {A = ℕ} 64 0) 0 (λ j. 1) 0 (λ i z l. one_stands))

pub plus_of_blocks-requires-clause-rest : goal.plus_of_blocks-requires-clause-rest
plus_of_blocks-requires-clause-rest g c =
    few_cell _ _ (c.args.count % 64) g.R.Semiring.plus_of (omega arith) (c.plus_of_few-rest.ensures (replicate (c.args.count % 64) 0) (length-replicate {A = ℕ} (c.args.count % 64) 0) 0 (λ j. 1) 0 (λ i z l. one_stands))

pub returns-else-count-le-BLOCK : goal.returns-else-count-le-BLOCK
returns-else-count-le-BLOCK g c = λ xs l k f n a.
    let R = g.R.Semiring in let count = c.args.count in
    let blocks = count / 64 in let rest = count % 64 in
    let split : length xs ≡ blocks * 64 + rest = omega (arith, l) in
    let small : rest < 64 = omega arith in
    let more : 64 < count = omega (arith, c.if-count-le-BLOCK.false) in
    let sum : ℕ → ℕ = λ b. plus_over R.plus_of 0 f (block_of xs b) in
    let P : ℕ → Type 0 = λ i. StandsAt k one_digits one_exponent (f i) n in
    let each : (b : ℕ) → b < blocks → StandsAt k c.plus_of_few-block.result.digits c.plus_of_few-block.result.exponent (sum b) (n + 64) =
    λ b p. c.plus_of_few-block.ensures (block_of xs b) (block_long xs b (omega (arith, p, split))) k f n (block_within P xs b a) in
    let last : StandsAt k c.plus_of_few-rest.result.digits c.plus_of_few-rest.result.exponent (sum blocks) (n + 64) =
    stands_with_more k _ _ _ (n + rest) (n + 64) (omega (arith, small)) (c.plus_of_few-rest.ensures (block_of xs blocks) (last_block_long xs blocks rest split small) k f n (block_within P xs blocks a)) in
    let all = subst (λ v. StandsAt k c.plus_of_blocks.result.digits c.plus_of_blocks.result.exponent v (n + 64 + (blocks + 1))) (blocks_all R.plus_of g.met.R.Semiring.lawful f xs (blocks + 1) (omega (arith, split, small)))
    (c.plus_of_blocks.ensures k sum (n + 64) each last) in
    stands_with_more k _ _ _ (n + 64 + (blocks + 1)) (n + (2 * count - 1)) (omega (arith, split, l, more)) all
