use Rattle.std.proofs.Common.{◌≡◌, ℕ, ◌+◌, ◌-◌, ◌*◌, ◌/◌, ◌^◌, ◌<◌, ◌≤◌, ap, ◌∙◌, slice_index, length, arith}
use Rattle.mk_cell.specs.Cell.{bias, bias-is, IsRounded}
use Rattle.mk_cell.proofs.Added.{added}
use Rattle.mk_cell.proofs.GreatestOf.{greatest_is}
use Rattle.mk_cell.proofs.Summed.{top_of, top_at_most, terms, total_full, sum_stands}
use Rattle.mk_cell.proofs.sums.sum.Goals as goal
use Rattle.mk_cell.proofs.sums.sum.Goals.{After-total}

total_is : (n top total : ℕ) (m e : ℕ → ℕ) → top ≡ top_of n e → total ≡ added n (λ c. m c / 2 ^ (top - e c)) → total ≡ added n (terms n m e)
total_is n top total m e h t = t ∙ ap (λ y. added n (λ c. m c / 2 ^ (y - e c))) h

rounded_is : (n top total q x : ℕ) (m e : ℕ → ℕ) → top ≡ top_of n e → total ≡ added n (terms n m e) → IsRounded q x (total * 2 ^ (top + 1342177280)) → IsRounded q x (added n (terms n m e) * 2 ^ (top_of n e + bias))
rounded_is n top total q x m e h t r = let i : top_of n e + bias ≡ top + 1342177280 = let b = bias-is in omega arith in rw (i, ← t) r

pub total-requires-clause-top_at_least : goal.total-requires-clause-top_at_least
total-requires-clause-top_at_least c = λ i l.
    let h = rw c.requires.same_length at c.greatest-top.ensures in
    let k = greatest_is (length c.args.digits.now) i (slice_index c.args.exponents.now) l in
    omega arith

-- a sum that is not nothing is full, and its place is not low
full : (c : After-total) → 0 < c.total.result → (2 ^ 63 ≤ c.total.result) × (7 * 2 ^ 27 ≤ c.greatest-top.result)
full c p =
    let n = length c.args.digits.now in
    let m = slice_index c.args.digits.now in let e = slice_index c.args.exponents.now in
    let h = rw c.requires.same_length at c.greatest-top.ensures in
    let t = total_is n _ _ m e h c.total.ensures in
    let f = total_full n m e c.requires.each (omega (arith, p, t)) in
    (omega (arith, t, f.0), omega (arith, h, f.1))

pub overflow_add-top : goal.overflow_add-top
overflow_add-top c =
    let h = rw c.requires.same_length at c.greatest-top.ensures in
    let k = top_at_most (length c.args.digits.now) (slice_index c.args.digits.now) (slice_index c.args.exponents.now) c.requires.each in
    omega arith

pub rounded-requires-clause-full : goal.rounded-requires-clause-full
rounded-requires-clause-full c = λ p.
    let f = full (goal.at.rounded-requires-clause-full c).After-total (omega arith) in omega arith

pub rounded-requires-clause-low : goal.rounded-requires-clause-low
rounded-requires-clause-low c = λ p.
    let f = full (goal.at.rounded-requires-clause-low c).After-total (omega arith) in omega arith

pub rounded-requires-clause-high : goal.rounded-requires-clause-high
rounded-requires-clause-high c =
    let h = rw c.requires.same_length at c.greatest-top.ensures in
    let k = top_at_most (length c.args.digits.now) (slice_index c.args.digits.now) (slice_index c.args.exponents.now) c.requires.each in
    omega arith

pub returns : goal.returns
returns c = λ k f n a.
    let h = rw c.requires.same_length at c.greatest-top.ensures in
    let t = total_is (length c.args.digits.now) _ _ (slice_index c.args.digits.now) (slice_index c.args.exponents.now) h c.total.ensures in
    sum_stands (length c.args.digits.now) (slice_index c.args.digits.now) (slice_index c.args.exponents.now) f k n c.rounded.result.digits c.rounded.result.exponent c.requires.each a.each
    (rounded_is (length c.args.digits.now) c.greatest-top.result c.total.result _ _ (slice_index c.args.digits.now) (slice_index c.args.exponents.now) h t c.rounded.ensures.rounded)
