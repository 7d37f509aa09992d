use Rattle.std.proofs.Common.{◌≡◌, ℕ, ◌+◌, ◌-◌, ◌*◌, ◌/◌, ◌^◌, ◌<◌, max, refl, ◌∙◌, List, slice_index, length, arith}
use Rattle.mk_cell.specs.Cell.{IsRounded}
use Rattle.mk_cell.specs.Passes.{folded}
use Rattle.mk_cell.specs.Products.{AreUnrounded}
use Rattle.mk_cell.proofs.Added.{added, added_same}
use Rattle.mk_cell.proofs.GreatestOf.{greatest_is, greatest_same}
use Rattle.mk_cell.proofs.Pairs.{ArePairs, pairs_of}
use Rattle.mk_cell.proofs.SummedProducts.{pair_top, pair_top_at_most, pair_terms, total_full, products_stand}
use Rattle.mk_cell.proofs.sums.sum_of_products.Goals as goal

-- what the two passes find, said of the cells
record AreSummed (a e b d : ℕ → ℕ) (n top total : ℕ) : Type 0 where
  pairs : ArePairs n a e b d
  top_is : top ≡ pair_top n e d
  total_is : total ≡ added n (pair_terms n a e b d)

greatest_of_pairs : (top : ℕ) (a e b d : ℕ → ℕ) (places exponents : List ℕ) → AreUnrounded a e b d places exponents → top ≡ folded max 0 (length exponents) (slice_index exponents) → top ≡ pair_top (length places) e d
greatest_of_pairs top a e b d places exponents h t =
    let i = rw h.same_length at t in
    i ∙ greatest_same (length places) (slice_index exponents) (λ c. e c + d c) (λ c l. (h.each c l).exponent_is)

summed : (top total : ℕ) (a e b d : ℕ → ℕ) (places exponents : List ℕ) → AreUnrounded a e b d places exponents → top ≡ folded max 0 (length exponents) (slice_index exponents)
    → total ≡ added (length places) (λ c. slice_index places c / 2 ^ (top - slice_index exponents c)) → AreSummed a e b d (length places) top total
summed top total a e b d places exponents h t s =
    let i = greatest_of_pairs top a e b d places exponents h t in
    let each : (c : ℕ) → c < length places → slice_index places c / 2 ^ (top - slice_index exponents c) ≡ pair_terms (length places) a e b d c =
    λ c l. let u = h.each c l in rw (u.places_are, u.exponent_is, i) refl in
    record {
      pairs = pairs_of a e b d places exponents h;
      top_is = i;
      total_is = s ∙ added_same (length places) (λ c. slice_index places c / 2 ^ (top - slice_index exponents c)) (pair_terms (length places) a e b d) each;
    }

rounded_is : (n top total q x : ℕ) (a e b d : ℕ → ℕ) → AreSummed a e b d n top total → IsRounded q x (total * 2 ^ (top + 64)) → IsRounded q x (added n (pair_terms n a e b d) * 2 ^ (pair_top n e d + 64))
rounded_is n top total q x a e b d s r = rw (← s.top_is, ← s.total_is) r

pub total-requires-clause-top_at_least : goal.total-requires-clause-top_at_least
total-requires-clause-top_at_least c = λ i l.
    let h = rw c.requires.4.same_length at c.greatest-top.ensures in
    let k = greatest_is (length c.args.places.now) i (slice_index c.args.exponents.now) l in
    omega arith

pub overflow_add-top : goal.overflow_add-top
overflow_add-top c =
    let s = summed _ _ _ _ _ _ _ _ c.requires.4 c.greatest-top.ensures c.total.ensures in
    let t = s.top_is in
    let k = pair_top_at_most _ _ _ _ _ s.pairs in
    omega arith

pub rounded-requires-clause-full : goal.rounded-requires-clause-full
rounded-requires-clause-full c = λ z.
    let s = summed _ _ _ _ _ _ _ _ c.requires.4 c.greatest-top.ensures c.total.ensures in
    let t = s.total_is in
    let f = total_full _ _ _ _ _ s.pairs (omega arith) in
    omega arith

pub rounded-requires-clause-low : goal.rounded-requires-clause-low
rounded-requires-clause-low c = λ z.
    let s = summed _ _ _ _ _ _ _ _ c.requires.4 c.greatest-top.ensures c.total.ensures in
    let i = s.top_is in
    let t = s.total_is in
    let f = total_full _ _ _ _ _ s.pairs (omega arith) in
    omega arith

pub rounded-requires-clause-high : goal.rounded-requires-clause-high
rounded-requires-clause-high c =
    let s = summed _ _ _ _ _ _ _ _ c.requires.4 c.greatest-top.ensures c.total.ensures in
    let t = s.top_is in
    let k = pair_top_at_most _ _ _ _ _ s.pairs in
    omega arith

pub returns : goal.returns
returns c = λ a e b d h j k f g n p m.
    let s = summed _ _ a e b d c.args.places.now c.args.exponents.now h c.greatest-top.ensures c.total.ensures in
    products_stand (length c.args.places.now) a e b d f g j k n p c.rounded.result.digits c.rounded.result.exponent s.pairs m
    (rounded_is (length c.args.places.now) c.greatest-top.result c.total.result _ _ a e b d s c.rounded.ensures.rounded)
