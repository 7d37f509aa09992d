use Rattle.std.proofs.Common.{◌*◌, ◌^◌, le_trans}
use Rattle.std.proofs.Math.Nat.{mul-le-mul}
use Rattle.mk_judge.specs.inner.Products.{product_of}
use Rattle.mk_judge.proofs.Sharing.{first_positive, first_lower, last_lower}
use Rattle.mk_judge.proofs.Ending.{AreEndsBy, outer, inner, low_near, high_near}
use Rattle.mk_judge.proofs.wanting.wanted_by.Goals as goal

pub invariant_of-result-clause-positive : goal.invariant_of-result-clause-positive
invariant_of-result-clause-positive c =
    first_positive c.args.scale.now c.first_share.result c.args.part.now.lo _
    c.args.part.now.positive (rw c.lo-3.ensures.value at c.first_share.ensures.first)

pub invariant_of-result-clause-low : goal.invariant_of-result-clause-low
invariant_of-result-clause-low c =
    let below = rw (c.lo.ensures.value, c.lo-2.ensures.value) at c.product_down-least.ensures.below
    in
    let above = rw (c.hi.ensures.value, c.hi-2.ensures.value) at c.product_up-greatest.ensures.above
    in
    first_lower c.args.scale.now c.first_share.result c.first_share-2.result c.args.part.now.lo
    c.args.part.now.hi (product_of c.product_up-greatest.result)
    (product_of c.product_down-least.result)
    c.args.part.now.ordered (le_trans below
    (le_trans (mul-le-mul c.args.gain.now.ordered c.args.whole.now.ordered) above))
    c.first_share.ensures.at_most (rw c.lo-3.ensures.value at c.first_share.ensures.first)
    (rw c.hi-3.ensures.value at c.first_share-2.ensures.first)

pub invariant_of-result-clause-high : goal.invariant_of-result-clause-high
invariant_of-result-clause-high c =
    last_lower (1000000 * 2 ^ 22) c.last_share.result c.last_share-2.result c.args.part.now.lo
    c.args.part.now.hi c.args.whole.now.hi c.args.whole.now.lo
    c.args.part.now.ordered c.args.whole.now.ordered c.last_share.ensures.at_most
    (rw (c.lo-4.ensures.value, c.hi-4.ensures.value) at c.last_share.ensures.last)
    (rw (c.hi-5.ensures.value, c.lo-5.ensures.value) at c.last_share-2.ensures.last)

ends_by : (c : goal.After-result-1)
    → AreEndsBy c.args.part.now c.args.whole.now c.args.gain.now c.args.scale.now
    (product_of c.product_down-least.result) (product_of c.product_up-greatest.result)
    c.first_share.result c.first_share-2.result c.last_share.result c.last_share-2.result
ends_by c = record {
  positive = first_positive c.args.scale.now c.first_share.result c.args.part.now.lo _
      c.args.part.now.positive (rw c.lo-3.ensures.value at c.first_share.ensures.first);
  low_most = c.first_share-2.ensures.at_most;
  high_most = last_lower (1000000 * 2 ^ 22) c.last_share.result c.last_share-2.result
      c.args.part.now.lo c.args.part.now.hi c.args.whole.now.hi c.args.whole.now.lo
      c.args.part.now.ordered c.args.whole.now.ordered c.last_share.ensures.at_most
      (rw (c.lo-4.ensures.value, c.hi-4.ensures.value) at c.last_share.ensures.last)
      (rw (c.hi-5.ensures.value, c.lo-5.ensures.value) at c.last_share-2.ensures.last);
  highest = c.last_share-2.ensures.at_most;
  least_below = rw (c.lo.ensures.value, c.lo-2.ensures.value) at c.product_down-least.ensures.below;
  least_near = rw (c.lo.ensures.value, c.lo-2.ensures.value) at c.product_down-least.ensures.near;
  greatest_above = rw (c.hi.ensures.value, c.hi-2.ensures.value) at
      c.product_up-greatest.ensures.above;
  greatest_near = rw (c.hi.ensures.value, c.hi-2.ensures.value) at
      c.product_up-greatest.ensures.near;
  outer_first = rw c.lo-3.ensures.value at c.first_share.ensures.first;
  inner_first = rw c.hi-3.ensures.value at c.first_share-2.ensures.first;
  inner_last = rw (c.lo-4.ensures.value, c.hi-4.ensures.value) at c.last_share.ensures.last;
  outer_last = rw (c.hi-5.ensures.value, c.lo-5.ensures.value) at c.last_share-2.ensures.last;
}

pub returns : goal.returns
returns c = λ side g part whole gain beside. record {
  outer = outer _ _ _ _ _ _ _ _ _ _ (ends_by c) side g part whole gain beside;
  inner = inner _ _ _ _ _ _ _ _ _ _ (ends_by c) side g part whole gain beside;
  low = low_near _ _ _ _ _ _ _ _ _ _ (ends_by c) side g part whole gain beside;
  high = high_near _ _ _ _ _ _ _ _ _ _ (ends_by c) side g part whole gain beside;
}
