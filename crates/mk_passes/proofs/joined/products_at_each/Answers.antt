use Rattle.std.proofs.Common.{length, arith}
use Rattle.mk_passes.specs.inner.Made.{CanMultiply, MakesProducts}
use Rattle.mk_passes.proofs.Making.{made_each, put_first}
use Rattle.mk_passes.proofs.joined.products_at_each.Goals as goal

pub products_by_count-requires : goal.products_by_count-requires
products_by_count-requires g c =
    let left = c.args.left in let right = c.args.right in let lists = c.args.lists in
    record {
      can = put_first (CanMultiply left.digits.now left.exponents.now c.args.onto.now right.digits.now right.exponents.now lists.bases.now lists.offsets.now) (length lists.bases.now) c.args.digits.now c.args.exponents.now
          (omega (arith, c.requires.digits)) (omega (arith, c.requires.exponents))
          (λ b l. record { known = l; few = c.requires.few; within = c.requires.within b l; reached = c.requires.onto; whole = c.requires.whole; room = c.requires.room; other_room = c.requires.other_room });
    }

pub returns-clause-made : goal.returns-clause-made
returns-clause-made g c =
    let left = c.args.left in let right = c.args.right in let lists = c.args.lists in
    made_each (MakesProducts g.R.Semiring.plus_of left.digits.now left.exponents.now c.args.onto.now right.digits.now right.exponents.now lists.bases.now lists.offsets.now)
    (length lists.bases.now) _ _ _ _ c.products_by_count.ensures
