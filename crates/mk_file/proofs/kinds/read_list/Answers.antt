use Rattle.std.proofs.Common.{option_map, ap, sym, ◌∙◌}
use Rattle.mk_file.proofs.Reading.{reads_more_of, reads_no_more, reads_all}
use Rattle.mk_file.proofs.kinds.read_list.Goals as goal

pub items-preserved : goal.items-preserved
items-preserved g c =
    reads_more_of g.T.Kind.seen _ _ c.items.read.items c.push.new.self.items c.deref-item-items.result.now c.items.item-index c.item-item.result c.in-Some-2.thing c.items.invariant c.items-test.true c.item-item.is
    (ap (option_map g.T.Kind.seen) (sym c.in-Some-2.is) ∙ c.in_ok-thing.ensures) c.in_ok-push-in-Some-2.ensures.items

pub returns : goal.returns
returns g c = reads_all _ _ _ _ c.items.item-index c.items.invariant c.items-test.false

pub returns-in-None : goal.returns-in-None
returns-in-None g c = reads_no_more _ _ _ _ c.items.item-index c.item-item.result c.items.invariant c.items-test.true c.item-item.is (ap (option_map g.T.Kind.seen) (sym c.in-None.is) ∙ c.in_ok-thing.ensures)
