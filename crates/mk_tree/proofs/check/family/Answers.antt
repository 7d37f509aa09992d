use Rattle.std.proofs.Common.{arith}
use Rattle.mk_net.specs.Named.{variable_at}
use Rattle.mk_tree.proofs.Families.{family_begins, family_grows, family_ends}
use Rattle.mk_tree.proofs.check.family.Goals as goal

pub loop-parent-init : goal.loop-parent-init
loop-parent-init c = family_begins c.empty.result c.with-family.result c.args.variable c.parents-parent-items.result.now c.empty.ensures.members c.with-family.ensures.members

pub loop-parent-preserved : goal.loop-parent-preserved
loop-parent-preserved c =
    family_grows c.loop-parent.family c.with-family-in-loop-parent.result c.args.variable c.parents-parent-items.result.now c.loop-parent.parent-index _
    c.loop-parent-test.true c.with-family-in-loop-parent.ensures.members c.loop-parent.invariant

pub returns : goal.returns
returns c = family_ends c.loop-parent.family c.args.variable c.parents-parent-items.result.now (variable_at c.args.net.now c.args.variable).parents c.loop-parent.parent-index
    (omega arith) c.parents-parent-items.ensures c.loop-parent.invariant
