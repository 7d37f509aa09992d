use Rattle.std.proofs.Common.{◌<◌, length, sym, ap, ◌∙◌, arith}
use Rattle.mk_tree.specs.Tests.{holds_family}
use Rattle.mk_tree_engine.proofs.Families.{family_first, family_somewhere}
use Rattle.mk_tree_engine.proofs.homes.family_home.Goals as goal

pub returns-then-holds_family-clause-home : goal.returns-then-holds_family-clause-home
returns-then-holds_family-clause-home c =
    let l : c.loop-passed.passed < length c.args.tree.now.cliques = omega (arith, c.loop-passed-test.true, c.cliques-passed-end.ensures.count) in
    sym (family_first c.args.tree.now c.args.net.now c.args.variable c.loop-passed.passed l c.loop-passed.invariant
    (ap (holds_family c.args.net.now c.args.variable) (sym c.clique.ensures) ∙ sym c.holds_family.ensures ∙ c.if-holds_family.true))

pub unreachable-requires : goal.unreachable-requires
unreachable-requires c =
    family_somewhere c.args.tree.now c.args.net.now c.args.variable c.loop-passed.passed (omega (arith, c.loop-passed-test.false, c.cliques-passed-end.ensures.count))
    (c.requires.tree.covers c.args.variable c.requires.variable) c.loop-passed.invariant
