use Rattle.std.proofs.Common.{List, take, refl, subst, arith}
use Rattle.std.proofs.lemmas.List.{take_all}
use Rattle.mk_exact.specs.History as history
use Rattle.mk_beliefs.specs.Meanings.{weights_of}
use Rattle.mk_history.specs.Entries.{change_of}
use Rattle.mk_replay.proofs.Weighed.{rows_are_weights}
use Rattle.mk_replay.proofs.Replayed.{take_one, can_take_one}
use Rattle.mk_replay.proofs.engines.engine_after.Goals as goal

pub weighed-requires : goal.weighed-requires
weighed-requires g c = (c.args.tree.now, c.requires.plan)

pub loop-number-init : goal.loop-number-init
loop-number-init g c =
    let net = c.args.net.now in let tree = c.args.tree.now in
    subst (g.E.Engine.stands_for c.in_ok-engine.engine) (rows_are_weights net tree)
    (c.in_ok-engine.ensures.stands tree c.requires.plan)

pub take-requires : goal.take-requires
take-requires g c =
    let a = c.requires in let net = c.args.net.now in let tree = c.args.tree.now in
    let H = c.args.history.now.history in let i = c.loop-number.number in
    record {
      meaning = weights_of net tree (take i H);
      stands = c.loop-number.invariant;
      of_tree = refl;
      takes = (can_take_one net tree c.in_ok-engine.ensures.network a.tree 0 H
          (change_of c.entry-entry.result) i c.entry-entry.ensures.next a.history).0;
    }

pub loop-number-preserved : goal.loop-number-preserved
loop-number-preserved g c =
    let net = c.args.net.now in let tree = c.args.tree.now in
    let H = c.args.history.now.history in let i = c.loop-number.number in
    take_one g.E.Engine.stands_for c.take.new.engine net tree H (change_of c.entry-entry.result) i
    c.entry-entry.ensures.next
    (c.take.ensures (weights_of net tree (take i H)) c.loop-number.invariant)

pub returns-clause-stands : goal.returns-clause-stands
returns-clause-stands g c =
    let net = c.args.net.now in let tree = c.args.tree.now in
    subst (λ (H : List history.Entry). g.E.Engine.stands_for c.loop-number.engine
    (weights_of net tree H))
    (take_all c.loop-number.number c.args.history.now.history
    (omega (arith, c.loop-number-test.false, c.length-number-end.ensures)))
    c.loop-number.invariant
