use Rattle.std.proofs.Common.{List, take, refl, subst, ◌∙◌, arith}
use Rattle.std.proofs.lemmas.List.{take_all}
use Rattle.mk_exact.specs.History as history
use Rattle.mk_answers.specs.Open.{holding_of}
use Rattle.mk_history.specs.Entries.{change_of}
use Rattle.mk_replay.specs.Each.{HoldAll}
use Rattle.mk_replay.proofs.Replayed.{can_take_one}
use Rattle.mk_replay.proofs.Owned.{has_room, held_one}
use Rattle.mk_replay.proofs.holdings.assets_of_each.Goals as goal

pub assets_of_none-requires : goal.assets_of_none-requires
assets_of_none-requires g c = record {
  legal = c.variables.ensures.network;
  tree = c.args.tree.now;
  planned = c.requires.plan;
}

pub loop-number-init : goal.loop-number-init
loop-number-init g c = record {
  count = c.in_ok-all.ensures.count;
  held = c.in_ok-all.ensures.held c.args.tree.now c.requires.plan;
}

pub take_by_each-requires : goal.take_by_each-requires
take_by_each-requires g c =
    let a = c.requires in let net = c.args.net.now in let tree = c.args.tree.now in
    let H = c.args.history.now.history in let i = c.loop-number.number in
    let e = change_of c.entry-entry.result in let next = c.entry-entry.ensures.next in
    record {
      holding = holding_of net tree (take i H);
      hold = c.loop-number.invariant.held;
      of_tree = λ u. refl;
      takes = λ u.
          (can_take_one net tree c.variables.ensures.network a.tree u H e i next a.history).1;
      room = λ u. has_room net tree u H e i next (a.few u).0 (a.few u).1;
    }

pub loop-number-preserved : goal.loop-number-preserved
loop-number-preserved g c =
    let a = c.requires in let net = c.args.net.now in let tree = c.args.tree.now in
    let H = c.args.history.now.history in let i = c.loop-number.number in
    let e = change_of c.entry-entry.result in let next = c.entry-entry.ensures.next in
    record {
      count = c.take_by_each.ensures.count ∙ c.loop-number.invariant.count;
      held = λ u assets at.
          held_one net tree u H e i next g.A.Engine.stands_for assets
          (c.take_by_each.ensures.held (holding_of net tree (take i H))
          c.loop-number.invariant.held
          (λ v. has_room net tree v H e i next (a.few v).0 (a.few v).1) u assets at);
    }

pub returns-clause-held : goal.returns-clause-held
returns-clause-held g c =
    let net = c.args.net.now in let tree = c.args.tree.now in
    subst (λ (H : List history.Entry). HoldAll g.A.Engine.stands_for (holding_of net tree H)
    c.loop-number.all.items)
    (take_all c.loop-number.number c.args.history.now.history
    (omega (arith, c.loop-number-test.false, c.length-number-end.ensures)))
    c.loop-number.invariant.held
