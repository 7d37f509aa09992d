use Rattle.std.proofs.Common.{[], refl, subst}
use Rattle.mk_beliefs.specs.Meanings.{rows_of}
use Rattle.mk_replay.proofs.Weighed.{rows_known}
use Rattle.mk_replay.proofs.rows.rows_after.Goals as goal

pub weighed-requires : goal.weighed-requires
weighed-requires g c = (c.args.tree.now, c.requires.plan)

pub know_all-requires : goal.know_all-requires
know_all-requires g c =
    let a = c.requires in let net = c.args.net.now in let tree = c.args.tree.now in
    record {
      meaning = rows_of net tree [];
      stands = c.in_ok-engine.ensures.stands tree a.plan;
      of_tree = refl;
      tree_of_it = a.tree;
      in_range = a.known;
    }

pub returns : goal.returns
returns g c = λ H same.
    let net = c.args.net.now in let tree = c.args.tree.now in
    subst (g.E.Engine.stands_for c.know_all.new.engine)
    (rows_known net tree H c.args.known.now same)
    (c.know_all.ensures (rows_of net tree [])
    (c.in_ok-engine.ensures.stands tree c.requires.plan))
