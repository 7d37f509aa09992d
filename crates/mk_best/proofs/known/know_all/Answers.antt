use Rattle.std.proofs.Common.{refl, subst}
use Rattle.mk_beliefs.specs.Meanings.{weights_of}
use Rattle.mk_best.proofs.Learned.{weights_learned}
use Rattle.mk_best.proofs.known.know_all.Goals as goal

pub know_all-requires : goal.know_all-requires
know_all-requires g c =
    let a = c.requires in
    record {
      meaning = weights_of a.network c.args.tree.now a.history;
      stands = a.stands;
      of_tree = refl;
      tree_of_it = a.tree_of_it;
      in_range = a.in_range;
    }

pub returns : goal.returns
returns g c = λ network H h.
    subst (g.E.Engine.stands_for c.know_all.new.engine)
    (weights_learned H c.args.pairs.now network c.args.tree.now)
    (c.know_all.ensures (weights_of network c.args.tree.now H) h)
