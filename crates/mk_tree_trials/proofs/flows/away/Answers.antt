use Rattle.mk_tree_trials.proofs.Ready.{some_after}
use Rattle.mk_tree_trials.proofs.flows.away.Goals as goal

pub returns : goal.returns
returns g c = λ network count collected.
    let some = collected.some in
    record {
      some = some_after some (c.distribute.ensures.kept.placed some.placing some.has);
      right = λ i h. c.distribute.ensures.right some.placing some.has collected.towards i c.args.clique h;
    }
