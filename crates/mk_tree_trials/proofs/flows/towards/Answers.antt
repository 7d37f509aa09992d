use Rattle.mk_tree_trials.proofs.Ready.{some_after}
use Rattle.mk_tree_trials.proofs.flows.towards.Goals as goal

pub returns : goal.returns
returns g c = λ network count some.
    record {
      some = some_after some (c.collect.ensures.kept.placed some.placing some.has);
      towards = c.collect.ensures.right some.placing some.has;
    }
