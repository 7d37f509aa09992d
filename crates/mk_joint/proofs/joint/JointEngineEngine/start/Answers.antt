use Rattle.mk_joint.proofs.Tables.{begins}
use Rattle.mk_joint.proofs.joint.JointEngineEngine.start.Goals as goal

pub returns : goal.returns
returns g c = λ network tree p.
    let made = c.in_ok-tables.ensures in
    begins c.in_ok-tables.tables c.args.plan.now.value network tree p made.one_each made.ones
