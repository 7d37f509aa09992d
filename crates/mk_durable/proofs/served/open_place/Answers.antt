use Rattle.mk_durable.proofs.Carrying.{opens_as_before}
use Rattle.mk_durable.proofs.served.open_place.Goals as goal

pub returns-in-Ok-open-clause-any_moment : goal.returns-in-Ok-open-clause-any_moment
returns-in-Ok-open-clause-any_moment g c = λ n.
    opens_as_before (c.open.ensures.time n) (g.met.K.Disk.only_now c.args.disk.now n)
    (c.open.ensures.images n)

pub returns-in-Err-open-clause-any_moment : goal.returns-in-Err-open-clause-any_moment
returns-in-Err-open-clause-any_moment g c = λ n.
    opens_as_before (c.open.ensures.time n) (g.met.K.Disk.only_now c.args.disk.now n)
    (c.open.ensures.images n)
