use Rattle.mk_journal.specs.inner.MomentLaws.{started}
use Rattle.mk_journal.proofs.Lasting.{goes_on}
use Rattle.mk_journal.proofs.open.load_rest.Goals as goal

pub returns-in_err-bytes-clause-any_moment : goal.returns-in_err-bytes-clause-any_moment
returns-in_err-bytes-clause-any_moment g c n = started (g.met.K.Disk.only_now c.args.disk.now n)

pub returns-in_err-count-clause-any_moment : goal.returns-in_err-count-clause-any_moment
returns-in_err-count-clause-any_moment g c n =
    goes_on (started (g.met.K.Disk.only_now c.args.disk.now n)) (c.read_at.ensures.time n) (c.read_at.ensures.images n)

pub returns-clause-any_moment : goal.returns-clause-any_moment
returns-clause-any_moment g c n =
    goes_on (started (g.met.K.Disk.only_now c.args.disk.now n)) (c.read_at.ensures.time n) (c.read_at.ensures.images n)
