use Rattle.mk_journal.specs.inner.MomentLaws.{started}
use Rattle.mk_journal.proofs.Lasting.{goes_on}
use Rattle.mk_journal.proofs.open.load_front.Goals as goal

pub returns-in_err-sync-clause-any_moment : goal.returns-in_err-sync-clause-any_moment
returns-in_err-sync-clause-any_moment g c n =
    goes_on (started (g.met.K.Disk.only_now c.args.disk.now n)) (c.sync.ensures.time n) (c.sync.ensures.images n)

pub returns-in_err-len-clause-any_moment : goal.returns-in_err-len-clause-any_moment
returns-in_err-len-clause-any_moment g c n =
    let first = goes_on (started (g.met.K.Disk.only_now c.args.disk.now n)) (c.sync.ensures.time n) (c.sync.ensures.images n) in
    goes_on first (c.length.ensures.time n) (λ b left. c.sync.ensures.images n b (c.length.ensures.images n b left))

pub returns-in_err-bytes-clause-any_moment : goal.returns-in_err-bytes-clause-any_moment
returns-in_err-bytes-clause-any_moment g c n =
    let first = goes_on (started (g.met.K.Disk.only_now c.args.disk.now n)) (c.sync.ensures.time n) (c.sync.ensures.images n) in
    goes_on first (c.length.ensures.time n) (λ b left. c.sync.ensures.images n b (c.length.ensures.images n b left))

pub returns-in_err-count-clause-any_moment : goal.returns-in_err-count-clause-any_moment
returns-in_err-count-clause-any_moment g c n =
    let first = goes_on (started (g.met.K.Disk.only_now c.args.disk.now n)) (c.sync.ensures.time n) (c.sync.ensures.images n) in
    let second = goes_on first (c.length.ensures.time n) (λ b left. c.sync.ensures.images n b (c.length.ensures.images n b left)) in
    goes_on second (c.read_at.ensures.time n) (λ b left. c.sync.ensures.images n b (c.length.ensures.images n b (c.read_at.ensures.images n b left)))

pub returns-clause-any_moment : goal.returns-clause-any_moment
returns-clause-any_moment g c n =
    let first = goes_on (started (g.met.K.Disk.only_now c.args.disk.now n)) (c.sync.ensures.time n) (c.sync.ensures.images n) in
    let second = goes_on first (c.length.ensures.time n) (λ b left. c.sync.ensures.images n b (c.length.ensures.images n b left)) in
    goes_on second (c.read_at.ensures.time n) (λ b left. c.sync.ensures.images n b (c.length.ensures.images n b (c.read_at.ensures.images n b left)))
