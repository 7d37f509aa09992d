use Rattle.std.proofs.Common.{length, sym, subst}
use Rattle.mk_disk.specs.Disk.{Torn}
use Rattle.mk_disk.specs.inner.MemoryLaws.{torn_same}
use Rattle.mk_journal.specs.inner.MomentLaws.{started}
use Rattle.mk_journal.proofs.Lasting.{goes_on, torn_from}
use Rattle.mk_journal.proofs.steps.write_synced.Goals as goal

pub returns-in_err-write_at-clause-any_moment : goal.returns-in_err-write_at-clause-any_moment
returns-in_err-write_at-clause-any_moment g c n f named kept =
    let at_first = started (λ b left. subst (λ x. Torn c.args.at (length c.args.bytes.now) f x) (sym (kept.only b (g.met.K.Disk.only_now c.args.disk.now n b left))) (torn_same c.args.at (length c.args.bytes.now) f)) in
    goes_on at_first (c.write_at.ensures.time n) (torn_from (g.K.Disk.may_leave c.args.disk.now) (g.K.Disk.may_leave c.write_at.new.self) n _ f c.args.at (length c.args.bytes.now) named kept.only c.write_at.ensures.torn)

pub returns-clause-any_moment : goal.returns-clause-any_moment
returns-clause-any_moment g c n f named kept =
    let at_first = started (λ b left. subst (λ x. Torn c.args.at (length c.args.bytes.now) f x) (sym (kept.only b (g.met.K.Disk.only_now c.args.disk.now n b left))) (torn_same c.args.at (length c.args.bytes.now) f)) in
    let torn = torn_from (g.K.Disk.may_leave c.args.disk.now) (g.K.Disk.may_leave c.write_at.new.self) n _ f c.args.at (length c.args.bytes.now) named kept.only c.write_at.ensures.torn in
    goes_on (goes_on at_first (c.write_at.ensures.time n) torn) (c.sync.ensures.time n) (λ b left. torn b (c.sync.ensures.images n b left))
