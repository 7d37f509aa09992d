use Rattle.std.proofs.Common.{Ok, inl, refl, sym, ap, subst}
use Rattle.mk_exact.specs.Market.{Market}
use Rattle.mk_market.specs.Trading.{Trading}
use Rattle.mk_journal.specs.Moments.{LeavesOnly}
use Rattle.mk_journal.specs.inner.MomentLaws.{started}
use Rattle.mk_durable.specs.Recovery.{IsHonest}
use Rattle.mk_durable.specs.KeepOutcome.{OpenedKeep, KeepsChanges, GivesSound}
use Rattle.mk_durable.specs.inner.Preparing.{AreHonestTo}
use Rattle.mk_durable.proofs.served.keep_file.Goals as goal

pub returns-in-Err-clause-kept : goal.returns-in-Err-clause-kept
returns-in-Err-clause-kept g c = λ n bytes stored all named place told_all told_file honest.
    inl (refl, started (λ d left. inl (g.met.K.Disk.only_now c.args.disk.now n d left)))

pub returns-in-Ok-clause-outcome : goal.returns-in-Ok-clause-outcome
returns-in-Ok-clause-outcome g c = λ n bytes stored all named place told_all told_file sound.
    let same = ap (λ (t : Trading _). t.market) c.in-Ok.ensures.opened in
    subst (λ (m : Market). OpenedKeep c.keep_market-status.result (Ok m) bytes stored all
    (g.I.Inputs.commands c.keep_market-status.new.inputs) (g.S.Sink.written c.args.out.now)
    (g.S.Sink.written c.keep_market-status.new.out)) same
    (c.keep_market-status.ensures.outcome n bytes stored all named place told_all told_file
    (subst (λ (m : Market). GivesSound m bytes stored) (sym same) sound))

pub returns-in-Ok-clause-kept : goal.returns-in-Ok-clause-kept
returns-in-Ok-clause-kept g c = λ n bytes stored all named place told_all told_file honest.
    let same = ap (λ (t : Trading _). t.market) c.in-Ok.ensures.opened in
    subst (λ (m : Market). KeepsChanges (Ok m) bytes stored all (g.S.Sink.written c.args.out.now)
    (g.S.Sink.written c.keep_market-status.new.out) (g.K.Disk.may_leave c.args.disk.now n)
    (g.K.Disk.may_leave c.keep_market-status.new.disk n)
    (LeavesOnly (g.K.Disk.moment c.args.disk.now)
    (g.K.Disk.moment c.keep_market-status.new.disk) (g.K.Disk.left_since c.args.disk.now n)
    (g.K.Disk.left_since c.keep_market-status.new.disk n))) same
    (c.keep_market-status.ensures.kept n bytes stored all named place told_all told_file
    (subst (λ (m : Market). AreHonestTo m bytes (g.K.Disk.may_leave c.args.disk.now n)) (sym same)
    honest))

pub returns-in-Ok-clause-complete : goal.returns-in-Ok-clause-complete
returns-in-Ok-clause-complete g c = λ n bytes stored all named place told_all told_file honest
    within disk_steady inputs_steady sink_steady.
    let same = ap (λ (t : Trading _). t.market) c.in-Ok.ensures.opened in
    c.keep_market-status.ensures.complete n bytes stored all named place told_all told_file
    (subst (λ (m : Market). IsHonest m bytes stored) (sym same) honest) within disk_steady
    inputs_steady sink_steady
