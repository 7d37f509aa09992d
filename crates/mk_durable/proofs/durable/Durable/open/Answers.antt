use Rattle.std.proofs.Common.{ℕ, [], ◌∷◌, length, ap, subst, ◌∙◌, arith, length-append}
use Rattle.std.proofs.lemmas.Result.{err_from_is_err_and}
use Rattle.mk_exact.specs.Market.{Market}
use Rattle.mk_journal.specs.Store.{header}
use Rattle.mk_journal.proofs.Spelling.{length-header}
use Rattle.mk_market.specs.Trading.{Trading, IsAt}
use Rattle.mk_durable.specs.Resuming.{IsRefused, IsResumed}
use Rattle.mk_durable.proofs.durable.Durable.open.Goals as goal

pub resume-requires-clause-size : goal.resume-requires-clause-size
resume-requires-clause-size g c =
    omega (
      arith,
      ap length (c.deref.ensures.value ∙ c.in_ok-header.ensures),
      length-header c.args.bytes.now,
      length-append (header c.args.bytes.now) (0 ∷ []),
      c.requires.size,
    )

pub returns-in_err-resumed-clause-fault : goal.returns-in_err-resumed-clause-fault
returns-in_err-resumed-clause-fault g c =
    let p = err_from_is_err_and c.from_residual-in_err-resumed.result
    c.from_residual-in_err-resumed.ensures.1 in
    rw (p.1, p.2) c.in_err-resumed.ensures.fault

pub returns-in_err-resumed-clause-refused : goal.returns-in_err-resumed-clause-refused
returns-in_err-resumed-clause-refused g c n f named told =
    let p = err_from_is_err_and c.from_residual-in_err-resumed.result
    c.from_residual-in_err-resumed.ensures.1 in
    rw (p.1, p.2) (subst (λ (m : Market). IsRefused m c.args.bytes.now f
    c.in_err-resumed.field-0.0) (ap (λ (t : Trading _). t.market) c.in_ok-market.ensures.opened)
    (c.in_err-resumed.ensures.refused n c.args.bytes.now f named
    (c.deref.ensures.value ∙ c.in_ok-header.ensures) told))

pub returns-in_err-resumed-clause-unwritten : goal.returns-in_err-resumed-clause-unwritten
returns-in_err-resumed-clause-unwritten g c n =
    let p = err_from_is_err_and c.from_residual-in_err-resumed.result
    c.from_residual-in_err-resumed.ensures.1 in
    rw (p.1, p.2) (c.in_err-resumed.ensures.unwritten n)

pub returns-in_err-resumed-clause-any_moment : goal.returns-in_err-resumed-clause-any_moment
returns-in_err-resumed-clause-any_moment g c n f named told =
    c.resume.ensures.any_moment n c.args.bytes.now f named
    (c.deref.ensures.value ∙ c.in_ok-header.ensures) told

pub returns-clause-resumed : goal.returns-clause-resumed
returns-clause-resumed g c n f named told =
    subst (λ (m : Market). IsResumed m c.args.bytes.now f c.resume.new.market.standing.history
    (g.K.Disk.file c.resume.new.disk n) (g.K.Disk.may_leave c.resume.new.disk n)
    c.in_ok-resumed.resumed.store (length c.resume.new.market.standing.history))
    (ap (λ (t : Trading _). t.market) c.in_ok-market.ensures.opened)
    (subst (λ (count : ℕ). IsResumed c.in_ok-market.market.market c.args.bytes.now f
    c.resume.new.market.standing.history
    (g.K.Disk.file c.resume.new.disk n) (g.K.Disk.may_leave c.resume.new.disk n)
    c.in_ok-resumed.resumed.store count) c.in_ok-resumed.ensures.count
    (c.in_ok-resumed.ensures.resumed n c.args.bytes.now f named
    (c.deref.ensures.value ∙ c.in_ok-header.ensures) told))

pub returns-clause-any_moment : goal.returns-clause-any_moment
returns-clause-any_moment g c n f named told =
    c.resume.ensures.any_moment n c.args.bytes.now f named
    (c.deref.ensures.value ∙ c.in_ok-header.ensures) told

pub returns-clause-market : goal.returns-clause-market
returns-clause-market g c =
    subst (λ (m : Market). IsAt m c.resume.new.market)
    (ap (λ (t : Trading _). t.market) c.in_ok-market.ensures.opened) c.resume.ensures.market
