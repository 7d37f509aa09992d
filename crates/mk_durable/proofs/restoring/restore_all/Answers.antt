use Rattle.std.proofs.Common.{ℕ, ◌+◌, List, [], ◌∷◌, ◌++◌, take, Err, sym, ap, subst, ◌∙◌}
use Rattle.mk_exact.specs.Market.{Market}
use Rattle.mk_journal.specs.Opening.{contents}
use Rattle.mk_durable.specs.Recovery.{AreTakenBack, IsTakenBack, IsUnfit}
use Rattle.mk_durable.specs.Resuming.{IsRecordFault, fault_at}
use Rattle.mk_durable.proofs.Taking.{quotes_more, taken_more}
use Rattle.mk_durable.proofs.Steps.{contents_more, first_unfit, fault_is}
use Rattle.mk_durable.proofs.restoring.restore_all.Goals as goal

pub returns-in-Err-clause-fault : goal.returns-in-Err-clause-fault
returns-in-Err-clause-fault g c = λ market opened.
    let inv = c.loop-i.invariant in
    let old = c.args.market.now.standing.history in
    let now = c.loop-i.market.standing.history in
    subst (IsRecordFault market old (contents c.args.records.now))
    (sym {b = fault_at c.in-Err.fault (c.loop-i.i + 1)} c.fault_of.ensures)
    (fault_is market old (contents c.args.records.now) c.in-Err.fault (c.loop-i.i + 1)
    (λ unfit. first_unfit market old now c.args.records.now c.loop-i.i c.index-records-i.result
    c.deref.result.now c.loop-i-test.true c.index-records-i.is c.deref.ensures.value
    (inv.taken market opened)
    (subst (λ (m : Market). IsUnfit m now c.deref.result.now) (inv.here market opened)
    (c.take_back.ensures.unfit (c.in-Err.is ∙ ap Err unfit)))))

pub loop-i-preserved : goal.loop-i-preserved
loop-i-preserved g c =
    let inv = c.loop-i.invariant in
    let old = c.args.market.now.standing.history in
    let new = c.take_back.new.market.standing in
    record {
      here = λ start opened. c.take_back.ensures.market start (inv.here start opened);
      quotes = quotes_more c.loop-i.market.market c.deref.result.now c.loop-i.market.standing new
          inv.quotes c.in_default.ensures.taken;
      taken = λ start opened.
          subst (λ (rs : List (List ℕ)). AreTakenBack start old rs new.history)
          (ap (λ (b : List ℕ). contents (take c.loop-i.i c.args.records.now) ++ b ∷ [])
          c.deref.ensures.value
          ∙ sym (contents_more c.args.records.now c.loop-i.i c.index-records-i.result
          c.loop-i-test.true c.index-records-i.is))
          (taken_more start old (contents (take c.loop-i.i c.args.records.now))
          c.deref.result.now c.loop-i.market.standing new (inv.taken start opened)
          (subst (λ (m : Market). IsTakenBack m c.loop-i.market.standing c.deref.result.now new)
          (inv.here start opened) c.in_default.ensures.taken));
    }
