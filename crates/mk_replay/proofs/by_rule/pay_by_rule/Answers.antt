use Rattle.std.proofs.Common.{◌≡◌, List, length, take, sym, ap, ◌∙◌, subst, arith}
use Rattle.mk_exact.specs.History.{users}
use Rattle.mk_cash.specs.Dues.{DueOf}
use Rattle.mk_history.specs.Entries.{change_of}
use Rattle.mk_replay.specs.inner.Dues.{dues_after, CanTakeDue}
use Rattle.mk_replay.proofs.ListedDues.{dues_count}
use Rattle.mk_replay.proofs.PaidDues.{can_take, taken, paid_off, in_outcome}
use Rattle.mk_replay.proofs.by_rule.pay_by_rule.Goals as goal

pub take_entry-requires : goal.take_entry-requires
take_entry-requires c =
    let H = c.args.history.now.history in let state = c.args.state.now in
    let e = change_of c.entry-entry.result in
    subst (λ (ds : List DueOf). CanTakeDue state e ds) (sym c.loop-number.invariant.dues)
    (can_take H e c.loop-number.number c.entry-entry.ensures.next state c.requires.history)

pub loop-number-preserved : goal.loop-number-preserved
loop-number-preserved c =
    let H = c.args.history.now.history in let state = c.args.state.now in
    let e = change_of c.entry-entry.result in record {
      room = c.take_entry.ensures.capacity ∙ c.loop-number.invariant.room;
      dues = c.take_entry.ensures.dues
          ∙ ap (dues_after state e) c.loop-number.invariant.dues
          ∙ taken H e c.loop-number.number c.entry-entry.ensures.next state c.requires.history;
    }

pub pay_dues-requires-clause-room : goal.pay_dues-requires-clause-room
pay_dues-requires-clause-room c =
    let H = c.args.history.now.history in
    let count : length c.as_slice.result.now ≡ length (users H) =
    ap length (c.as_slice.ensures.value ∙ c.loop-number.invariant.dues)
    ∙ dues_count (length (users H)) c.args.state.now (take c.loop-number.number H) in
    omega arith

pub returns-clause-payments : goal.returns-clause-payments
returns-clause-payments c =
    let H = c.args.history.now.history in
    paid_off c.args.points_per_bit c.args.state.now H c.loop-number.number _ _ _ _
    c.length-number-end.ensures c.loop-number-test.false c.loop-number.invariant.dues
    c.as_slice.ensures.value c.pay_dues.ensures.payments

pub returns-clause-by_rule : goal.returns-clause-by_rule
returns-clause-by_rule c = λ network one.
    let H = c.args.history.now.history in
    paid_off c.args.points_per_bit c.args.state.now H c.loop-number.number _ _ _ _
    c.length-number-end.ensures c.loop-number-test.false c.loop-number.invariant.dues
    c.as_slice.ensures.value c.pay_dues.ensures.payments
    ∙ in_outcome network H c.args.points_per_bit c.args.state.now one
