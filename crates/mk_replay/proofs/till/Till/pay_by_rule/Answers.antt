use Rattle.std.proofs.Common.{◌≡◌, length, sym, ap, ◌∙◌, arith}
use Rattle.std.proofs.lemmas.List.{length-map}
use Rattle.std.proofs.lemmas.List.FromFn.{length-range_with_len}
use Rattle.mk_states.specs.States.{numbers_below}
use Rattle.mk_exact.specs.History.{users}
use Rattle.mk_exact.specs.ByRule.{payment_by_rule}
use Rattle.mk_history.specs.Entries.{ends}
use Rattle.mk_replay.specs.Tills.{TillOf}
use Rattle.mk_replay.proofs.till.Till.pay_by_rule.Goals as goal

pub invariant_of-self : goal.invariant_of-self
invariant_of-self c =
    let H = c.args.history.now.history in
    let kept = c.self.invariant in
    let dues = c.pay_by_rule.ensures.due_capacity ∙ c.clear.ensures.capacity in
    let paid = c.pay_by_rule.ensures.payment_capacity ∙ c.clear-2.ensures.capacity in
    let pays = c.pay_by_rule.new.payments.items in
    let many : length pays ≡ length (users H) =
    sym (length-map pays ends) ∙ ap length c.pay_by_rule.ensures.payments
    ∙ length-map (numbers_below (length (users H))) (payment_by_rule H c.args.points_per_bit c.args.state.now)
    ∙ length-range_with_len 0 (length (users H)) in
    (omega (arith, kept.0, dues), omega (arith, kept.1, paid), omega (arith, many, c.requires.joined, c.requires.room, ap (λ (t : TillOf). t.room) c.self.view_is))
