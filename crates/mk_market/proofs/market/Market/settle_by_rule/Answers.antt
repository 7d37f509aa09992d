use Rattle.std.proofs.Common.{◌≡◌, ◌+◌, length, refl, ap, ◌∙◌}
use Rattle.mk_exact.specs.History.{Settle as Settles, users, revision}
use Rattle.mk_exact.specs.ByRule.{payments_by_rule, paid_in_all}
use Rattle.mk_command.specs.declared.command.Command.TheVariants.{Settle}
use Rattle.mk_reply.specs.declared.reply.Reply.TheVariants.{SettledAll}
use Rattle.mk_rules.specs.Answers.{settled_by_rule}
use Rattle.mk_file.specs.MarketOf.{market_of}
use Rattle.mk_market.specs.inner.Keeping.{standing_of}
use Rattle.mk_market.proofs.Apart.{each_owns_then}
use Rattle.mk_market.proofs.ByRule.{same_payments, rule_sum_fits, rule_enters, as_many_joined}
use Rattle.mk_market.proofs.Replies.{answer_allowed}
use Rattle.mk_market.proofs.Settlement.{settled_at, settlement_kept, settlement_next}
use Rattle.mk_market.proofs.Settlement.{summed_agrees, summed_settles}
use Rattle.mk_market.proofs.market.Market.settle_by_rule.Goals as goal

pub total-total-requires : goal.total-total-requires
total-total-requires g c =
    rule_sum_fits c.self.inside.file c.self.invariant.safe (same_payments c.pay_all_by_rule.ensures)

pub enter-requires : goal.enter-requires
enter-requires g c =
    rule_enters c.self.inside.file c.self.invariant.safe (same_payments c.pay_all_by_rule.ensures)
    c.self.invariant.accounts_kept (rw (← c.self.view_is) at c.requires.can)

pub invariant_of-self : goal.invariant_of-self
invariant_of-self g c =
    settlement_kept c.self.invariant (rw (← c.self.view_is) at c.requires.can)
    (rw (← c.self.view_is) at c.requires.unrefused)
    (same_payments c.pay_all_by_rule.ensures) c.enter.ensures _ refl
    (summed_agrees (market_of c.self.inside.file) c.self.inside.journal.history _
    (rw (← c.self.view_is) at c.requires.many) refl) tt _ _

pub returns : goal.returns
returns g c =
    let i = c.self.inside in
    let H = i.journal.history in
    let market = market_of i.file in
    let can = rw (← c.self.view_is) at c.requires.can in
    let none = rw (← c.self.view_is) at c.requires.unrefused in
    let many = rw (← c.self.view_is) at c.requires.many in
    let in_till = same_payments c.pay_all_by_rule.ensures in
    let reply = SettledAll c.revision.result c.joined.result c.total-total.result in
    let at : c.revision.result ≡ revision H + 1 =
    settled_at i.journal c.enter.new.journal _ c.revision.result c.enter.ensures.history c.revision.ensures in
    let joined : c.joined.result ≡ length (users H) =
    c.joined.ensures.count ∙ as_many_joined H _ _ c.enter.ensures.history in
    let total : c.total-total.result ≡ paid_in_all (payments_by_rule i.file.net H i.file.points_per_bit) =
    c.total-total.ensures ∙ ap paid_in_all in_till in
    let told : reply ≡ settled_by_rule market H = rw (at, joined, total) refl in
    rw (← c.self.view_is) (record {
      market = refl;
      allowed = λ sound. answer_allowed market (standing_of i.journal i.users) Settle reply none
          (summed_settles market H reply many told);
      next = settlement_next c.self.invariant can none in_till c.enter.ensures reply refl;
      paid = tt;
      one_each = each_owns_then i.users H c.enter.new.journal.history (Settles _)
          c.self.invariant.named c.enter.ensures.history refl;
      others = λ u name at differs. refl;
    })
