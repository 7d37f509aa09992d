use Rattle.std.proofs.Common.{ℕ, ◌+◌, length, refl, sym, ap, ◌∙◌}
use Rattle.mk_exact.specs.History.{users, revision}
use Rattle.mk_exact.specs.ByRule.{paid_in_all}
use Rattle.mk_command.specs.declared.command.Command.TheVariants.{Settle}
use Rattle.mk_reply.specs.declared.reply.Reply.TheVariants.{SettledAll}
use Rattle.mk_rules.specs.Answers.{settled_by_rule}
use Rattle.mk_file.specs.MarketOf.{market_of}
use Rattle.mk_replay.specs.Tills.{TillOf}
use Rattle.mk_market.proofs.ByRule.{same_payments, rule_sum_fits, rule_enters}
use Rattle.mk_market.proofs.Settlement.{settlement_kept, settlement_next, summed_agrees}
use Rattle.mk_market.proofs.TakenBack.{taken_back}
use Rattle.mk_market.proofs.market.Market.restore_by_rule.Goals as goal

pub total-requires : goal.total-requires
total-requires g c =
    rule_sum_fits c.self.inside.file c.self.invariant.safe (same_payments c.pay_all_by_rule.ensures)

pub enter-requires : goal.enter-requires
enter-requires g c =
    rule_enters c.self.inside.file c.self.invariant.safe (same_payments c.pay_all_by_rule.ensures)
    c.self.invariant.accounts_kept (rw (← c.self.view_is) at c.requires.can)

pub invariant_of-self-2 : goal.invariant_of-self-2
invariant_of-self-2 g c =
    settlement_kept c.self.invariant (rw (← c.self.view_is) at c.requires.can)
    (rw (← c.self.view_is) at c.requires.unrefused)
    (same_payments c.pay_all_by_rule.ensures) c.enter.ensures _ refl
    (summed_agrees (market_of c.self.inside.file) c.self.inside.journal.history _
    (rw (← c.self.view_is) at c.requires.many) refl) tt _ _

pub returns-then-not-tells_total : goal.returns-then-not-tells_total
returns-then-not-tells_total g c =
    let H = c.self.inside.journal.history in
    let many = rw (← c.self.view_is) at c.requires.many in
    let total = c.total.ensures ∙ ap (λ (t : TillOf). paid_in_all t.payments) c.pay_all_by_rule.ensures in
    rw (← c.self.view_is) (record {
      same = refl;
      unfit = λ fit.
          let told = fit.agrees.summed many in
          let yes = c.tells_total.ensures.1 (told ∙ ap (λ (n : ℕ). SettledAll (revision H + 1) (length (users H)) n) (sym total)) in
          let no = c.if-not-tells_total.true in
          absurd (cc);
    })

pub returns : goal.returns
returns g c =
    let H = c.self.inside.journal.history in
    let market = market_of c.self.inside.file in
    let can = rw (← c.self.view_is) at c.requires.can in
    let none = rw (← c.self.view_is) at c.requires.unrefused in
    let many = rw (← c.self.view_is) at c.requires.many in
    let in_till = same_payments c.pay_all_by_rule.ensures in
    let total = c.total.ensures ∙ ap paid_in_all in_till in
    let told = c.tells_total.ensures.0 c.if-not-tells_total.false
    ∙ ap (λ (n : ℕ). SettledAll (revision H + 1) (length (users H)) n) total in
    rw (← c.self.view_is) (taken_back _ _ Settle c.args.reply.now (settled_by_rule market H) told refl none
    (summed_agrees market H (settled_by_rule market H) many refl)
    (settlement_next c.self.invariant can none in_till c.enter.ensures (settled_by_rule market H) refl) tt)
