use Rattle.std.proofs.Common.{◌≡◌, ◌≤◌, ◌+◌, map, length, refl, sym}
use Rattle.std.proofs.Common.{◌∙◌, subst, arith}
use Rattle.std.specs.List.{AllByRecursion}
use Rattle.std.proofs.lemmas.List.Elements.{recursion_from_All}
use Rattle.mk_net.specs.Bounds.{max_payments}
use Rattle.mk_exact.specs.History.{Settle as Settles, users, revision}
use Rattle.mk_exact.specs.ByRule.{payments_by_rule}
use Rattle.mk_command.specs.declared.command.Command.TheVariants.{Settle}
use Rattle.mk_reply.specs.declared.payments.Payment.{Payment}
use Rattle.mk_reply.specs.declared.reply.Reply.TheVariants.{Settled}
use Rattle.mk_rules.specs.Answers.{ends_of}
use Rattle.mk_rules.specs.Bounded.{FitPayment}
use Rattle.mk_file.specs.MarketOf.{market_of}
use Rattle.mk_market.specs.Trading.{Trading}
use Rattle.mk_market.specs.inner.Keeping.{standing_of}
use Rattle.mk_market.proofs.Apart.{each_owns_then}
use Rattle.mk_market.proofs.ByRule.{same_payments, rule_fits, rule_enters}
use Rattle.mk_market.proofs.Fitting.{rows_count}
use Rattle.mk_market.proofs.Listed.{listed_is_paid}
use Rattle.mk_market.proofs.Paid.{rule_pays}
use Rattle.mk_market.proofs.Regrowing.{as_many_users}
use Rattle.mk_market.proofs.Replies.{answer_allowed}
use Rattle.mk_market.proofs.Settlement.{settled_at, settlement_kept, settlement_next}
use Rattle.mk_market.proofs.Settlement.{listed_agrees, listed_settles, listed_settlement}
use Rattle.mk_market.proofs.market.Market.settle_listed.Given.{Over}
use Rattle.mk_market.proofs.market.Market.settle_listed.Goals.{After-revision, After-tell}
use Rattle.mk_market.proofs.market.Market.settle_listed.Goals as goal

pub tell-requires-clause-one_each : goal.tell-requires-clause-one_each
tell-requires-clause-one_each g c =
    let i = c.self.inside in
    rows_count i.file.net i.journal.history i.file.points_per_bit c.rows.result.now
    (c.rows.ensures.same ∙ same_payments c.pay_all_by_rule.ensures)
    ∙ sym (as_many_users i.users i.journal.history c.self.invariant.named)

pub tell-requires-clause-few : goal.tell-requires-clause-few
tell-requires-clause-few g c =
    let i = c.self.inside in
    let all = rows_count i.file.net i.journal.history i.file.points_per_bit c.rows.result.now
    (c.rows.ensures.same ∙ same_payments c.pay_all_by_rule.ensures) in
    let few : length (users i.journal.history) ≤ max_payments =
    subst (λ (t : Trading _). length (users t.standing.history) ≤ max_payments) (sym c.self.view_is) c.requires.few in
    omega (arith, all, few)

-- the till has the payments by rule, and so has the list
module _ (g : Over) (c : After-tell g) where
  by_rule :
      let i = c.self.inside in
      c.pay_all_by_rule.new.till.payments ≡ payments_by_rule i.file.net i.journal.history
      i.file.points_per_bit
  by_rule = same_payments c.pay_all_by_rule.ensures

  told :
      let i = c.self.inside in
      map ends_of c.tell.new.payments ≡ payments_by_rule i.file.net i.journal.history
      i.file.points_per_bit
  told = c.tell.ensures.ends ∙ c.rows.ensures.same ∙ by_rule

-- the reply is at the next revision
later : (g : Over) (c : After-revision g)
    → c.revision.result ≡ revision c.self.inside.journal.history + 1
later g c =
    settled_at c.self.inside.journal c.enter.new.journal _ c.revision.result
    c.enter.ensures.history c.revision.ensures

pub enter-requires : goal.enter-requires
enter-requires g c =
    let can = rw (← c.self.view_is) at c.requires.can in
    rule_enters c.self.inside.file c.self.invariant.safe (same_payments c.pay_all_by_rule.ensures)
    c.self.invariant.accounts_kept can

pub invariant_of-self : goal.invariant_of-self
invariant_of-self g c =
    let i = c.self.inside in
    let pays = c.tell.new.payments in
    let done = (goal.at.invariant_of-self g c).After-tell in
    let ends_are = by_rule g done ∙ sym (told g done) in
    settlement_kept c.self.invariant (rw (← c.self.view_is) at c.requires.can)
    (rw (← c.self.view_is) at c.requires.unrefused) ends_are c.enter.ensures
    (Settled c.revision.result pays) refl
    (listed_agrees (market_of i.file) i.journal.history c.revision.result pays
    (rw (← c.self.view_is) at c.requires.few)
    (later g (goal.at.invariant_of-self g c).After-revision)
    (c.tell.ensures.in_order ∙ c.self.invariant.named))
    (subst (AllByRecursion FitPayment) ends_are (rule_fits i.file c.self.invariant.safe (by_rule g done)))
    c.take.new.self c.take-2.new.self

pub returns : goal.returns
returns g c =
    let i = c.self.inside in
    let H = i.journal.history in
    let market = market_of i.file in
    let pays = c.tell.new.payments in
    let done = (goal.at.returns g c).After-tell in
    let in_order = c.tell.ensures.in_order in
    let ends_are = by_rule g done ∙ sym (told g done) in
    let can = rw (← c.self.view_is) at c.requires.can in
    let none = rw (← c.self.view_is) at c.requires.unrefused in
    let few = rw (← c.self.view_is) at c.requires.few in
    rw (← c.self.view_is) (record {
      market = refl;
      allowed = λ sound. answer_allowed market (standing_of i.journal i.users) Settle
          (Settled c.revision.result pays) none
          (listed_settles market H (Settled c.revision.result pays) few
          (listed_settlement i.file H pays c.revision.result
          c.self.invariant.legal c.self.invariant.safe can
          (later g (goal.at.returns g c).After-revision)
          (λ state one. rule_pays i.file H c.self.invariant.legal c.self.invariant.safe sound
          state one pays (in_order ∙ c.self.invariant.named) (told g done)
          (recursion_from_All (λ (p : Payment). p.paid ≡ p.low) pays c.tell.ensures.low_ends))));
      next = settlement_next c.self.invariant can none ends_are c.enter.ensures
          (Settled c.revision.result pays) refl;
      paid = listed_is_paid c.self.inside.file c.self.invariant.accounts_kept can pays
          (in_order ∙ c.self.invariant.named) ends_are c.enter.new.ledger.accounts
          c.enter.ensures.paid_each c.tell.ensures.low_ends c.revision.result;
      one_each = each_owns_then i.users H c.enter.new.journal.history (Settles _)
          c.self.invariant.named c.enter.ensures.history refl;
      others = λ u name at differs. refl;
    })
