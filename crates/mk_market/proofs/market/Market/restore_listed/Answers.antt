use Rattle.std.proofs.Common.{◌≡◌, ◌≤◌, ◌+◌, map, length, refl, sym, ap, ◌∙◌, subst}
use Rattle.std.specs.List.{AllByRecursion}
use Rattle.std.proofs.lemmas.List.Elements.{recursion_from_All}
use Rattle.mk_net.specs.Bounds.{max_payments}
use Rattle.mk_exact.specs.History.{users, revision}
use Rattle.mk_file.specs.MarketOf.{market_of}
use Rattle.mk_command.specs.declared.command.Command.TheVariants.{Settle}
use Rattle.mk_reply.specs.declared.reply.Reply.TheVariants.{Settled}
use Rattle.mk_reply.specs.Replies.{IsReply, IsPayment as IsReadPayment}
use Rattle.mk_rules.specs.Answers.{ends_of}
use Rattle.mk_rules.specs.Bounded.{FitPayment}
use Rattle.mk_restore.specs.Restoring.{IsSettledAt}
use Rattle.mk_replay.specs.Tills.{TillOf}
use Rattle.mk_market.proofs.Fitting.{read_fit}
use Rattle.mk_market.proofs.Listed.{listed_enters, listed_is_paid}
use Rattle.mk_market.proofs.Settlement.{listed_agrees, settlement_kept, settlement_next}
use Rattle.mk_market.proofs.TakenBack.{taken_back}
use Rattle.mk_market.proofs.market.Market.restore_listed.Given.{Over}
use Rattle.mk_market.proofs.market.Market.restore_listed.Goals.{After-list}
use Rattle.mk_market.proofs.market.Market.restore_listed.Goals as goal

-- the till has the payments that the reply tells, which can be printed
module _ (g : Over) (c : After-list g) where
  ends_are : c.list.new.till.payments ≡ map ends_of c.in-Some.payments.now
  ends_are = ap (λ (t : TillOf). t.payments) c.list.ensures ∙ ap (map ends_of) c.rows.ensures.same

  told : IsReply (Settled (revision c.self.inside.journal.history + 1) c.in-Some.payments.now)
  told = subst IsReply c.in-Some.ensures.some c.requires.told

  fit : AllByRecursion FitPayment c.list.new.till.payments
  fit =
      let pays = c.in-Some.payments.now in
      subst (AllByRecursion FitPayment) (sym ends_are)
      (read_fit pays (recursion_from_All IsReadPayment pays told.1.each))

pub enter-requires : goal.enter-requires
enter-requires g c =
    let done = (goal.at.enter-requires g c).After-list in
    listed_enters c.self.inside.file c.self.invariant.accounts_kept (rw (← c.self.view_is) at c.requires.can)
    c.in-Some.payments.now (c.in-Some.ensures.in_order ∙ c.self.invariant.named) (ends_are g done)
    c.self.invariant.safe (fit g done)

-- the list agrees with the history
agrees : (g : Over) (c : After-list g) → length (users c.self.inside.journal.history) ≤ max_payments
    → IsSettledAt (market_of c.self.inside.file) c.self.inside.journal.history
    (Settled (revision c.self.inside.journal.history + 1) c.in-Some.payments.now)
agrees g c few =
    listed_agrees (market_of c.self.inside.file) c.self.inside.journal.history _
    c.in-Some.payments.now few refl (c.in-Some.ensures.in_order ∙ c.self.invariant.named)

pub invariant_of-self : goal.invariant_of-self
invariant_of-self g c =
    let done = (goal.at.invariant_of-self g c).After-list in
    settlement_kept c.self.invariant (rw (← c.self.view_is) at c.requires.can)
    (rw (← c.self.view_is) at c.requires.unrefused) (ends_are g done) c.enter.ensures _ refl
    (agrees g done (rw (← c.self.view_is) at c.requires.few))
    (subst (AllByRecursion FitPayment) (ends_are g done) (fit g done))
    c.self.inside.payments c.take.new.self

pub returns : goal.returns
returns g c =
    let done = (goal.at.returns g c).After-list in
    let at = revision c.self.inside.journal.history + 1 in
    let pays = c.in-Some.payments.now in
    let can = rw (← c.self.view_is) at c.requires.can in
    let none = rw (← c.self.view_is) at c.requires.unrefused in
    let few = rw (← c.self.view_is) at c.requires.few in
    rw (← c.self.view_is) (taken_back _ _ Settle c.args.reply.now (Settled at pays)
    c.in-Some.ensures.some refl none (agrees g done few)
    (settlement_next c.self.invariant can none (ends_are g done) c.enter.ensures (Settled at pays)
    refl)
    (listed_is_paid c.self.inside.file c.self.invariant.accounts_kept can pays
    (c.in-Some.ensures.in_order ∙ c.self.invariant.named) (ends_are g done)
    c.enter.new.ledger.accounts c.enter.ensures.paid_each
    (λ k d inside. ((told g done).1.each k d inside).paid) at))
