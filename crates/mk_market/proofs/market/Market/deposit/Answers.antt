use Rattle.std.specs.Prelude.{◌≡◌, ℕ, ◌+◌, List, length}
use Rattle.std.proofs.Common.{refl, ap, ◌∙◌}
use Rattle.std.proofs.lemmas.List.{length_push}
use Rattle.mk_reply.specs.declared.reply.Reply.TheVariants.{Deposited}
use Rattle.mk_exact.specs.History.{Entry, revision}
use Rattle.mk_market.proofs.TakenBack.{refused_again, taken_back}
use Rattle.mk_command.specs.declared.command.Command.TheVariants.{Deposit}
use Rattle.mk_file.specs.MarketOf.{market_of}
use Rattle.mk_exact.specs.History.{Deposit as Deposits}
use Rattle.mk_asking.proofs.Apart.{apart_lent}
use Rattle.mk_market.proofs.Apart.{each_owns, each_owns_then, others_left}
use Rattle.mk_asking.proofs.Lent.{names_stay}
use Rattle.mk_market.proofs.Replies.{answered_refused}
use Rattle.mk_market.proofs.Deposits.{can_deposit, points_fit, deposit_kept, deposit_allowed}
use Rattle.mk_market.proofs.Deposits.{deposit_next, deposit_paid}
use Rattle.mk_market.proofs.market.Market.deposit.Goals as goal

pub returns-in_err-user-clause-answered : goal.returns-in_err-user-clause-answered
returns-in_err-user-clause-answered g c =
    answered_refused _ c.args.self.now _ c.self.view_is
    (each_owns _ _ c.self.invariant.named) (Deposit c.args.name.now c.args.bits) tt c.in_err-user.field-0.0 c.from_residual.result
    c.from_residual.ensures.1 (c.in_err-user.ensures.deposit (market_of c.self.inside.file) c.self.invariant.max_transfers)

pub returns-in_err-user-clause-again : goal.returns-in_err-user-clause-again
returns-in_err-user-clause-again g c =
    rw (← c.self.view_is) (refused_again _ _ (Deposit c.args.name.now c.args.bits)
    c.in_err-user.field-0.0 c.from_residual.result c.from_residual.ensures.1
    (c.in_err-user.ensures.deposit (market_of c.self.inside.file) c.self.invariant.max_transfers))

pub deposit-requires : goal.deposit-requires
deposit-requires g c =
    can_deposit g.P.Engine.stands_for g.A.Engine.stands_for g.A.Engine.plan_for _ _ _ _ _ _ _ _ _ c.self.invariant c.args.name.now c.in_ok-user.user c.args.bits
    c.in_ok-user.ensures.user c.in_ok-user.ensures.room c.assets.result.now c.assets.ensures.value

pub deposit-requires-2-clause-fits : goal.deposit-requires-2-clause-fits
deposit-requires-2-clause-fits g c =
    points_fit g.P.Engine.stands_for g.A.Engine.stands_for g.A.Engine.plan_for _ _ _ _ _ _ _ _ _ c.self.invariant c.args.name.now c.in_ok-user.user c.args.bits
    c.in_ok-user.ensures.user c.in_ok-user.ensures.room

pub invariant_of-self : goal.invariant_of-self
invariant_of-self g c =
    deposit_kept g.P.Engine.stands_for g.A.Engine.stands_for g.A.Engine.plan_for _ _ _ _ _ _ _ _ _ c.self.invariant c.args.name.now c.in_ok-user.user c.args.bits
    c.in_ok-user.ensures.user c.in_ok-user.ensures.room c.assets.result.now c.deposit.new.self c.assets.ensures.value c.deposit-2.new.self c.deposit-3.new.self
    c.deposit-3.ensures.history (c.in_ok-user.ensures.deposit (market_of c.self.inside.file) c.self.invariant.max_transfers) (record { trades = c.deposit-3.ensures.limit; users = c.deposit-3.ensures.users; transfers = c.deposit-3.ensures.transfers }) c.deposit.ensures.held c.deposit-2.ensures

pub returns-clause-answered : goal.returns-clause-answered
returns-clause-answered g c =
    rw (← c.self.view_is) (record {
      market = refl;
      allowed = λ sound. deposit_allowed g.P.Engine.stands_for g.A.Engine.stands_for g.A.Engine.plan_for _ _ _ _ _ _ _ _ _ c.self.invariant c.args.name.now c.in_ok-user.user c.args.bits
          c.in_ok-user.ensures.user c.in_ok-user.ensures.room c.assets.result.now c.deposit.new.self c.assets.ensures.value c.deposit-2.new.self c.deposit-3.new.self
          c.deposit-3.ensures.history (c.in_ok-user.ensures.deposit (market_of c.self.inside.file) c.self.invariant.max_transfers) c.revision.result c.revision.ensures;
      next = deposit_next g.P.Engine.stands_for g.A.Engine.stands_for g.A.Engine.plan_for _ _ _ _ _ _ _ _ _ c.self.invariant c.args.name.now c.in_ok-user.user c.args.bits
          c.in_ok-user.ensures.user c.in_ok-user.ensures.room c.assets.result.now c.deposit.new.self c.assets.ensures.value c.deposit-2.new.self c.deposit-3.new.self
          c.deposit-3.ensures.history (c.in_ok-user.ensures.deposit (market_of c.self.inside.file) c.self.invariant.max_transfers) c.revision.result;
      paid = deposit_paid g.P.Engine.stands_for g.A.Engine.stands_for g.A.Engine.plan_for _ _ _ _ _
          _ _ _ _ c.self.invariant c.args.name.now c.in_ok-user.user c.args.bits
          c.in_ok-user.ensures.user c.in_ok-user.ensures.room c.deposit-2.new.self
          c.deposit-2.ensures c.revision.result;
      one_each = each_owns_then _ c.self.inside.journal.history _
          (Deposits c.in_ok-user.user c.args.bits)
          (names_stay c.self.inside.users c.in_ok-user.user c.deposit.new.self ∙ c.self.invariant.named)
          c.deposit-3.ensures.history refl;
      others = others_left c.self.inside.journal.history c.args.name.now c.in_ok-user.user
          c.in_ok-user.ensures.user c.self.inside.users _
          (apart_lent c.self.inside.users c.in_ok-user.user c.deposit.new.self);
    })

pub returns-clause-again : goal.returns-clause-again
returns-clause-again g c =
    let H = c.self.inside.journal.history in
    let next : c.revision.result ≡ revision H + 1 =
    c.revision.ensures ∙ ap (λ (K : List Entry). length K) c.deposit-3.ensures.history
    ∙ length_push H (Deposits c.in_ok-user.user c.args.bits) in
    rw (← c.self.view_is) (taken_back _ _ (Deposit c.args.name.now c.args.bits)
    (Deposited c.args.name.now c.args.bits c.revision.result)
    (Deposited c.args.name.now c.args.bits (revision H + 1))
    (ap (λ (n : ℕ). Deposited c.args.name.now c.args.bits n) next) refl
    (c.in_ok-user.ensures.deposit (market_of c.self.inside.file) c.self.invariant.max_transfers) refl
    (deposit_next g.P.Engine.stands_for g.A.Engine.stands_for g.A.Engine.plan_for _ _ _ _ _ _ _ _ _
    c.self.invariant c.args.name.now c.in_ok-user.user c.args.bits
    c.in_ok-user.ensures.user c.in_ok-user.ensures.room c.assets.result.now c.deposit.new.self
    c.assets.ensures.value c.deposit-2.new.self c.deposit-3.new.self
    c.deposit-3.ensures.history (c.in_ok-user.ensures.deposit (market_of c.self.inside.file) c.self.invariant.max_transfers)
    (revision H + 1))
    (deposit_paid g.P.Engine.stands_for g.A.Engine.stands_for g.A.Engine.plan_for _ _ _ _ _
    _ _ _ _ c.self.invariant c.args.name.now c.in_ok-user.user c.args.bits
    c.in_ok-user.ensures.user c.in_ok-user.ensures.room c.deposit-2.new.self
    c.deposit-2.ensures (revision H + 1)))
