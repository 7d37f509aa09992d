use Rattle.std.specs.Prelude.{◌+◌}
use Rattle.std.proofs.Common.{refl}
use Rattle.mk_exact.specs.History.{revision}
use Rattle.mk_assets.specs.Holdings.{Holding}
use Rattle.mk_command.specs.declared.command.Command.TheVariants.{Withdraw}
use Rattle.mk_reply.specs.declared.reply.Reply.TheVariants.{Withdrawn}
use Rattle.mk_file.specs.MarketOf.{market_of}
use Rattle.mk_market.proofs.Withdrawals.{points_fit, can_withdraw, withdrawal_kept}
use Rattle.mk_market.proofs.Withdrawals.{withdrawal_next, withdrawal_paid}
use Rattle.mk_market.proofs.TakenBack.{left_untold, left_by_refusal, tried_unfit, taken_back}
use Rattle.mk_market.proofs.market.Market.restore_withdrawal.Goals as goal

pub returns-then-not-tells_withdrawal : goal.returns-then-not-tells_withdrawal
returns-then-not-tells_withdrawal g c =
    rw (← c.self.view_is)
    (left_untold _ _ _ c.tells_withdrawal.ensures.1 c.if-not-tells_withdrawal.true)

pub returns-in_err-user : goal.returns-in_err-user
returns-in_err-user g c =
    rw (← c.self.view_is) (tried_unfit _ _ (Withdraw c.args.name.now c.args.bits) c.args.reply.now
    c.from_residual.result c.from_residual.ensures.1
    (left_by_refusal _ (Withdraw c.args.name.now c.args.bits) c.args.reply.now
    c.in_err-user.field-0.0 (c.in_err-user.ensures.withdrawal (market_of c.self.inside.file) c.self.invariant.max_transfers)))

pub withdraw-requires : goal.withdraw-requires
withdraw-requires g c = can_withdraw g.P.Engine.stands_for g.A.Engine.stands_for
    g.A.Engine.plan_for _ _ _ _ _ _ _ _ _ c.self.invariant c.args.name.now c.in_ok-user.user
    c.args.bits c.in_ok-user.ensures.user c.in_ok-user.ensures.room
    c.assets.result.now c.assets.result.now c.assets.ensures.value (λ (h : Holding) owned. owned)

pub withdraw-requires-2-clause-fits : goal.withdraw-requires-2-clause-fits
withdraw-requires-2-clause-fits g c = points_fit g.P.Engine.stands_for g.A.Engine.stands_for
    g.A.Engine.plan_for _ _ _ _ _ _ _ _ _ c.self.invariant c.args.name.now c.in_ok-user.user
    c.args.bits c.in_ok-user.ensures.user c.in_ok-user.ensures.room

pub invariant_of-self : goal.invariant_of-self
invariant_of-self g c =
    withdrawal_kept g.P.Engine.stands_for g.A.Engine.stands_for g.A.Engine.plan_for _ _ _ _ _ _ _ _ _
    c.self.invariant c.args.name.now c.in_ok-user.user c.args.bits c.in_ok-user.ensures.user
    c.in_ok-user.ensures.room
    c.assets.result.now c.assets.result.now c.assets.ensures.value (λ (h : Holding) owned. owned)
    (c.in_ok-user.ensures.withdrawal (market_of c.self.inside.file) c.self.invariant.max_transfers)
    c.withdraw.new.self c.withdraw-2.new.self c.withdraw-3.new.self c.withdraw-3.ensures.history
    (record { trades = c.withdraw-3.ensures.limit; users = c.withdraw-3.ensures.users; transfers = c.withdraw-3.ensures.transfers }) c.withdraw.ensures.held c.withdraw-2.ensures

pub returns : goal.returns
returns g c =
    let H = c.self.inside.journal.history in
    rw (← c.self.view_is) (taken_back _ _ (Withdraw c.args.name.now c.args.bits) c.args.reply.now
    (Withdrawn c.args.name.now c.args.bits (revision H + 1))
    (c.tells_withdrawal.ensures.0 c.if-not-tells_withdrawal.false) refl
    (c.in_ok-user.ensures.withdrawal (market_of c.self.inside.file) c.self.invariant.max_transfers) refl
    (withdrawal_next g.P.Engine.stands_for g.A.Engine.stands_for g.A.Engine.plan_for _ _ _ _ _ _ _
    _ _ c.self.invariant c.args.name.now c.in_ok-user.user c.args.bits c.in_ok-user.ensures.user
    c.in_ok-user.ensures.room
    c.assets.result.now c.assets.result.now c.assets.ensures.value (λ (h : Holding) owned. owned)
    (c.in_ok-user.ensures.withdrawal (market_of c.self.inside.file) c.self.invariant.max_transfers)
    c.withdraw.new.self c.withdraw-2.new.self c.withdraw-3.new.self c.withdraw-3.ensures.history
    (revision H + 1))
    (withdrawal_paid g.P.Engine.stands_for g.A.Engine.stands_for g.A.Engine.plan_for _ _ _ _
    _ _ _ _ _ c.self.invariant c.args.name.now c.in_ok-user.user c.args.bits
    c.in_ok-user.ensures.user c.in_ok-user.ensures.room
    c.withdraw-2.new.self c.withdraw-2.ensures (revision H + 1)))
