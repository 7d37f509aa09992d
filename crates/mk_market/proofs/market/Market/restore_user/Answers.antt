use Rattle.std.specs.Prelude.{◌+◌}
use Rattle.std.proofs.Common.{refl}
use Rattle.mk_exact.specs.History.{revision}
use Rattle.mk_command.specs.declared.command.Command.TheVariants.{User}
use Rattle.mk_reply.specs.declared.reply.Reply.TheVariants.{Joined}
use Rattle.mk_exact.specs.History.{resolutions}
use Rattle.mk_file.specs.MarketOf.{market_of}
use Rattle.mk_market.proofs.Joins.{join_kept, join_next, join_paid}
use Rattle.mk_market.proofs.Refiled.{refiled, same_inside}
use Rattle.mk_market.proofs.TakenBack.{left_by_reply, left_by_refusal, tried_unfit, taken_back}
use Rattle.mk_market.proofs.market.Market.restore_user.Goals as goal

pub returns-then-not-tells_join : goal.returns-then-not-tells_join
returns-then-not-tells_join g c =
    rw (← c.self.view_is) (left_by_reply _ (User c.args.name.now) c.args.reply.now
    (λ agrees. let yes = c.tells_join.ensures.1 agrees in let no = c.if-not-tells_join.true in
    absurd (cc)))

pub returns-in_err-refuse_user : goal.returns-in_err-refuse_user
returns-in_err-refuse_user g c =
    rw (← c.self.view_is) (tried_unfit _ _ (User c.args.name.now) c.args.reply.now
    c.from_residual.result c.from_residual.ensures.1
    (left_by_refusal _ (User c.args.name.now) c.args.reply.now c.in_err-refuse_user.field-0.0
    (c.in_err-refuse_user.ensures.refusal (market_of c.self.inside.file) c.self.invariant.max_users)))

pub same-self-in_default : goal.same-self-in_default
same-self-in_default g c = same_inside c.self.inside _ _ _ _ _ _ _ _ _ _ _

pub invariant_of-self : goal.invariant_of-self
invariant_of-self g c =
    rw (c.in_default-join.ensures.err) (refiled _ _ _ _ _ _ _ _ _ _ _ _ g.P.Engine.stands_for
    g.A.Engine.stands_for g.A.Engine.plan_for _ _ _ _ _ _ _ _ c.self.invariant)

pub invariant_of-self-2 : goal.invariant_of-self-2
invariant_of-self-2 g c =
    refiled _ _ _ _ _ _ _ _ _ _ _ _ g.P.Engine.stands_for g.A.Engine.stands_for g.A.Engine.plan_for _ _ _ _
    _ _ _ _
    (join_kept g.P.Engine.stands_for g.A.Engine.stands_for g.A.Engine.plan_for _ _ _ _ _ _ _ _ _
    c.self.invariant c.args.name.now c.in-Ok.assets
    (c.in-Ok.ensures c.self.inside.file.tree (resolutions c.self.inside.journal.history) c.self.invariant.planned)
    _ c.in-Ok-join.ensures.ok _ _ c.join-3.ensures.history
    (c.in_ok-refuse_user.ensures.refusal (market_of c.self.inside.file) c.self.invariant.max_users)
    c.bytes.ensures.name (record { trades = c.join-3.ensures.limit; users = c.join-3.ensures.users; transfers = c.join-3.ensures.transfers }) c.join-2.ensures)

pub returns : goal.returns
returns g c =
    let H = c.self.inside.journal.history in
    rw (← c.self.view_is) (taken_back _ _ (User c.args.name.now) c.args.reply.now
    (Joined c.args.name.now (revision H + 1))
    (c.tells_join.ensures.0 c.if-not-tells_join.false) refl
    (c.in_ok-refuse_user.ensures.refusal (market_of c.self.inside.file) c.self.invariant.max_users) refl
    (join_next g.P.Engine.stands_for g.A.Engine.stands_for g.A.Engine.plan_for _ _ _ _ _ _ _ _ _
    c.self.invariant c.args.name.now c.in-Ok.assets
    (c.in-Ok.ensures c.self.inside.file.tree (resolutions c.self.inside.journal.history) c.self.invariant.planned) c.join.new.self c.in-Ok-join.ensures.ok c.join-2.new.self
    c.join-3.new.self c.join-3.ensures.history
    (c.in_ok-refuse_user.ensures.refusal (market_of c.self.inside.file) c.self.invariant.max_users) (revision H + 1))
    (join_paid g.P.Engine.stands_for g.A.Engine.stands_for g.A.Engine.plan_for _ _ _ _ _ _ _
    _ _ c.self.invariant c.args.name.now c.in-Ok.assets
    (c.in-Ok.ensures c.self.inside.file.tree (resolutions c.self.inside.journal.history) c.self.invariant.planned) c.join.new.self c.in-Ok-join.ensures.ok c.join-2.new.self
    c.join-3.new.self c.join-3.ensures.history
    (c.in_ok-refuse_user.ensures.refusal (market_of c.self.inside.file) c.self.invariant.max_users) (revision H + 1)
    c.join-2.ensures))
