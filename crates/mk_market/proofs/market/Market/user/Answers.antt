use Rattle.std.proofs.Common.{refl}
use Rattle.mk_command.specs.declared.command.Command.TheVariants.{User}
use Rattle.mk_exact.specs.History.{resolutions}
use Rattle.mk_file.specs.MarketOf.{market_of}
use Rattle.mk_market.proofs.Apart.{each_owns}
use Rattle.mk_market.proofs.Replies.{answered_refused}
use Rattle.mk_market.proofs.Joins.{memory_answered, join_kept, join_allowed, join_next, join_paid, join_owns, join_left}
use Rattle.mk_market.proofs.Refiled.{refiled, same_inside}
use Rattle.mk_market.proofs.market.Market.user.Goals as goal

pub returns-in_err-refuse_user : goal.returns-in_err-refuse_user
returns-in_err-refuse_user g c =
    answered_refused _ c.args.self.now _ c.self.view_is
    (each_owns _ _ c.self.invariant.named) (User c.args.name.now) tt c.in_err-refuse_user.field-0.0 c.from_residual.result
    c.from_residual.ensures.1 (c.in_err-refuse_user.ensures.refusal (market_of c.self.inside.file) c.self.invariant.max_users)

pub returns-in_default : goal.returns-in_default
returns-in_default g c = rw (← c.self.view_is) (memory_answered _ (each_owns _ _ c.self.invariant.named) c.args.name.now (c.in_ok-refuse_user.ensures.refusal (market_of c.self.inside.file) c.self.invariant.max_users))

pub returns-in_default-join : goal.returns-in_default-join
returns-in_default-join g c = rw (c.in_default-join.ensures.err, ← c.self.view_is) (memory_answered _ (each_owns _ _ c.self.invariant.named) c.args.name.now (c.in_ok-refuse_user.ensures.refusal (market_of c.self.inside.file) c.self.invariant.max_users))

pub same-self-in_default : goal.same-self-in_default
same-self-in_default g c = same_inside c.self.inside _ _ _ _ _ _ _ _ _ _ _

pub invariant_of-self : goal.invariant_of-self
invariant_of-self g c =
    rw (c.in_default-join.ensures.err) (refiled _ _ _ _ _ _ _ _ _ _ _ _ g.P.Engine.stands_for g.A.Engine.stands_for g.A.Engine.plan_for _ _ _ _ _ _ _ _ c.self.invariant)

pub invariant_of-self-2 : goal.invariant_of-self-2
invariant_of-self-2 g c =
    refiled _ _ _ _ _ _ _ _ _ _ _ _ g.P.Engine.stands_for g.A.Engine.stands_for g.A.Engine.plan_for _ _ _ _ _ _ _ _
    (join_kept g.P.Engine.stands_for g.A.Engine.stands_for g.A.Engine.plan_for _ _ _ _ _ _ _ _ _ c.self.invariant c.args.name.now c.in-Ok.assets
    (c.in-Ok.ensures c.self.inside.file.tree (resolutions c.self.inside.journal.history) c.self.invariant.planned)
    _ c.in-Ok-join.ensures.ok _ _ c.join-3.ensures.history
    (c.in_ok-refuse_user.ensures.refusal (market_of c.self.inside.file) c.self.invariant.max_users)
    c.bytes.ensures.name (record { trades = c.join-3.ensures.limit; users = c.join-3.ensures.users; transfers = c.join-3.ensures.transfers }) c.join-2.ensures)

pub returns : goal.returns
returns g c =
    rw (← c.self.view_is) (record {
      market = refl;
      allowed = λ sound. join_allowed g.P.Engine.stands_for g.A.Engine.stands_for g.A.Engine.plan_for _ _ _ _ _ _ _ _ _ c.self.invariant c.args.name.now c.in-Ok.assets
          (c.in-Ok.ensures c.self.inside.file.tree (resolutions c.self.inside.journal.history) c.self.invariant.planned) c.join.new.self c.in-Ok-join.ensures.ok c.join-2.new.self
          c.join-3.new.self c.join-3.ensures.history
          (c.in_ok-refuse_user.ensures.refusal (market_of c.self.inside.file) c.self.invariant.max_users) c.revision.result c.revision.ensures;
      next = join_next g.P.Engine.stands_for g.A.Engine.stands_for g.A.Engine.plan_for _ _ _ _ _ _ _ _ _ c.self.invariant c.args.name.now c.in-Ok.assets
          (c.in-Ok.ensures c.self.inside.file.tree (resolutions c.self.inside.journal.history) c.self.invariant.planned) c.join.new.self c.in-Ok-join.ensures.ok c.join-2.new.self
          c.join-3.new.self c.join-3.ensures.history
          (c.in_ok-refuse_user.ensures.refusal (market_of c.self.inside.file) c.self.invariant.max_users) c.revision.result;
      paid = join_paid g.P.Engine.stands_for g.A.Engine.stands_for g.A.Engine.plan_for _ _ _ _ _ _ _
          _ _ c.self.invariant c.args.name.now c.in-Ok.assets
          (c.in-Ok.ensures c.self.inside.file.tree (resolutions c.self.inside.journal.history) c.self.invariant.planned) c.join.new.self c.in-Ok-join.ensures.ok c.join-2.new.self
          c.join-3.new.self c.join-3.ensures.history
          (c.in_ok-refuse_user.ensures.refusal (market_of c.self.inside.file) c.self.invariant.max_users) c.revision.result
          c.join-2.ensures;
      one_each = join_owns g.P.Engine.stands_for g.A.Engine.stands_for g.A.Engine.plan_for _ _ _ _ _ _ _
          _ _ c.self.invariant c.args.name.now c.in-Ok.assets
          (c.in-Ok.ensures c.self.inside.file.tree (resolutions c.self.inside.journal.history) c.self.invariant.planned) c.join.new.self c.in-Ok-join.ensures.ok c.join-2.new.self
          c.join-3.new.self c.join-3.ensures.history
          (c.in_ok-refuse_user.ensures.refusal (market_of c.self.inside.file) c.self.invariant.max_users);
      others = λ u other at differs. join_left g.P.Engine.stands_for g.A.Engine.stands_for g.A.Engine.plan_for _ _ _ _ _ _ _
          _ _ c.self.invariant c.args.name.now c.in-Ok.assets
          (c.in-Ok.ensures c.self.inside.file.tree (resolutions c.self.inside.journal.history) c.self.invariant.planned) c.join.new.self c.in-Ok-join.ensures.ok c.join-2.new.self
          c.join-3.new.self c.join-3.ensures.history
          (c.in_ok-refuse_user.ensures.refusal (market_of c.self.inside.file) c.self.invariant.max_users) u other at;
    })
