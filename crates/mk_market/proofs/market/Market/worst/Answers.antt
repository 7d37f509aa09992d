use Rattle.std.proofs.Common.{refl, ◌∙◌}
use Rattle.mk_exact.specs.History.{users}
use Rattle.mk_command.specs.declared.command.Command.TheVariants.{Worst}
use Rattle.mk_reply.specs.declared.reply.Reply.TheVariants.{Worst as Worsted}
use Rattle.mk_file.specs.MarketOf.{market_of}
use Rattle.mk_asking.proofs.Apart.{apart_lent, apart_then}
use Rattle.mk_market.proofs.Apart.{each_owns, others_left}
use Rattle.mk_asking.proofs.Lent.{in_range, names_stay}
use Rattle.mk_market.proofs.Quotes.{kept_learnt, kept_lent, answered_learnt}
use Rattle.mk_market.proofs.Replies.{answered_refused}
use Rattle.mk_market.proofs.Worsts.{can_find, worst_allowed, worst_next}
use Rattle.mk_market.proofs.market.Market.worst.Goals as goal

pub returns-in_err-user : goal.returns-in_err-user
returns-in_err-user g c =
    answered_refused _ c.args.self.now _ c.self.view_is
    (each_owns _ _ c.self.invariant.named) (Worst c.args.name.now) tt c.in_err-user.field-0.0 c.from_residual.result
    c.from_residual.ensures.1 (c.in_err-user.ensures.refusal (market_of c.self.inside.file))

pub assets-requires : goal.assets-requires
assets-requires g c =
    let i = c.self.inside in
    in_range c.learn.new.users (users i.journal.history) c.in_ok-user.user (c.learn.ensures.names ∙ c.self.invariant.named) c.in_ok-user.ensures.user.within

pub least_of-factor-requires : goal.least_of-factor-requires
least_of-factor-requires g c =
    let i = c.self.inside in
    let kept = kept_learnt c.self.invariant c.learn.ensures.names c.learn.ensures.quotes c.learn.ensures.held in
    can_find g.P.Engine.stands_for g.A.Engine.stands_for g.A.Engine.plan_for _ _ _ _ _ _ _ _ _ kept c.args.name.now c.in_ok-user.user c.in_ok-user.ensures.user c.assets.result.now c.assets.result.now c.assets.ensures.value c.learn.ensures.learnt

pub invariant_of-self : goal.invariant_of-self
invariant_of-self g c =
    let kept = kept_learnt c.self.invariant c.learn.ensures.names c.learn.ensures.quotes c.learn.ensures.held in
    kept_lent kept c.in_ok-user.user c.assets.ensures.value c.least_of-factor.ensures.kept
    (λ m stands. stands)

pub returns : goal.returns
returns g c =
    let i = c.self.inside in
    let kept = kept_learnt c.self.invariant c.learn.ensures.names c.learn.ensures.quotes c.learn.ensures.held in
    let found = c.in_ok-user in
    let lent = apart_lent c.learn.new.users found.user c.least_of-factor.new.assets in
    rw (← c.self.view_is) (answered_learnt i.file i.ledger i.journal i.users c.learn.new.users c.learn.ensures.quotes _ (Worst c.args.name.now) (Worsted c.cash.result.0 c.cash.result.1)
    (others_left i.journal.history c.args.name.now found.user found.ensures.user i.users _
    (apart_then found.user i.users c.learn.new.users _ c.learn.ensures.apart lent)) (record {
      market = refl;
      allowed = λ sound. worst_allowed g.P.Engine.stands_for g.A.Engine.stands_for g.A.Engine.plan_for _ _ _ _ _ _ _ _ _ kept c.args.name.now found.user found.ensures.user c.assets.result.now c.least_of-factor.new.assets c.assets.ensures.value c.learn.ensures.learnt c.least_of-factor.result c.cash.result.0 c.cash.result.1
          sound (found.ensures.refusal (market_of c.self.inside.file))
          c.least_of-factor.ensures.least c.least_of-factor.ensures.idle
          c.cash.ensures.covers;
      next = worst_next g.P.Engine.stands_for g.A.Engine.stands_for g.A.Engine.plan_for _ _ _ _ _ _ _ _ _ kept c.args.name.now found.user found.ensures.user c.assets.result.now c.least_of-factor.new.assets c.assets.ensures.value c.cash.result.0 c.cash.result.1;
      paid = λ u. refl;
      one_each = each_owns _ (users i.journal.history)
          (names_stay c.learn.new.users found.user c.least_of-factor.new.assets ∙ kept.named);
      others = others_left i.journal.history c.args.name.now found.user found.ensures.user
          c.learn.new.users _ lent;
    }))
