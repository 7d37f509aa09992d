use Rattle.std.proofs.Common.{refl, ◌∙◌}
use Rattle.mk_exact.specs.History.{Withdraw as Withdraws, users}
use Rattle.mk_command.specs.declared.command.Command.TheVariants.{Withdraw}
use Rattle.mk_reply.specs.declared.refusal.Refusal.TheVariants.{Short}
use Rattle.mk_reply.specs.declared.reply.Reply.TheVariants.{Refused, Withdrawn}
use Rattle.mk_file.specs.MarketOf.{market_of}
use Rattle.mk_asking.proofs.Apart.{apart_lent, apart_then}
use Rattle.mk_market.proofs.Apart.{each_owns, each_owns_then, others_left}
use Rattle.mk_asking.proofs.Lent.{in_range, names_stay}
use Rattle.mk_market.proofs.Quotes.{kept_learnt, kept_lent, answered_learnt}
use Rattle.mk_market.proofs.Replies.{answered_refused}
use Rattle.mk_market.proofs.Worsts.{can_find}
use Rattle.mk_market.proofs.Withdrawals.{points_fit, can_withdraw, short_allowed, short_next}
use Rattle.mk_market.proofs.Withdrawals.{withdrawal_kept, withdrawal_allowed, withdrawal_next}
use Rattle.mk_market.proofs.Withdrawals.{withdrawal_paid}
use Rattle.mk_market.proofs.market.Market.withdraw.Goals as goal

pub returns-in_err-user : goal.returns-in_err-user
returns-in_err-user g c =
    answered_refused _ c.args.self.now _ c.self.view_is
    (each_owns _ _ c.self.invariant.named) (Withdraw c.args.name.now c.args.bits) tt c.in_err-user.field-0.0 c.from_residual.result
    c.from_residual.ensures.1 (c.in_err-user.ensures.withdrawal (market_of c.self.inside.file) c.self.invariant.max_transfers)

pub assets-assets-requires : goal.assets-assets-requires
assets-assets-requires g c =
    let i = c.self.inside in
    in_range c.learn.new.users (users i.journal.history) c.in_ok-user.user (c.learn.ensures.names ∙ c.self.invariant.named) c.in_ok-user.ensures.user.within

pub least_of-requires : goal.least_of-requires
least_of-requires g c =
    let i = c.self.inside in
    let kept = kept_learnt c.self.invariant c.learn.ensures.names c.learn.ensures.quotes c.learn.ensures.held in
    can_find g.P.Engine.stands_for g.A.Engine.stands_for g.A.Engine.plan_for _ _ _ _ _ _ _ _ _ kept c.args.name.now c.in_ok-user.user c.in_ok-user.ensures.user
    c.assets-assets.result.now c.assets-assets.result.now c.assets-assets.ensures.value c.learn.ensures.learnt

pub invariant_of-self : goal.invariant_of-self
invariant_of-self g c =
    let kept = kept_learnt c.self.invariant c.learn.ensures.names c.learn.ensures.quotes c.learn.ensures.held in
    kept_lent kept c.in_ok-user.user c.assets-assets.ensures.value c.least_of.ensures.kept
    (λ m stands. stands)

pub returns-then-bits-most : goal.returns-then-bits-most
returns-then-bits-most g c =
    let i = c.self.inside in
    let kept = kept_learnt c.self.invariant c.learn.ensures.names c.learn.ensures.quotes c.learn.ensures.held in
    let found = c.in_ok-user in
    let lent = apart_lent c.learn.new.users found.user c.least_of.new.assets in
    rw (← c.self.view_is) (answered_learnt i.file i.ledger i.journal i.users c.learn.new.users c.learn.ensures.quotes _ (Withdraw c.args.name.now c.args.bits) (Refused (Short c.most_bits-most.result))
    (others_left i.journal.history c.args.name.now found.user found.ensures.user i.users _
    (apart_then found.user i.users c.learn.new.users _ c.learn.ensures.apart lent)) (record {
      market = refl;
      allowed = λ sound. short_allowed g.P.Engine.stands_for g.A.Engine.stands_for g.A.Engine.plan_for _ _ _ _ _ _ _ _ _ kept c.args.name.now c.in_ok-user.user c.args.bits c.in_ok-user.ensures.user c.in_ok-user.ensures.room
          c.assets-assets.result.now c.least_of.new.assets c.assets-assets.ensures.value c.least_of.ensures.kept c.learn.ensures.learnt
          c.least_of.result c.most_bits-most.result (c.in_ok-user.ensures.withdrawal (market_of c.self.inside.file) c.self.invariant.max_transfers) c.least_of.ensures.least
          c.least_of.ensures.idle c.if-bits-most.true c.most_bits-most.ensures.most sound;
      next = short_next g.P.Engine.stands_for g.A.Engine.stands_for g.A.Engine.plan_for _ _ _ _ _ _ _ _ _ kept c.args.name.now c.in_ok-user.user c.args.bits c.in_ok-user.ensures.user c.in_ok-user.ensures.room
          c.assets-assets.result.now c.least_of.new.assets c.assets-assets.ensures.value c.least_of.ensures.kept c.least_of.new.assets c.most_bits-most.result;
      paid = λ u. refl;
      one_each = each_owns _ (users i.journal.history)
          (names_stay c.learn.new.users found.user c.least_of.new.assets ∙ kept.named);
      others = others_left i.journal.history c.args.name.now found.user found.ensures.user
          c.learn.new.users _ lent;
    }))

pub withdraw-requires : goal.withdraw-requires
withdraw-requires g c =
    let i = c.self.inside in
    let kept = kept_learnt c.self.invariant c.learn.ensures.names c.learn.ensures.quotes c.learn.ensures.held in
    can_withdraw g.P.Engine.stands_for g.A.Engine.stands_for g.A.Engine.plan_for _ _ _ _ _ _ _ _ _ kept c.args.name.now c.in_ok-user.user c.args.bits c.in_ok-user.ensures.user c.in_ok-user.ensures.room
    c.assets-assets.result.now c.least_of.new.assets c.assets-assets.ensures.value c.least_of.ensures.kept

pub withdraw-requires-2-clause-fits : goal.withdraw-requires-2-clause-fits
withdraw-requires-2-clause-fits g c =
    let i = c.self.inside in
    let kept = kept_learnt c.self.invariant c.learn.ensures.names c.learn.ensures.quotes c.learn.ensures.held in
    points_fit g.P.Engine.stands_for g.A.Engine.stands_for g.A.Engine.plan_for _ _ _ _ _ _ _ _ _ kept c.args.name.now c.in_ok-user.user c.args.bits c.in_ok-user.ensures.user c.in_ok-user.ensures.room

pub invariant_of-self-2 : goal.invariant_of-self-2
invariant_of-self-2 g c =
    let i = c.self.inside in
    let kept = kept_learnt c.self.invariant c.learn.ensures.names c.learn.ensures.quotes c.learn.ensures.held in
    withdrawal_kept g.P.Engine.stands_for g.A.Engine.stands_for g.A.Engine.plan_for _ _ _ _ _ _ _ _ _ kept c.args.name.now c.in_ok-user.user c.args.bits c.in_ok-user.ensures.user c.in_ok-user.ensures.room
    c.assets-assets.result.now c.least_of.new.assets c.assets-assets.ensures.value c.least_of.ensures.kept
    (c.in_ok-user.ensures.withdrawal (market_of c.self.inside.file) c.self.invariant.max_transfers)
    c.withdraw.new.self c.withdraw-2.new.self c.withdraw-3.new.self c.withdraw-3.ensures.history
    (record { trades = c.withdraw-3.ensures.limit; users = c.withdraw-3.ensures.users; transfers = c.withdraw-3.ensures.transfers }) c.withdraw.ensures.held c.withdraw-2.ensures

pub returns : goal.returns
returns g c =
    let i = c.self.inside in
    let kept = kept_learnt c.self.invariant c.learn.ensures.names c.learn.ensures.quotes c.learn.ensures.held in
    let found = c.in_ok-user in
    let lent = apart_lent c.learn.new.users found.user c.withdraw.new.self in
    rw (← c.self.view_is) (answered_learnt i.file i.ledger i.journal i.users c.learn.new.users c.learn.ensures.quotes _ (Withdraw c.args.name.now c.args.bits) (Withdrawn c.args.name.now c.args.bits c.revision.result)
    (others_left i.journal.history c.args.name.now found.user found.ensures.user i.users _
    (apart_then found.user i.users c.learn.new.users _ c.learn.ensures.apart lent)) (record {
      market = refl;
      allowed = λ sound. withdrawal_allowed g.P.Engine.stands_for g.A.Engine.stands_for g.A.Engine.plan_for _ _ _ _ _ _ _ _ _ kept c.args.name.now c.in_ok-user.user c.args.bits c.in_ok-user.ensures.user c.in_ok-user.ensures.room
          c.assets-assets.result.now c.least_of.new.assets c.assets-assets.ensures.value c.least_of.ensures.kept c.learn.ensures.learnt
          c.least_of.result c.most_bits-most.result (c.in_ok-user.ensures.withdrawal (market_of c.self.inside.file) c.self.invariant.max_transfers) c.least_of.ensures.least
          c.withdraw-3.new.self c.withdraw-3.ensures.history c.if-bits-most.false c.most_bits-most.ensures.covered c.revision.result c.revision.ensures sound;
      next = withdrawal_next g.P.Engine.stands_for g.A.Engine.stands_for g.A.Engine.plan_for _ _ _ _ _ _ _ _ _ kept c.args.name.now c.in_ok-user.user c.args.bits c.in_ok-user.ensures.user c.in_ok-user.ensures.room
          c.assets-assets.result.now c.least_of.new.assets c.assets-assets.ensures.value c.least_of.ensures.kept
          (c.in_ok-user.ensures.withdrawal (market_of c.self.inside.file) c.self.invariant.max_transfers)
          c.withdraw.new.self c.withdraw-2.new.self c.withdraw-3.new.self c.withdraw-3.ensures.history c.revision.result;
      paid = withdrawal_paid g.P.Engine.stands_for g.A.Engine.stands_for g.A.Engine.plan_for _ _ _ _
          _ _ _ _ _ kept c.args.name.now c.in_ok-user.user c.args.bits
          c.in_ok-user.ensures.user c.in_ok-user.ensures.room
          c.withdraw-2.new.self c.withdraw-2.ensures c.revision.result;
      one_each = each_owns_then _ i.journal.history _ (Withdraws found.user c.args.bits)
          (names_stay c.learn.new.users found.user c.withdraw.new.self ∙ kept.named)
          c.withdraw-3.ensures.history refl;
      others = others_left i.journal.history c.args.name.now found.user found.ensures.user
          c.learn.new.users _ lent;
    }))
