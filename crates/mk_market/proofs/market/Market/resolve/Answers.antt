use Rattle.std.specs.Prelude.{◌≡◌, ℕ, ◌+◌, List, length}
use Rattle.std.proofs.Common.{[], ◌∷◌, refl, ap, ◌∙◌}
use Rattle.std.proofs.lemmas.List.{length_push}
use Rattle.mk_engine.specs.Meaning.{Meaning}
use Rattle.mk_beliefs.specs.Meanings.{weights_of, rows_of}
use Rattle.mk_file.specs.MarketOf.{market_of}
use Rattle.mk_command.specs.declared.command.Command.TheVariants.{Resolve}
use Rattle.mk_reply.specs.declared.refusal.Refusal.TheVariants.{Impossible}
use Rattle.mk_reply.specs.declared.reply.Reply.TheVariants.{Resolved}
use Rattle.mk_market.specs.inner.Keeping.{standing_of}
use Rattle.mk_exact.specs.History.{Entry, Resolve as Resolves, revision}
use Rattle.mk_market.proofs.Apart.{each_owns, each_owns_then}
use Rattle.mk_market.proofs.Replies.{answered_by_record, by_record, refused_stays, nothing_added}
use Rattle.mk_market.proofs.Resolved.{has_home, can_ask, few_known, unrefused_where}
use Rattle.mk_market.proofs.Resolved.{never_answered, never_refused, asked_kept, resolution_allowed}
use Rattle.mk_market.proofs.Resolved.{resolution_next, resolution_kept}
use Rattle.mk_market.proofs.Refiled.{refiled}
use Rattle.mk_market.proofs.TakenBack.{left_by_refusal, refused_again, taken_back}
use Rattle.mk_market.proofs.market.Market.resolve.Goals as goal

pub home_of-home-requires : goal.home_of-home-requires
home_of-home-requires g c = has_home g.P.Engine.stands_for g.A.Engine.stands_for g.A.Engine.plan_for
    _ _ _ _ _ _ _ _ _ c.self.invariant c.args.words.now c.in_ok-pair.pair
    c.in_ok-pair.ensures.named c.in_ok-pair.ensures.pair

pub can_come-requires : goal.can_come-requires
can_come-requires g c = can_ask g.P.Engine.stands_for g.A.Engine.stands_for g.A.Engine.plan_for _ _ _ _ _ _ _ _ _ c.self.invariant c.args.words.now c.in_ok-pair.pair
    c.in_ok-pair.ensures.named c.in_ok-pair.ensures.pair c.home_of-home.result
    c.home_of-home.ensures

pub know-requires-clause-home : goal.know-requires-clause-home
know-requires-clause-home g c =
    let i = c.self.inside in
    g.met.P.Engine.home_is_place c.can_come.new.prices
    (weights_of i.file.net i.file.tree i.journal.history) c.home_of-home.result
    (c.in_ok-pair.pair ∷ [])
    (c.can_come.ensures.kept _ c.self.invariant.prices_stand) c.home_of-home.ensures

pub know-requires-2-clause-home : goal.know-requires-2-clause-home
know-requires-2-clause-home g c =
    let i = c.self.inside in
    g.met.A.Engine.home_is_place i.rows (rows_of i.file.net i.file.tree i.journal.history)
    c.home_of-home.result (c.in_ok-pair.pair ∷ [])
    c.self.invariant.rows_stand c.home_of-home.ensures

pub resolve-requires : goal.resolve-requires
resolve-requires g c = few_known g.P.Engine.stands_for g.A.Engine.stands_for g.A.Engine.plan_for _ _ _ _ _ _ _ _ _ c.self.invariant c.args.words.now c.in_ok-pair.pair
    c.in_ok-pair.ensures.named c.in_ok-pair.ensures.pair
    (unrefused_where g.P.Engine.stands_for g.A.Engine.stands_for g.A.Engine.plan_for _ _ _ _ _ _ _ _ _ c.self.invariant c.args.words.now c.in_ok-pair.pair
    c.in_ok-pair.ensures.named c.in_ok-pair.ensures.pair c.in_ok-pair.ensures.refusal c.can_come.result c.can_come.ensures.found c.if-not-can_come.false)

pub invariant_of-self : goal.invariant_of-self
invariant_of-self g c =
    refiled _ _ _ _ _ _ _ _ _ _ _ _ g.P.Engine.stands_for g.A.Engine.stands_for g.A.Engine.plan_for _ _ _ _ _ _ _ _
    (asked_kept g.P.Engine.stands_for g.A.Engine.stands_for g.A.Engine.plan_for _ _ _ _ _ _ _ _ _ c.self.invariant c.args.words.now c.in_ok-pair.pair
    c.in_ok-pair.ensures.named c.in_ok-pair.ensures.pair c.can_come.new.prices c.can_come.ensures.kept)

pub invariant_of-self-2 : goal.invariant_of-self-2
invariant_of-self-2 g c =
    refiled _ _ _ _ _ _ _ _ _ _ _ _ g.P.Engine.stands_for g.A.Engine.stands_for g.A.Engine.plan_for _ _ _ _ _ _ _ _
    (resolution_kept g.P.Engine.stands_for g.A.Engine.stands_for g.A.Engine.plan_for _ _ _ _ _ _ _ _ _ c.self.invariant c.args.words.now c.in_ok-pair.pair
    c.in_ok-pair.ensures.named c.in_ok-pair.ensures.pair
    (unrefused_where g.P.Engine.stands_for g.A.Engine.stands_for g.A.Engine.plan_for _ _ _ _ _ _ _ _ _ c.self.invariant c.args.words.now c.in_ok-pair.pair
    c.in_ok-pair.ensures.named c.in_ok-pair.ensures.pair c.in_ok-pair.ensures.refusal c.can_come.result c.can_come.ensures.found c.if-not-can_come.false)
    c.know.new.self c.know-2.new.self c.resolve.new.self c.resolve.ensures.history (record { trades = c.resolve.ensures.limit; users = c.resolve.ensures.users; transfers = c.resolve.ensures.transfers })
    (λ (m : Meaning) stands. c.know.ensures m (c.can_come.ensures.kept m stands)) c.know-2.ensures)

pub returns-in_err-pair-clause-answered : goal.returns-in_err-pair-clause-answered
returns-in_err-pair-clause-answered g c =
    answered_by_record _ c.args.self.now _ c.self.view_is (each_owns _ _ c.self.invariant.named)
    (Resolve c.args.words.now) tt
    c.in_err-pair.field-0.0 c.from_residual.result c.from_residual.ensures.1
    c.in_err-pair.ensures.refusal

pub returns-then-not-can_come-clause-answered : goal.returns-then-not-can_come-clause-answered
returns-then-not-can_come-clause-answered g c =
    rw (← c.self.view_is) (record {
      market = refl;
      allowed = λ sound. never_answered g.P.Engine.stands_for g.A.Engine.stands_for g.A.Engine.plan_for _ _ _ _ _ _ _ _ _ c.self.invariant c.args.words.now c.in_ok-pair.pair
          c.in_ok-pair.ensures.named c.in_ok-pair.ensures.pair c.in_ok-pair.ensures.refusal c.can_come.result c.can_come.ensures.found c.if-not-can_come.true;
      next = refused_stays (market_of c.self.inside.file) (standing_of c.self.inside.journal c.self.inside.users) (Resolve c.args.words.now) (Impossible c.args.words.now) tt;
      paid = λ u. refl;
      one_each = each_owns _ _ c.self.invariant.named;
      others = λ u name at differs. refl;
    })

pub returns-clause-answered : goal.returns-clause-answered
returns-clause-answered g c =
    rw (← c.self.view_is) (record {
      market = nothing_added (market_of c.self.inside.file)
          (standing_of c.self.inside.journal c.self.inside.users) (Resolve c.args.words.now)
          (Resolved c.args.words.now c.revision.result) tt;
      allowed = λ sound. resolution_allowed g.P.Engine.stands_for g.A.Engine.stands_for g.A.Engine.plan_for _ _ _ _ _ _ _ _ _ c.self.invariant c.args.words.now c.in_ok-pair.pair
          c.in_ok-pair.ensures.named c.in_ok-pair.ensures.pair
          (unrefused_where g.P.Engine.stands_for g.A.Engine.stands_for g.A.Engine.plan_for _ _ _ _ _ _ _ _ _ c.self.invariant c.args.words.now c.in_ok-pair.pair
          c.in_ok-pair.ensures.named c.in_ok-pair.ensures.pair c.in_ok-pair.ensures.refusal c.can_come.result c.can_come.ensures.found c.if-not-can_come.false)
          c.resolve.new.self c.resolve.ensures.history c.revision.result c.revision.ensures;
      next = resolution_next g.P.Engine.stands_for g.A.Engine.stands_for g.A.Engine.plan_for _ _ _ _ _ _ _ _ _ c.self.invariant c.args.words.now c.in_ok-pair.pair
          c.in_ok-pair.ensures.named c.in_ok-pair.ensures.pair
          (unrefused_where g.P.Engine.stands_for g.A.Engine.stands_for g.A.Engine.plan_for _ _ _ _ _ _ _ _ _ c.self.invariant c.args.words.now c.in_ok-pair.pair
          c.in_ok-pair.ensures.named c.in_ok-pair.ensures.pair c.in_ok-pair.ensures.refusal c.can_come.result c.can_come.ensures.found c.if-not-can_come.false)
          c.resolve.new.self c.resolve.ensures.history c.revision.result;
      paid = λ u. refl;
      one_each = each_owns_then c.self.inside.users c.self.inside.journal.history _
          (Resolves c.in_ok-pair.pair) c.self.invariant.named c.resolve.ensures.history refl;
      others = λ u name at differs. refl;
    })

pub returns-in_err-pair-clause-again : goal.returns-in_err-pair-clause-again
returns-in_err-pair-clause-again g c =
    rw (← c.self.view_is) (refused_again _ _ (Resolve c.args.words.now) c.in_err-pair.field-0.0
    c.from_residual.result c.from_residual.ensures.1
    (by_record (market_of c.self.inside.file) c.self.inside.journal.history
    (Resolve c.args.words.now) c.in_err-pair.field-0.0 c.in_err-pair.ensures.refusal))

pub returns-then-not-can_come-clause-again : goal.returns-then-not-can_come-clause-again
returns-then-not-can_come-clause-again g c =
    let refused = never_refused g.P.Engine.stands_for g.A.Engine.stands_for g.A.Engine.plan_for _ _
    _ _ _ _ _ _ _ c.self.invariant c.args.words.now c.in_ok-pair.pair
    c.in_ok-pair.ensures.named c.in_ok-pair.ensures.pair c.in_ok-pair.ensures.refusal
    c.can_come.result c.can_come.ensures.found c.if-not-can_come.true in
    rw (← c.self.view_is)
    (λ reply. left_by_refusal _ (Resolve c.args.words.now) reply (Impossible c.args.words.now) refused)

pub returns-clause-again : goal.returns-clause-again
returns-clause-again g c =
    let H = c.self.inside.journal.history in
    let none = unrefused_where g.P.Engine.stands_for g.A.Engine.stands_for g.A.Engine.plan_for _ _
    _ _ _ _ _ _ _ c.self.invariant c.args.words.now c.in_ok-pair.pair
    c.in_ok-pair.ensures.named c.in_ok-pair.ensures.pair c.in_ok-pair.ensures.refusal
    c.can_come.result c.can_come.ensures.found c.if-not-can_come.false in
    let next : c.revision.result ≡ revision H + 1 =
    c.revision.ensures ∙ ap (λ (K : List Entry). length K) c.resolve.ensures.history
    ∙ length_push H (Resolves c.in_ok-pair.pair) in
    rw (← c.self.view_is) (taken_back _ _ (Resolve c.args.words.now)
    (Resolved c.args.words.now c.revision.result)
    (Resolved c.args.words.now (revision H + 1))
    (ap (λ (n : ℕ). Resolved c.args.words.now n) next)
    (nothing_added (market_of c.self.inside.file)
    (standing_of c.self.inside.journal c.self.inside.users) (Resolve c.args.words.now)
    (Resolved c.args.words.now (revision H + 1)) tt)
    none refl
    (resolution_next g.P.Engine.stands_for g.A.Engine.stands_for g.A.Engine.plan_for _ _ _ _ _ _ _
    _ _ c.self.invariant c.args.words.now c.in_ok-pair.pair
    c.in_ok-pair.ensures.named c.in_ok-pair.ensures.pair none
    c.resolve.new.self c.resolve.ensures.history
    (revision H + 1))
    (λ u. refl))
