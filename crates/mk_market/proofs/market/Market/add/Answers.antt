use Rattle.std.specs.Prelude.{◌≡◌, None}
use Rattle.std.proofs.Common.{sym, ap, ◌∙◌, subst}
use Rattle.mk_exact.specs.History.{revision}
use Rattle.mk_command.specs.declared.command.Command.TheVariants.{Add}
use Rattle.mk_rules.specs.Refusals.{first_refusal}
use Rattle.mk_market.specs.Trading.{Trading}
use Rattle.mk_market.proofs.Apart.{each_owns}
use Rattle.mk_market.proofs.Regrowing.{no_memory_answered, grown_answered}
use Rattle.mk_market.proofs.Replies.{answered_refused}
use Rattle.mk_market.proofs.market.Market.add.Goals as goal

pub returns-in_err-refuse_add : goal.returns-in_err-refuse_add
returns-in_err-refuse_add g c =
    answered_refused _ c.args.self.now _ c.self.view_is (each_owns _ _ c.self.invariant.named)
    _ tt c.in_err-refuse_add.field-0.0 c.from_residual.result c.from_residual.ensures.1
    c.in_err-refuse_add.ensures.refusal

pub returns-then-not-has_text : goal.returns-then-not-has_text
returns-then-not-has_text g c =
    rw (← c.self.view_is) (no_memory_answered _ (each_owns _ _ c.self.invariant.named) c.args.add.now c.in_ok-refuse_add.ensures.refusal)

pub grow-requires-clause-unrefused : goal.grow-requires-clause-unrefused
grow-requires-clause-unrefused g c =
    rw (← c.self.view_is) (sym c.in_ok-refuse_add.ensures.refusal)

pub returns-in_default : goal.returns-in_default
returns-in_default g c =
    rw c.in_default.ensures.err
    (rw (← c.self.view_is)
    (no_memory_answered _ (each_owns _ _ c.self.invariant.named) c.args.add.now c.in_ok-refuse_add.ensures.refusal))

pub returns : goal.returns
returns g c =
    grown_answered c.args.self.now c.grow.new.self c.args.add.now
    (c.has_text.ensures.0 c.if-not-has_text.false)
    (subst (λ (t : Trading _). None ≡ first_refusal t.market t.standing.history (Add c.args.add.now))
    c.self.view_is c.in_ok-refuse_add.ensures.refusal)
    c.in-Ok.ensures.ok c.revision.result
    (c.revision.ensures ∙ ap (λ (t : Trading _). revision t.standing.history) c.self-2.view_is)
