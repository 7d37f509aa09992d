use Rattle.std.proofs.Common.{List, ℕ, Some, sym, ap, ◌∙◌, arith}
use Rattle.mk_reply.specs.declared.refusal.Refusal.TheVariants.{Unresolved}
use Rattle.mk_record.proofs.Refusing.{open_kept, open_found, open_none}
use Rattle.mk_record.proofs.refusals.all_resolved.Goals as goal

pub returns-then-not-is_resolved : goal.returns-then-not-is_resolved
returns-then-not-is_resolved c =
    ap (λ (name : List ℕ). Some (Unresolved name)) c.name.ensures
    ∙ sym (open_found c.args.journal.now.history c.args.net.now c.loop-variable.variable (omega (arith, c.loop-variable-test.true, c.variables-variable-end.ensures.count))
    (sym c.is_resolved.ensures ∙ c.if-not-is_resolved.true) c.loop-variable.invariant)

pub loop-variable-preserved : goal.loop-variable-preserved
loop-variable-preserved c =
    open_kept c.args.journal.now.history c.args.net.now c.loop-variable.variable (omega (arith, c.loop-variable-test.true, c.variables-variable-end.ensures.count))
    (sym c.is_resolved.ensures ∙ c.if-not-is_resolved.false) c.loop-variable.invariant

pub returns : goal.returns
returns c =
    sym (open_none c.args.journal.now.history c.args.net.now c.loop-variable.variable (omega (arith, c.loop-variable-test.false, c.variables-variable-end.ensures.count)) c.loop-variable.invariant)
