use Rattle.std.proofs.Common.{◌≡◌, sym, ap, ◌∙◌}
use Rattle.mk_reply.specs.declared.refusal.Refusal.{Refusal}
use Rattle.mk_reply.specs.declared.reply.Reply.TheVariants.{Refused}
use Rattle.mk_verify.proofs.Same.{same_refusal, other_refusal}
use Rattle.mk_verify.proofs.refused.judge_refused.Goals as goal

pub returns-then-eq : goal.returns-then-eq
returns-then-eq c = c.in-Refused.is ∙ ap (λ (r : Refusal). Refused r)
    (same_refusal c.in-Refused.told c.args.why.now (sym c.if-eq.ensures))

pub returns-else-eq : goal.returns-else-eq
returns-else-eq c refused = other_refusal c.in-Refused.told c.args.why.now (sym c.if-eq.ensures)
    (let e : Refused c.in-Refused.told ≡ Refused c.args.why.now = sym c.in-Refused.is ∙ refused in cc)
