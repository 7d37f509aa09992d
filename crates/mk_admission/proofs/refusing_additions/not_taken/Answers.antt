use Rattle.std.proofs.Common.{sym, ap, ◌∙◌, Bool}
use Rattle.mk_net.specs.Firsts.{fault_if}
use Rattle.mk_reply.specs.declared.refusal.Refusal.TheVariants.{Taken}
use Rattle.mk_admission.proofs.Numbered.{known_is}
use Rattle.mk_admission.proofs.refusing_additions.not_taken.Goals as goal

pub returns : goal.returns
returns c =
    c.refuse_if.ensures
    ∙ ap (λ (b : Bool). fault_if b (Taken c.args.name.now))
    (c.is_some.ensures ∙ sym (known_is c.args.net.now c.args.name.now c.find_variable.result
    c.find_variable.ensures.first))
