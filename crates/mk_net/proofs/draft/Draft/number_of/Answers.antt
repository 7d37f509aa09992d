use Rattle.std.proofs.Common.{◌∙◌}
use Rattle.mk_net.proofs.Numbers.{number_found, number_missed}
use Rattle.mk_net.proofs.draft.Draft.number_of.Goals as goal

pub returns-in-Some-clause-number : goal.returns-in-Some-clause-number
returns-in-Some-clause-number c = number_found c.args.self.now c.args.name.now c.in-Some.number (rw (← c.deref.ensures.value) c.in-Some.ensures.first)

pub returns-in-None-clause-number : goal.returns-in-None-clause-number
returns-in-None-clause-number c = c.len.ensures ∙ number_missed c.args.self.now c.args.name.now (rw (← c.deref.ensures.value) c.in-None.ensures.first)
