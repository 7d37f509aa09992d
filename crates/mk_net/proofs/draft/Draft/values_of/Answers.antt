use Rattle.std.proofs.Common.{◌∙◌}
use Rattle.mk_net.proofs.Choices.{values_at}
use Rattle.mk_net.proofs.draft.Draft.values_of.Goals as goal

pub returns-in-Some-clause-count : goal.returns-in-Some-clause-count
returns-in-Some-clause-count c =
    c.len.ensures ∙ values_at c.args.self.now c.args.name.now c.number_of.result c.in-Some.variable.now c.number_of.ensures.number
    (rw c.deref.ensures.value at (c.in-Some.ensures.lookup.3.0)) (rw c.deref.ensures.value at (c.in-Some.ensures.lookup.1))
