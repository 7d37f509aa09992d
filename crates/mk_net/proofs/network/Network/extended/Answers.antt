use Rattle.std.proofs.Common.{◌≡◌, List, [], ◌∷◌, ◌++◌, ap, subst, sym, ◌∙◌}
use Rattle.mk_net.specs.Network.{Variable, IsNetwork}
use Rattle.mk_net.specs.Stored.{variables_of}
use Rattle.mk_net.specs.Zeros.{HasNoZeros}
use Rattle.mk_net.specs.Additions.{variable_of_addition}
use Rattle.mk_net.proofs.Copied.{copied_variables, inserted_variable}
use Rattle.mk_net.proofs.Behind.{extended_is_network, extended_has_no_zeros}
use Rattle.mk_net.proofs.network.Network.extended.Goals as goal

net : (c : goal.In_ok-zeros) → IsNetwork c.args.self.now
net c = rw c.self.view_is at c.self.invariant.network

whole : (c : goal.In_ok-zeros) →
    variables_of c.insert.new.self.entries ≡ c.args.self.now
    ++ variable_of_addition c.args.addition.now ∷ []
whole c =
    ap variables_of c.in_ok-insert.ensures.entries
    ∙ inserted_variable c.in_ok-variables.variables.entries c.args.self.now
    c.args.addition.now.variable c.in_ok-added.added (variable_of_addition c.args.addition.now)
    (copied_variables c.self.inside.variables.entries c.in_ok-variables.variables.entries
    c.in_ok-variables.ensures.cases ∙ c.self.view_is)
    c.requires.untaken c.in_ok-added.ensures.variable

longer : (c : goal.In_ok-zeros) → IsNetwork (variables_of c.insert.new.self.entries)
longer c = rw (whole c)
    (extended_is_network c.args.self.now c.args.addition.now (net c) c.requires
    c.bytes.ensures.name c.in_ok-added.ensures.named c.in_ok-added.ensures.few_values
    c.in_ok-added.ensures.few_parents)

pub invariant_of-result : goal.invariant_of-result
invariant_of-result c = record { network = longer c; zeros = c.in_ok-zeros.ensures.zeros }

pub returns-clause-longer : goal.returns-clause-longer
returns-clause-longer c = whole c

pub returns-clause-network : goal.returns-clause-network
returns-clause-network c = longer c

pub returns-clause-no_zeros : goal.returns-clause-no_zeros
returns-clause-no_zeros c none some = subst (λ (n : List Variable). HasNoZeros n) (sym (whole c))
    (extended_has_no_zeros c.args.self.now c.args.addition.now (net c) c.requires none some)
