use Rattle.std.proofs.Common.{◌∙◌, sym}
use Rattle.mk_net.proofs.Named.{position_stored}
use Rattle.mk_net.proofs.network.Network.find_variable.Goals as goal

pub returns-in_err-number-clause-first : goal.returns-in_err-number-clause-first
returns-in_err-number-clause-first c =
    c.from_residual.ensures ∙ sym (position_stored c.self.inside.variables.entries _ c.self.view_is c.args.name.now _ c.in_err-number.ensures.index)

pub returns-clause-first : goal.returns-clause-first
returns-clause-first c = sym (position_stored c.self.inside.variables.entries _ c.self.view_is c.args.name.now _ c.in_ok-number.ensures.index)
