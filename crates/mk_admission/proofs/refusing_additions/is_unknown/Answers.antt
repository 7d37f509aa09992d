use Rattle.mk_admission.proofs.Numbered.{unknown_is}
use Rattle.mk_admission.proofs.refusing_additions.is_unknown.Goals as goal

pub returns : goal.returns
returns c =
    unknown_is c.args.net.now c.args.name.now c.find_variable.result c.find_variable.ensures.first
    c.is_none.result c.is_none.ensures
