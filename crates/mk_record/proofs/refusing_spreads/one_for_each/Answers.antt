use Rattle.std.proofs.Common.{◌∙◌}
use Rattle.mk_record.proofs.SpreadRefusals.{numbers_are}
use Rattle.mk_record.proofs.refusing_spreads.one_for_each.Goals as goal

pub returns : goal.returns
returns c name v named =
    c.refuse_if.ensures ∙ numbers_are c.args.net.now name c.args.variable v c.args.to.now c.values.result named c.requires.variable c.values.ensures
