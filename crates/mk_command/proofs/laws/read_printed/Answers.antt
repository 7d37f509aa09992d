use Rattle.std.proofs.Common.{◌∙◌}
use Rattle.mk_command.proofs.CommandLaws.{read_again}
use Rattle.mk_command.proofs.laws.read_printed.Goals as goal

pub returns : goal.returns
returns c = read_again _ c.args.command.now c.read_command.result c.requires
    (c.as_bytes.ensures.value ∙ c.deref.ensures.0 ∙ c.print_command.ensures) c.read_command.ensures.found c.read_command.ensures.none
