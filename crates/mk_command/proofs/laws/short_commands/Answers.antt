use Rattle.mk_command.proofs.LengthLaws.{all_short, others_shorter}
use Rattle.mk_command.proofs.laws.short_commands.Goals as goal

pub returns-clause-most : goal.returns-clause-most
returns-clause-most c = all_short

pub returns-clause-others : goal.returns-clause-others
returns-clause-others c = others_shorter
