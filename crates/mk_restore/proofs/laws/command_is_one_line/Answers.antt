use Rattle.mk_restore.proofs.laws.command_is_one_line.Goals as goal
use Rattle.mk_restore.proofs.Records.{command_is_one_line}

pub returns : goal.returns
returns c = command_is_one_line
