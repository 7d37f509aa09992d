use Rattle.mk_text.proofs.ReadingLaws.{whole_one}
use Rattle.mk_command.proofs.CommandLaws.{form_tells}
use Rattle.mk_command.proofs.laws.one_command_each.Goals as goal

pub returns : goal.returns
returns c = whole_one form_tells
