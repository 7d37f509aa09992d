use Rattle.mk_rules.proofs.laws.replies_have_texts.Goals as goal
use Rattle.mk_rules.proofs.Texts.{replies_have_texts}

pub returns : goal.returns
returns c = replies_have_texts
