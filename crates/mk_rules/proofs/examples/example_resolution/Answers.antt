use Rattle.std.proofs.Common.{refl}
use Rattle.mk_rules.proofs.examples.example_resolution.Goals as goal

pub returns : goal.returns
returns c = record { allowed = refl; not_now = λ h. cc; appended = refl }
