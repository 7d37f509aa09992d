use Rattle.mk_scaled.specs.inner.UniqueForm.{stored_form, stored_exponent}
use Rattle.mk_scaled.proofs.scaled.Scaled.exponent.Goals as goal

pub returns-clause-value : goal.returns-clause-value
returns-clause-value c = stored_exponent _ _ _ c.self.invariant c.self.view_is

pub returns-clause-stored : goal.returns-clause-stored
returns-clause-stored c = stored_form _ _ _ c.self.invariant c.self.view_is
