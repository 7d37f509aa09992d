use Rattle.mk_scaled.specs.inner.UniqueForm.{stored_form, stored_mantissa}
use Rattle.mk_scaled.proofs.scaled.Scaled.mantissa.Goals as goal

pub returns-clause-value : goal.returns-clause-value
returns-clause-value c = stored_mantissa _ _ _ c.self.invariant c.self.view_is

pub returns-clause-stored : goal.returns-clause-stored
returns-clause-stored c = stored_form _ _ _ c.self.invariant c.self.view_is
