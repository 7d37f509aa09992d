use Rattle.mk_scaled.proofs.Order.{eq-keys}
use Rattle.mk_scaled.proofs.scaled.ScaledPartialEq.eq.Goals as goal

pub returns : goal.returns
returns c = rw (c.key.ensures.value, c.key-2.ensures.value) (eq-keys _ _ c.key.ensures.stored c.key-2.ensures.stored)
