use Rattle.mk_scaled.proofs.Widened.{IsFull-product, StandsFor-product}
use Rattle.mk_scaled.proofs.scaled.wide.Wide.product.Goals as goal

pub returns-clause-full : goal.returns-clause-full
returns-clause-full c = IsFull-product _ _ _ _ c.a.invariant c.b.invariant (rw (c.a.view_is, c.b.view_is) c.requires)

pub returns-clause-exact : goal.returns-clause-exact
returns-clause-exact c =
    rw (← c.a.view_is, ← c.b.view_is) (StandsFor-product c.a.inside.mantissa c.a.inside.exponent c.b.inside.mantissa c.b.inside.exponent)
