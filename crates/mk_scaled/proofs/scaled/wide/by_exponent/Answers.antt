use Rattle.std.proofs.Common.{arith}
use Rattle.mk_scaled.specs.inner.UniqueForm.{exponent-form}
use Rattle.mk_scaled.proofs.scaled.wide.by_exponent.Goals as goal

pub returns-then-a-b-clause-order : goal.returns-then-a-b-clause-order
returns-then-a-b-clause-order c =
    rw (← c.a.view_is, ← c.b.view_is, exponent-form _ _ c.a.invariant, exponent-form _ _ c.b.invariant) (omega arith)

pub returns-else-a-b-clause-order : goal.returns-else-a-b-clause-order
returns-else-a-b-clause-order c =
    rw (← c.a.view_is, ← c.b.view_is, exponent-form _ _ c.a.invariant, exponent-form _ _ c.b.invariant) (omega arith)
