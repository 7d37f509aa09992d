use Rattle.std.proofs.Common.{◌≡◌, ◌*◌, ◌^◌, ◌%◌, arith}
use Rattle.std.proofs.Math.Nat.{mod-eq_of_lt}
use Rattle.mk_scaled.specs.inner.UniqueForm.{stored_form, stored_mantissa, stored_exponent}
use Rattle.mk_scaled.proofs.scaled.Scaled.key.Goals as goal

pub returns-clause-value : goal.returns-clause-value
returns-clause-value c =
    let i = c.self.invariant in
    let m = stored_mantissa _ _ _ i c.self.view_is in
    let e = stored_exponent _ _ _ i c.self.view_is in
    let s = i.small in
    let k : c.self.inside.exponent * 2 ^ 64 % 2 ^ 128 ≡ c.self.inside.exponent * 2 ^ 64 = mod-eq_of_lt (omega arith) in
    rw (← m, ← e) (omega arith)

pub returns-clause-stored : goal.returns-clause-stored
returns-clause-stored c = stored_form _ _ _ c.self.invariant c.self.view_is
