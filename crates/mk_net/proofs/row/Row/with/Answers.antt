use Rattle.std.specs.Prelude.{◌≡◌, ℕ, suc, ◌+◌, slice_set}
use Rattle.std.proofs.Common.{rules, arith, subst}
use Rattle.mk_net.specs.inner.KeptRows.{IsKeptRow}
use Rattle.mk_net.proofs.KeptRows.{row_longer}
use Rattle.mk_net.proofs.row.Row.with.Goals as goal

next : (n : ℕ) → suc n ≡ n + 1
next n = omega arith

pub invariant_of-result : goal.invariant_of-result
invariant_of-result c =
    subst (λ (n : ℕ). IsKeptRow (slice_set c.self.inside.numbers c.self.inside.size c.args.number)
    n)
    (next c.self.inside.size)
    (row_longer c.self.inside.numbers c.self.inside.size c.args.number c.self.invariant
    (search (rules, arith)))
