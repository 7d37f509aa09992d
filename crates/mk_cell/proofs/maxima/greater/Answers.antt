use Rattle.std.proofs.Common.{◌≡◌, ℕ, max, arith}
use Rattle.mk_cell.proofs.GreaterCells.{greater_stands}
use Rattle.mk_cell.proofs.maxima.greater.Goals as goal

swapped : (v w : ℕ) → max w v ≡ max v w
swapped v w = omega arith

pub returns-then-rank : goal.returns-then-rank
returns-then-rank c = λ k v w n a b.
    rw (← swapped v w)
    (greater_stands k c.args.b.digits c.args.b.exponent c.args.a.digits c.args.a.exponent w v n
    (omega (arith, c)) b a)

pub returns-else-rank : goal.returns-else-rank
returns-else-rank c = λ k v w n a b.
    greater_stands k c.args.a.digits c.args.a.exponent c.args.b.digits c.args.b.exponent v w n
    (omega (arith, c)) a b
