use Rattle.std.proofs.Common.{◌+◌, ◌*◌, ◌^◌, ◌≤◌, arith}
use Rattle.std.proofs.Math.Nat.{mul-le-mul_right}
use Rattle.mk_enclose.specs.Factor.{paid_in, taken_out}
use Rattle.mk_cash.specs.inner.Within.{powers_in_range}
use Rattle.mk_quote_trials.proofs.cash.worth.Goals as goal

pub cash-requires-clause-range : goal.cash-requires-clause-range
cash-requires-clause-range g c =
    let f = c.args.factor.now in
    let b = c.args.points_per_bit in
    let i : b * (paid_in f.net + 2 ^ 23) ≤ 1000000 * (paid_in f.net + 2 ^ 23) = mul-le-mul_right (paid_in f.net + 2 ^ 23) (omega arith) in
    let o : b * (40 * f.trades + taken_out f.net) ≤ 1000000 * (40 * f.trades + taken_out f.net) = mul-le-mul_right (40 * f.trades + taken_out f.net) (omega arith) in
    powers_in_range f b (2 ^ 23) (omega arith) (omega arith) (omega arith)
