use Rattle.std.proofs.Common.{◌≡◌, ℕ, ◌+◌, ◌-◌, ◌%◌, ◌<◌, arith}
use Rattle.std.specs.Int.Bits.{bit_and}
use Rattle.mk_cell.proofs.Digits.{and_most_64}
use Rattle.mk_cell.proofs.cell.pick.Goals as goal

second_left : (a b m : ℕ) → a < 18446744073709551616 → b < 18446744073709551616 → m ≡ 18446744073709551615 → (a + bit_and ((b + (18446744073709551616 - a)) % 18446744073709551616) m) % 18446744073709551616 ≡ b
second_left a b m h l e =
    let k : (b + (18446744073709551616 - a)) % 18446744073709551616 < 18446744073709551616 = omega arith in
    let r = and_most_64 ((b + (18446744073709551616 - a)) % 18446744073709551616) m k e in
    rw r (omega arith)

pub returns-clause-second : goal.returns-clause-second
returns-clause-second c = λ h. second_left c.args.first c.args.second c.wrapping_neg.result (omega arith) (omega arith) (omega (arith, c.wrapping_neg.ensures))
