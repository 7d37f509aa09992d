use Rattle.std.proofs.Common.{◌≡◌, ℕ, zero, suc, ◌*◌, ◌/◌, ◌%◌, ◌^◌, ◌<◌, ◌≤◌, ◌∙◌, bit_and, bit_or, refl, arith}
use Rattle.std.specs.Int.Bits.{or_zero_r}
use Rattle.std.proofs.lemmas.Grind.{and_numeral}
use Rattle.std.proofs.lemmas.Nat.{and_le_r, le_or_r, or_lt}
use Rattle.std.proofs.Math.Nat.{mod-eq_of_lt}
use Rattle.mk_cell.proofs.minima.near.Goals as goal

-- the digit that would be lost
over_is : (n d : ℕ) → n < 18446744073709551616 → d ≤ 1 → bit_and (n / 9223372036854775808) d ≡ n * 2 ^ d / 18446744073709551616
over_is n zero h l = let z = and_le_r (n / 9223372036854775808) 0 in omega arith
over_is n (suc zero) h l = let z = and_numeral (n / 9223372036854775808) 0 refl in omega arith
over_is n (suc (suc d)) h l = absurd (omega arith)

or_ones : (n m : ℕ) → n < 18446744073709551616 → m ≡ 18446744073709551615 → bit_or n m ≡ 18446744073709551615
or_ones n m h e =
    let l = le_or_r n m in
    let k : bit_or n m < 2 ^ 64 = or_lt 64 n m (omega arith) (omega arith) in
    omega arith

or_none : (n m : ℕ) → n < 18446744073709551616 → m ≡ 0 → bit_or (n % 18446744073709551616) m ≡ n
or_none n m h e = rw e (or_zero_r (n % 18446744073709551616) ∙ mod-eq_of_lt h)

pub returns-clause-fits : goal.returns-clause-fits
returns-clause-fits c = λ h l.
    let o = over_is c.args.places c.args.distance (omega arith) h in
    let z = c.wrapping_neg.ensures in
    or_none (c.args.places * 2 ^ c.args.distance) c.wrapping_neg.result (omega arith) (omega arith)

twice_at_most : (n d : ℕ) → n < 18446744073709551616 → d ≤ 1 → n * 2 ^ d < 36893488147419103232
twice_at_most n zero h l = omega arith
twice_at_most n (suc zero) h l = omega arith
twice_at_most n (suc (suc d)) h l = absurd (omega arith)

pub returns-clause-over : goal.returns-clause-over
returns-clause-over c = λ h l.
    let o = over_is c.args.places c.args.distance (omega arith) h in
    let t = twice_at_most c.args.places c.args.distance (omega arith) h in
    let z = c.wrapping_neg.ensures in
    or_ones (c.args.places * 2 ^ c.args.distance % 18446744073709551616) c.wrapping_neg.result (omega arith) (omega arith)
