-- Bounds on what the entries of a history add up to cover what a user expects.
use Rattle.std.proofs.Common.{◌≡◌, ℕ, ℤ, suc, zero, ◌+◌, ◌-◌, ◌*◌, ◌^◌, ◌<◌, ◌≤◌, List, sum_by}
use Rattle.std.proofs.Common.{ap, subst, arith}
use Rattle.std.proofs.Math.Nat.{mul-le-mul_left, mul-le-mul_right, pow-suc, pow-zero, one-le-pow}
use Rattle.std.proofs.lemmas.Nat.{pow_pos}
use Rattle.mk_net.specs.Network.{Variable}
use Rattle.mk_states.specs.Events.{always}
use Rattle.mk_exact.specs.Factors.{trade_count}
use Rattle.mk_exact.specs.History.{Entry}
use Rattle.mk_exact.specs.Proper.{IsProper}
use Rattle.mk_states.specs.Ratios.{unit}
use Rattle.mk_exact.specs.Weight.{total}
use Rattle.mk_scaled.specs.Form.{bit_length}
use Rattle.mk_scaled.specs.inner.UniqueForm.{bit_length_bounds}
use Rattle.mk_expect.specs.Expectation.{AreBits, bits_held, bits_owed}
use Rattle.mk_expect.specs.Expectation.{above_zero, below_zero, CoversExpectation}
use Rattle.mk_expect.specs.declared.tally.Tally.{Tally}
use Rattle.mk_expect.specs.inner.Parts.{unit_bits, entry_gained, entry_owed}
use Rattle.mk_expect.specs.inner.Tallies.{IsTally, IsNarrow, ArePoints}
use Rattle.mk_expect.proofs.Histories.{held_is, own_trades}
use Rattle.mk_expect.specs.inner.Added.{AddsAll}
use Rattle.mk_expect.proofs.Means.{mean}
use Rattle.mk_expect.proofs.Powers.{power_times, double, bits_at_most}

-- what is bounded in parts of 2^54 is bounded in points
low_covers : (b z x y held owed lost gained lg mo : ℕ)
    → x * 2 ^ 54 + b * mo ≤ b * lg + y * 2 ^ 54
    → lg * z ≤ 2 ^ 34 * gained → 2 ^ 34 * lost ≤ mo * z → held + lost ≡ gained + owed * z
    → x * 2 ^ 20 * z + b * owed * z ≤ b * held + y * 2 ^ 20 * z
low_covers b z x y held owed lost gained lg mo points gain loss same =
    let p : (x * 2 ^ 54 + b * mo) * z ≤ (b * lg + y * 2 ^ 54) * z = mul-le-mul_right z points in
    let g : b * (lg * z) ≤ b * (2 ^ 34 * gained) = mul-le-mul_left b gain in
    let l : b * (2 ^ 34 * lost) ≤ b * (mo * z) = mul-le-mul_left b loss in
    let e : b * (held + lost) ≡ b * (gained + owed * z) = ap (λ n. b * n) same in
    omega (arith, p, g, l, e)

high_covers : (b z x y c held owed lost gained mg lo : ℕ)
    → b * mg + y * 2 ^ 54 ≤ x * 2 ^ 54 + b * lo
    → 2 ^ 34 * (gained + c * z) ≤ mg * z → lo * z ≤ 2 ^ 34 * lost → held + lost ≡ gained + owed * z
    → b * held + b * c * z + y * 2 ^ 20 * z ≤ x * 2 ^ 20 * z + b * owed * z
high_covers b z x y c held owed lost gained mg lo points gain loss same =
    let p : (b * mg + y * 2 ^ 54) * z ≤ (x * 2 ^ 54 + b * lo) * z = mul-le-mul_right z points in
    let g : b * (2 ^ 34 * (gained + c * z)) ≤ b * (mg * z) = mul-le-mul_left b gain in
    let l : b * (lo * z) ≤ b * (2 ^ 34 * lost) = mul-le-mul_left b loss in
    let e : b * (held + lost) ≡ b * (gained + owed * z) = ap (λ n. b * n) same in
    omega (arith, p, g, l, e)

narrow_covers : (b c x y mg mo lg lo : ℕ) → x * 2 ^ 54 + b * (lg + lo)
    < y * 2 ^ 54 + b * (mg + mo) + 2 ^ 55 → mg + mo ≤ lg + lo + c * 2 ^ 36
    → x * 2 ^ 18 ≤ y * 2 ^ 18 + 3 * 2 ^ 18 + b * c
narrow_covers b c x y mg mo lg lo points narrow =
    let n : b * (mg + mo) ≤ b * (lg + lo + c * 2 ^ 36) = mul-le-mul_left b narrow in
    omega (arith, points, n)

-- ---- bits

from_length : (n j : ℕ) → 1 ≤ n → n < 2 ^ j → 2 ^ j ≤ 2 * n
    → (2 ^ (j - 1) ≤ n) × (n < 2 ^ (j - 1 + 1))
from_length n zero some below above = absurd (let e = pow-zero 2 in omega (arith, e, some, below))
from_length n (suc j) some below above =
    let i : suc j - 1 ≡ j = omega arith in
    let k : j + 1 ≡ suc j = omega arith in
    let e : 2 ^ suc j ≡ 2 ^ j * 2 = pow-suc 2 j in
    rw i (omega (arith, e, above), rw k below)

-- the bits of a power
bits_of : ℕ → ℕ → ℕ
bits_of k n = bit_length (n ^ k) - 1

bits_exist : (k n : ℕ) → 1 ≤ n → (2 ^ bits_of k n ≤ n ^ k) × (n ^ k < 2 ^ (bits_of k n + 1))
unfolding bits_of
bits_exist k n some =
    let p = one-le-pow k n some in let b = bit_length_bounds (n ^ k) p in
    from_length (n ^ k) (bit_length (n ^ k)) p b.0 b.1

pub some_bits : ℕ → ℕ
some_bits = bits_of (2 ^ 20)

pub some_are_bits : AreBits some_bits
unfolding some_bits
some_are_bits n some =
    let e = bits_exist (2 ^ 20) n some in record { covered = e.0; greatest = e.1 }

-- those of a unit are 40
unit_power : (k l : ℕ) → 2 ^ l ≤ unit ^ k → unit ^ k < 2 ^ (l + 1) → l ≡ 40 * k
unit_power k l h g =
    let e : unit ^ k ≡ 2 ^ (40 * k) = power_times 2 40 k in
    let some = pow_pos (40 * k) in
    let d = double (40 * k) in
    let more : 2 ^ (40 * k) < 2 ^ (40 * k + 1) = omega (arith, d, some) in
    let a : l ≤ 40 * k =
    bits_at_most (unit ^ k) (2 ^ (40 * k)) l (40 * k) h (omega (arith, e)) more in
    let b : 40 * k ≤ l = bits_at_most (2 ^ (40 * k)) (unit ^ k) (40 * k) l (omega arith)
    (omega (arith, e)) g in
    omega (arith, a, b)

unit_has : (bits : ℕ → ℕ) → AreBits bits → bits unit ≡ unit_bits
unit_has bits are =
    let h = are unit (omega arith) in unit_power (2 ^ 20) (bits unit) h.covered h.greatest

-- ---- what a user expects

pub covers : (network : List Variable) (H : List Entry) (b u : ℕ) (low high : ℤ) (t : Tally)
    → IsProper network H
    → ((bits : ℕ → ℕ) → AreBits bits → IsTally t (total network H always)
    (sum_by (entry_gained network H bits u) H) (trade_count H u * total network H always)
    (sum_by (entry_owed network H u) H))
    → IsNarrow t (trade_count H u * 2 ^ 36) → ArePoints t b low high
    → CoversExpectation network H b u low high
covers network H b u low high t proper tallied narrow points =
    let bits = some_bits in let are = some_are_bits in
    let z = total network H always in
    let held = mean network H (bits_held bits H u) in
    let gained = sum_by (entry_gained network H bits u) H in
    let lost = sum_by (entry_owed network H u) H in
    let same : held + lost ≡ gained + bits_owed H u * z = held_is u network H bits
    (unit_has bits are) proper in
    let tally = tallied bits are in
    record {
      bits = bits;
      are_bits = are;
      covers = record {
        below = low_covers b z (above_zero low) (below_zero low) held (bits_owed H u) lost gained
            t.least_gained t.most_owed points.below tally.least_gained tally.most_owed same;
        above = high_covers b z (above_zero high) (below_zero high) (trade_count H u) held
            (bits_owed H u) lost gained t.most_gained t.least_owed points.above tally.most_gained
            tally.least_owed same;
        narrow = narrow_covers b (trade_count H u) (above_zero high + below_zero low)
            (above_zero low + below_zero high) t.most_gained t.most_owed t.least_gained
            t.least_owed points.narrow narrow.narrow;
      };
    }

-- by what the entries of a history add up to
pub covers_all : (network : List Variable) (H : List Entry) (b u : ℕ) (low high : ℤ) (t : Tally)
    → IsProper network H → AddsAll network H u t → ArePoints t b low high
    → CoversExpectation network H b u low high
covers_all network H b u low high t proper adds points =
    let own = own_trades u H in
    covers network H b u low high t proper
    (λ bits are. subst (λ n. IsTally t (total network H always)
    (sum_by (entry_gained network H bits u) H) (n * total network H always)
    (sum_by (entry_owed network H u) H)) own (adds bits are).tally)
    (subst (λ n. IsNarrow t (n * 2 ^ 36)) own (adds some_bits some_are_bits).narrow) points
