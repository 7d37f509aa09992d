-- The price of a question by the weights of its two sides.
use Rattle.std.proofs.Common.{◌≡◌, ℕ, ◌-◌, ◌*◌, ◌^◌, ◌≤◌, List, Some, None, refl, sym, subst, arith}
use Rattle.std.proofs.Math.Nat.{mul-le-mul_left, one-le-mul}
use Rattle.mk_net.specs.Asked.{Asked}
use Rattle.mk_net.specs.Bounds.{sharpness}
use Rattle.mk_net.specs.Network.{Variable, IsNetwork}
use Rattle.mk_states.specs.Events.{holds, with_target, without_target}
use Rattle.mk_exact.specs.History.{Entry}
use Rattle.mk_exact.specs.Prices.{CoversPrice, exact_price}
use Rattle.mk_exact.specs.Proper.{IsProper}
use Rattle.mk_exact.specs.Weight.{IsSmall, total}
use Rattle.mk_exact.proofs.Sharp.{sharp_enough}
use Rattle.mk_beliefs.proofs.Weighed.{cases_are_all}
use Rattle.mk_answers.specs.Results.{IsPriceFor}
use Rattle.mk_answers.proofs.Presence.{weighed_comes, absent_never}

-- nothing of something, and all of it
pub covers_nothing : (small : Type 0) (near w : ℕ) → 2 ≤ near → 1 ≤ w
    → CoversPrice small near (record { num = 0; den = w }) 0 0
covers_nothing small near w wide some =
    let whole : 1 ≤ w * near = one-le-mul some (omega arith) in
    let less : 1 ≤ w * (near - 1) = one-le-mul some (omega arith) in
    record {
      below = omega arith;
      above = omega arith;
      at_most_one = omega arith;
      low_near = omega (arith, whole);
      high_near = omega (arith, less);
      never = λ e. refl;
      sure = λ e. absurd (omega arith);
      floor = λ s. omega arith;
      ceiling = λ s. omega arith;
    }

pub covers_all : (small : Type 0) (near w : ℕ) → 2 ≤ near → 1 ≤ w
    → CoversPrice small near (record { num = w; den = w }) (10 ^ 10) (10 ^ 10)
covers_all small near w wide some =
    let whole : 1 ≤ w * near = one-le-mul some (omega arith) in
    let less : 1 ≤ w * (near - 1) = one-le-mul some (omega arith) in
    let most : w * (near - 1) ≤ w * near = mul-le-mul_left w (omega arith) in
    record {
      below = omega arith;
      above = omega arith;
      at_most_one = omega arith;
      low_near = omega (arith, whole, most);
      high_near = omega (arith, less, most);
      never = λ e. absurd (omega arith);
      sure = λ e. refl;
      floor = λ s. omega arith;
      ceiling = λ s. omega arith;
    }

module _ (network : List Variable) (H : List Entry) (most_trades : ℕ) (asked : Asked) where
  -- a price that is found
  pub priced : 1 ≤ total network H (holds asked.condition) → (price : ℕ × ℕ)
      → CoversPrice (IsSmall network H) (sharpness most_trades) (exact_price network H asked)
      price.0 price.1
      → IsPriceFor network H most_trades asked (Some price)
  priced some price covers = record {
    none = (λ e. absurd (cc), λ e. absurd (let comes = weighed_comes network H (holds asked.condition) some in cc));
    covers = covers;
  }

  pub unpriced : IsNetwork network → IsProper network H → total network H (with_target asked) ≡ 0
      → total network H (without_target asked) ≡ 0 → IsPriceFor network H most_trades asked None
  unpriced net proper no_hit no_miss =
      let all = cases_are_all network H asked in
      record { none = (λ e. absent_never network H (holds asked.condition) net proper (omega (arith, all, no_hit, no_miss)), λ e. refl); covers = tt }

  pub priced_never : total network H (with_target asked) ≡ 0
      → 1 ≤ total network H (without_target asked)
      → IsPriceFor network H most_trades asked (Some (0, 0))
  priced_never no_hit some_miss =
      let all = cases_are_all network H asked in
      let some : 1 ≤ total network H (holds asked.condition) = omega (arith, all) in
      priced some (0, 0)
      (subst (λ (n : ℕ). CoversPrice (IsSmall network H) (sharpness most_trades)
      (record { num = n; den = total network H (holds asked.condition) }) 0 0) (sym no_hit)
      (covers_nothing (IsSmall network H) (sharpness most_trades)
      (total network H (holds asked.condition)) (sharp_enough most_trades) some))

  pub priced_sure : 1 ≤ total network H (with_target asked)
      → total network H (without_target asked) ≡ 0
      → IsPriceFor network H most_trades asked (Some (10 ^ 10, 10 ^ 10))
  priced_sure some_hit no_miss =
      let all = cases_are_all network H asked in
      let some : 1 ≤ total network H (holds asked.condition) = omega (arith, all) in
      let same : total network H (holds asked.condition) ≡ total network H (with_target asked) = omega (arith, all, no_miss) in
      priced some (10 ^ 10, 10 ^ 10)
      (subst (λ (n : ℕ). CoversPrice (IsSmall network H) (sharpness most_trades)
      (record { num = n; den = total network H (holds asked.condition) }) (10 ^ 10)
      (10 ^ 10)) same
      (covers_all (IsSmall network H) (sharpness most_trades)
      (total network H (holds asked.condition)) (sharp_enough most_trades) some))
