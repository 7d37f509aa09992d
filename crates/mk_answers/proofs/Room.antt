-- How many steps there is room for behind an answer, and how few bits a user's gain has.
use Rattle.std.proofs.Common.{◌≡◌, ℕ, suc, ◌+◌, ◌-◌, ◌*◌, ◌^◌, ◌≤◌, Bool, true, false, cond}
use Rattle.std.proofs.Common.{List, length, refl, arith, le_refl, leb-true}
use Rattle.std.specs.Prelude.{nat_le}
use Rattle.std.proofs.Math.Nat.{mul-le-mul_left}
use Rattle.mk_net.specs.Bounds.{max_variables, max_market_trades, max_values, usual_trades}
use Rattle.mk_net.specs.Bounds.{grade_room}
use Rattle.mk_net.specs.Network.{Variable}
use Rattle.mk_exact.specs.History.{Entry, trades}
use Rattle.mk_exact.proofs.Sharp.{at_room}
use Rattle.mk_scaled.specs.Near.{IsNear, near_width}
use Rattle.mk_scaled.specs.Range.{two_to, two_to-small, two_to-suc}
use Rattle.mk_tree.specs.Given.{GivenTree}
use Rattle.mk_enclose.specs.declared.enclosure.Enclosure.{Enclosure}
use Rattle.mk_enclose.specs.Enclosure.{lower_of, upper_of, Encloses, HasGrade, widest_grade}
use Rattle.mk_engine.specs.Meaning.{max_grade}
use Rattle.mk_beliefs.specs.Meanings.{weights_of, gains_of}
use Rattle.mk_beliefs.proofs.Grown.{factors_by_trades}
use Rattle.mk_answers.specs.Open.{IsOpen}

-- ---- steps

-- what there is room for is no more than the widest grade
pub room_at_most : (most_trades : ℕ) → grade_room most_trades ≤ widest_grade
room_at_most = at_room (λ (near room : ℕ). room ≤ widest_grade) (omega arith) (omega arith)

pub room_positive : (most_trades : ℕ) → 1 ≤ grade_room most_trades
room_positive = at_room (λ (near room : ℕ). 1 ≤ room) (omega arith) (omega arith)

-- one step for each trade, and for each variable, those of an engine and those of the other values,
-- and one more
pub within_room : (most_trades count : ℕ) → count ≤ most_trades → count ≤ max_market_trades
    → max_variables + count + max_grade + max_values + 1 ≤ grade_room most_trades
within_room most_trades count few many = either (nat_le most_trades usual_trades) refl
  where
    either : (b : Bool) → nat_le most_trades usual_trades ≡ b
        → max_variables + count + max_grade + max_values + 1 ≤ cond b (2 ^ 17) (2 ^ 20 - 1)
    either true e =
        let usual : most_trades ≤ usual_trades = leb-true most_trades usual_trades e in omega arith
    either false e = omega arith

-- steps of as many factors as an engine has
few_steps : (factors count room : ℕ) → factors ≤ max_variables + count
    → max_variables + count + max_grade + max_values + 1 ≤ room
    → factors + max_grade + max_values ≤ room - 1
few_steps factors count room few fits = omega (arith, few, fits)

module _ (network : List Variable) (tree : GivenTree) (H : List Entry)
    (is_open : IsOpen network tree H) (most_trades : ℕ)
    (fit : length (trades H) ≤ most_trades) where
  -- a belief of the weights, and of a user's gains, leaves room for a step more
  pub weights_room : length (weights_of network tree H).factors + max_grade + max_values
      ≤ grade_room most_trades - 1
  weights_room = few_steps (length (weights_of network tree H).factors) (length (trades H))
      (grade_room most_trades) (factors_by_trades network tree H 0 is_open.legal).0
      (within_room most_trades (length (trades H)) fit is_open.within.few_trades)

  pub gains_room : (u : ℕ) → length (gains_of network tree H u).factors + max_grade + max_values
      ≤ grade_room most_trades - 1
  gains_room u = few_steps (length (gains_of network tree H u).factors) (length (trades H))
      (grade_room most_trades) (factors_by_trades network tree H u is_open.legal).1
      (within_room most_trades (length (trades H)) fit is_open.within.few_trades)

-- ---- bits

doubled : (low high grade : ℕ) → grade ≤ widest_grade → IsNear low high grade → high ≤ 2 * low
doubled low high grade small near =
    let w : high * (2 ^ 60 - grade) ≤ low * 2 ^ 60 = near_width low high grade near in
    let m : high * 2 ^ 59 ≤ high * (2 ^ 60 - grade) = mul-le-mul_left high (omega arith) in
    omega arith

-- the upper end about a number of few bits has at most one bit more
pub upper_few : (e : Enclosure) (n grade bits : ℕ) → grade ≤ widest_grade → HasGrade e grade
    → Encloses e n → n ≤ 2 ^ bits → upper_of e ≤ two_to (bits + 1)
upper_few e n grade bits small has is few =
    let double = doubled (lower_of e) (upper_of e) grade small has.near in
    let own : 2 ^ bits ≤ two_to bits = two_to-small bits bits (le_refl bits) in
    let more : two_to (suc bits) ≡ two_to bits + two_to bits = two_to-suc bits in
    let same : bits + 1 ≡ suc bits = omega arith in
    rw same (omega (arith, double, own, more, is.lower, few))
