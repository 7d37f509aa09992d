-- What all users gain together, and what a settlement costs.
use Rattle.std.proofs.Common.{◌≡◌, ℕ, suc, zero, ◌+◌, ◌*◌, ◌^◌, ◌<◌, ◌≤◌, List, [], ◌∷◌, length, get_or, All, sum, sum_by, refl, sym, ap, ap₂, ◌∙◌, subst₂, arith, le_trans, le_refl, mul-le-mul, mul-le-mul_left, mul-le-mul_right, le_of_mul-le-mul_right, pow-add}
use Rattle.std.proofs.Math.Path.{fun_ext}
use Rattle.std.proofs.Math.Nat.{pow-le-pow_left, pow-le-pow_right, pow-zero, pow-suc, one-le-pow}
use Rattle.std.specs.List.{AllByRecursion}
use Rattle.std.proofs.lemmas.Nat.{mul-pow}
use Rattle.std.proofs.lemmas.List.Sums.{get_or-le-sum_by, sum-map, sum_by-cons}
use Rattle.std.proofs.lemmas.List.FromFn.{fill_by_all}
use Rattle.mk_net.specs.Network.{Variable}
use Rattle.mk_states.specs.States.{numbers_below, product_by}
use Rattle.mk_states.specs.InitialWeight.{initial_weight, initial_total}
use Rattle.mk_states.specs.Events.{always}
use Rattle.mk_states.specs.Ratios.{unit, ratio_at}
use Rattle.mk_exact.specs.History.{Entry, UserTrade, users, trades, trades_of, deposited, withdrawn}
use Rattle.mk_exact.specs.Weight.{weight, possible_states}
use Rattle.mk_exact.specs.Factors.{Fraction, gain, trade_count, factor}
use Rattle.mk_exact.specs.Sound.{IsSound}
use Rattle.mk_exact.specs.Proper.{IsTradeOf, IsProper}
use Rattle.mk_exact.specs.Laws.{GainsAreBounded, IsWithinCash, ArePayments, LossIsBounded}
use Rattle.mk_states.proofs.Sums.{products_are_plus, plus_over-plus, plus_over_by_key, product_by-same, product_by_pos, each_weaker, each_always, each_number}

module _ (network : List Variable) (H : List Entry) (proper : IsProper network H) where
  joined : AllByRecursion (λ (t : UserTrade). t.user < length (users H)) (trades H)
  joined = each_weaker (IsTradeOf network (length (users H))) (λ (t : UserTrade). t.user < length (users H)) (λ t h. h.user) (trades H) proper.trades_fit

  pub gains_product : (s : List ℕ) → product_by (λ u. gain H u s) (numbers_below (length (users H))) ≡ product_by (λ (t : UserTrade). ratio_at t.ratio s) (trades H)
  gains_product s = plus_over_by_key ◌*◌ 1 products_are_plus (λ (t : UserTrade). ratio_at t.ratio s) (λ (t : UserTrade). t.user) (length (users H)) (trades H) joined

  pub units_product : product_by (λ u. unit ^ trade_count H u) (numbers_below (length (users H))) ≡ unit ^ length (trades H)
  units_product =
      ap (λ (f : ℕ → ℕ). product_by f (numbers_below (length (users H)))) (fun_ext (λ u. sym (product_by-same unit (trades_of H u))))
      ∙ plus_over_by_key ◌*◌ 1 products_are_plus (λ (t : UserTrade). unit) (λ (t : UserTrade). t.user) (length (users H)) (trades H) joined
      ∙ product_by-same unit (trades H)

pub gains_bounded : (network : List Variable) (H : List Entry) → IsSound network H → IsProper network H → All (GainsAreBounded network H) (possible_states network H always)
gains_bounded network H sound proper k d h = record {
  bound = rw (gains_product network H proper (get_or (possible_states network H always) k d), units_product network H proper)
      (le_trans (get_or-le-sum_by (weight network H) (possible_states network H always) k d h) sound.bounded);
}

-- products over users
product_by-times : {X : Type 0} (f g : X → ℕ) (xs : List X) → product_by (λ x. f x * g x) xs ≡ product_by f xs * product_by g xs
product_by-times f g xs = plus_over-plus ◌*◌ 1 products_are_plus f g xs

product_by-pow : {X : Type 0} (f : X → ℕ) (b : ℕ) (xs : List X) → product_by (λ x. f x ^ b) xs ≡ product_by f xs ^ b
product_by-pow f b [] = one b
  where
    one : (b : ℕ) → 1 ≡ 1 ^ b
    one zero = refl
    one (suc b) = one b ∙ sym (pow-suc 1 b ∙ omega arith)
product_by-pow f b (x ∷ xs) = ap (λ n. f x ^ b * n) (product_by-pow f b xs) ∙ sym (mul-pow (f x) (product_by f xs) b)

product_of_powers : {X : Type 0} (f : X → ℕ) (xs : List X) → product_by (λ x. 2 ^ f x) xs ≡ 2 ^ sum_by f xs
product_of_powers f [] = refl
product_of_powers f (x ∷ xs) = ap (λ n. 2 ^ f x * n) (product_of_powers f xs) ∙ sym (pow-add 2 (f x) (sum_by f xs)) ∙ ap (λ n. 2 ^ n) (sym (sum_by-cons f x xs))

product_by-le : {X : Type 0} (f g : X → ℕ) (xs : List X) → AllByRecursion (λ x. f x ≤ g x) xs → product_by f xs ≤ product_by g xs
product_by-le f g [] h = le_refl 1
product_by-le f g (x ∷ xs) h = mul-le-mul h.0 (product_by-le f g xs h.1)

pow_of_pow : (n b : ℕ) → (2 ^ n) ^ b ≡ 2 ^ (b * n)
pow_of_pow n zero = let e : 0 ≡ 0 * n = omega arith in pow-zero (2 ^ n) ∙ ap (λ k. 2 ^ k) e
pow_of_pow n (suc b) = let e : b * n + n ≡ suc b * n = omega arith in pow-suc (2 ^ n) b ∙ ap (λ k. k * 2 ^ n) (pow_of_pow n b) ∙ sym (pow-add 2 (b * n) n) ∙ ap (λ k. 2 ^ k) e

pub within_covered : (q : Fraction) (b paid : ℕ) → IsWithinCash q b paid → 2 ^ paid * q.den ^ b ≤ q.num ^ b
within_covered q b paid h = le_trans (mul-le-mul_right (q.den ^ b) at_most) h.is_cash.covered
  where
    at_most : 2 ^ paid ≤ 2 ^ h.cash
    at_most = let p : paid ≤ h.cash = h.at_most in pow-le-pow_right {n = 2} (omega arith) p

-- the sum over users, of the inequality of each
joined_up : (us : List ℕ) (b : ℕ) (p w d c g : ℕ → ℕ) → AllByRecursion (λ u. 2 ^ p u * (2 ^ w u * c u) ^ b ≤ (2 ^ d u * g u) ^ b) us
    → 2 ^ sum_by p us * (2 ^ sum_by w us * product_by c us) ^ b ≤ (2 ^ sum_by d us * product_by g us) ^ b
joined_up us b p w d c g h = subst₂ (λ (x y : ℕ). x ≤ y) left right (product_by-le (λ u. 2 ^ p u * (2 ^ w u * c u) ^ b) (λ u. (2 ^ d u * g u) ^ b) us h)
  where
    left : product_by (λ u. 2 ^ p u * (2 ^ w u * c u) ^ b) us ≡ 2 ^ sum_by p us * (2 ^ sum_by w us * product_by c us) ^ b
    left = product_by-times (λ u. 2 ^ p u) (λ u. (2 ^ w u * c u) ^ b) us
        ∙ ap₂ ◌*◌ (product_of_powers p us) (product_by-pow (λ u. 2 ^ w u * c u) b us ∙ ap (λ n. n ^ b) (product_by-times (λ u. 2 ^ w u) c us ∙ ap (λ n. n * product_by c us) (product_of_powers w us)))

    right : product_by (λ u. (2 ^ d u * g u) ^ b) us ≡ (2 ^ sum_by d us * product_by g us) ^ b
    right = product_by-pow (λ u. 2 ^ d u * g u) b us ∙ ap (λ n. n ^ b) (product_by-times (λ u. 2 ^ d u) g us ∙ ap (λ n. n * product_by g us) (product_of_powers d us))

-- P points are paid, w bits withdrawn and d deposited; c is the product of the units below the line, g that of the gains
settled : (P w d c g W Z b : ℕ) → 1 ≤ c → 2 ^ P * (2 ^ w * c) ^ b ≤ (2 ^ d * g) ^ b → W * g ≤ Z * c → 2 ^ (P + b * w) * W ^ b ≤ 2 ^ (b * d) * Z ^ b
settled P w d c g W Z b pos paid gained =
    le_of_mul-le-mul_right {k = c ^ b} (subst₂ (λ (x y : ℕ). x ≤ y) left right (le_trans (mul-le-mul_right (W ^ b) paid) (rw middle (mul-le-mul_left ((2 ^ d) ^ b) gained_b)))) (one-le-pow b c pos)
  where
    gained_b : (W * g) ^ b ≤ (Z * c) ^ b
    gained_b = pow-le-pow_left gained b

    middle : (2 ^ d * g) ^ b * W ^ b ≡ (2 ^ d) ^ b * (W * g) ^ b
    middle = rw (mul-pow (2 ^ d) g b, mul-pow W g b) (omega arith)

    left : 2 ^ P * (2 ^ w * c) ^ b * W ^ b ≡ 2 ^ (P + b * w) * W ^ b * c ^ b
    left = rw (mul-pow (2 ^ w) c b, pow_of_pow w b, pow-add 2 P (b * w)) (omega arith)

    right : (2 ^ d) ^ b * (Z * c) ^ b ≡ 2 ^ (b * d) * Z ^ b * c ^ b
    right = rw (mul-pow Z c b, pow_of_pow d b) (omega arith)

sum_of_payments : (paid : List ℕ) (n : ℕ) → length paid ≡ n → sum_by (λ u. get_or paid u 0) (numbers_below n) ≡ sum paid
sum_of_payments paid n e = sym (sum-map (λ u. get_or paid u 0) (numbers_below n)) ∙ ap sum (sym (fill_by_all (λ u. get_or paid u 0) paid n 0 e (λ u h. refl)))

pub settlement_bounded : (network : List Variable) (H : List Entry) (b : ℕ) → IsSound network H → IsProper network H
    → All (λ s. (paid : List ℕ) → ArePayments H b s paid → LossIsBounded network H b s paid) (possible_states network H always)
settlement_bounded network H b sound proper k d h paid payments = record {
  bound =
      rw (sum_of_payments paid (length (users H)) payments.one_each) at
      (settled (sum_by (λ u. get_or paid u 0) us) (sum_by (withdrawn H) us) (sum_by (deposited H) us) (product_by (λ u. unit ^ trade_count H u) us) (product_by (λ u. gain H u s) us) (initial_weight network s) (initial_total network) b
      (product_by_pos (λ u. unit ^ trade_count H u) us (each_always (λ u. 1 ≤ unit ^ trade_count H u) (λ u. one-le-pow (trade_count H u) unit (omega arith)) us))
      (joined_up us b (λ u. get_or paid u 0) (withdrawn H) (deposited H) (λ u. unit ^ trade_count H u) (λ u. gain H u s)
      (each_number (λ u. 2 ^ get_or paid u 0 * (2 ^ withdrawn H u * unit ^ trade_count H u) ^ b ≤ (2 ^ deposited H u * gain H u s) ^ b) (length (users H)) 0 (λ u p q. within_covered (factor H u s) b (get_or paid u 0) (payments.within u (omega arith)))))
      (gains_bounded network H sound proper k d h).bound);
}
  where
    s : List ℕ
    s = get_or (possible_states network H always) k d

    us : List ℕ
    us = numbers_below (length (users H))
