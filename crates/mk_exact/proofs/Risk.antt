-- The most that the operator can lose: some interval covers it, it fits, and no settlement exceeds it.
use Rattle.std.proofs.Common.{◌≡◌, ℕ, ◌+◌, ◌-◌, ◌*◌, ◌^◌, ◌<◌, ◌≤◌, Bool, true, false, cond, List, [], ◌∷◌, length, min, sum, sum_by, ◌&&◌, All, Option, Some, None, refl, ap, ◌∙◌, subst, arith, le_refl, le_trans, mul_comm}
use Rattle.std.specs.Prelude.{nat_lt}
use Rattle.std.specs.List.{AllByRecursion}
use Rattle.std.proofs.Math.Nat.{mul-le-mul, mul-le-mul_left, mul-lt-mul_of_pos_right, le_of_mul-le-mul_right, le-mul_of_pos_right, one-le-pow, pow-le-pow_left, pow-le-pow_right}
use Rattle.std.proofs.lemmas.Nat.{mul-pow, pow-add}
use Rattle.std.proofs.lemmas.List.Sums.{get_or-le-sum_by}
use Rattle.std.proofs.lemmas.List.Elements.{All-from_recursion, recursion_from_All, All-filter}
use Rattle.mk_net.specs.Bounds.{million, number_limit}
use Rattle.mk_net.specs.Network.{Variable, sizes, IsNetwork}
use Rattle.mk_states.specs.States.{numbers_below, IsState}
use Rattle.mk_states.specs.InitialWeight.{all_states, initial_weight, initial_total}
use Rattle.mk_states.specs.Events.{always}
use Rattle.mk_exact.specs.History.{Entry, users, deposited, withdrawn}
use Rattle.mk_exact.specs.Weight.{is_possible, possible_states}
use Rattle.mk_exact.specs.Factors.{least_by, lesser}
use Rattle.mk_exact.specs.Cash.{IsCash}
use Rattle.mk_exact.specs.Risk.{least_weight, nearness, CoversBound}
use Rattle.mk_exact.specs.Proper.{IsProper}
use Rattle.mk_exact.specs.Laws.{LossIsBounded}
use Rattle.mk_exact.specs.Existing.{HasBound}
use Rattle.mk_states.proofs.Sums.{each_weaker, each_both}
use Rattle.mk_states.proofs.Listed.{all_can}
use Rattle.mk_exact.proofs.Millions.{initial_total_is}
use Rattle.mk_exact.proofs.ExistNumbers.{cash_exists, power_of_power, power_less, exponent_at_most}
use Rattle.mk_exact.proofs.ExistMarkets.{least_exists, of_least}

-- ---- the least weight

nothing_less : {X : Type 0} (f : X → ℕ) (m : ℕ) (xs : List X) → least_by f xs ≡ None → AllByRecursion (λ x. m ≤ f x) xs
nothing_less f m [] e = tt
nothing_less {X} f m (x ∷ xs) e = absurd (some (least_by f xs) e)
  where
    some : (o : Option ℕ) → lesser (Some (f x)) o ≡ None → ⊥
    some None e = cc
    some (Some n) e = cc

-- the least is at most each
at_most_each : {X : Type 0} (f : X → ℕ) (m : ℕ) (xs : List X) → least_by f xs ≡ Some m → AllByRecursion (λ x. m ≤ f x) xs
at_most_each f m [] e = tt
at_most_each {X} f m (x ∷ xs) e = at (least_by f xs) refl e (λ n. at_most_each f n xs)
  where
    at : (o : Option ℕ) → least_by f xs ≡ o → lesser (Some (f x)) o ≡ Some m → ((n : ℕ) → least_by f xs ≡ Some n → AllByRecursion (λ y. n ≤ f y) xs) → AllByRecursion (λ x. m ≤ f x) (x ∷ xs)
    at None is e rest = (let same : f x ≡ m = cc in omega arith, nothing_less f m xs is)
    at (Some n) is e rest =
        let same : min (f x) n ≡ m = cc in
        (omega arith, each_weaker (λ y. n ≤ f y) (λ y. m ≤ f y) (λ y h. omega arith) xs (rest n is))

each_in_sum : {X : Type 0} (f : X → ℕ) (xs : List X) → All (λ x. f x ≤ sum_by f xs) xs
each_in_sum f xs = λ i d h. get_or-le-sum_by f xs i d h

-- the weight of each possible state is at least one, and at most the total
abbrev IsPart : List Variable → ℕ → Type 0
IsPart network n = (1 ≤ n) × (n ≤ initial_total network)

each_weight : (network : List Variable) (H : List Entry) → AllByRecursion (λ s. IsPart network (initial_weight network s)) (possible_states network H always)
each_weight network H = recursion_from_All (λ s. IsPart network (initial_weight network s)) (possible_states network H always)
    (All-filter (λ s. is_possible H s && true) (λ s. IsPart network (initial_weight network s)) (all_states network)
    (All-from_recursion (λ s. IsPart network (initial_weight network s)) (all_states network)
    (each_weaker (λ s. (IsState (sizes network) s × (1 ≤ initial_weight network s)) × (initial_weight network s ≤ initial_total network)) (λ s. IsPart network (initial_weight network s)) (λ s h. (h.0.1, h.1)) (all_states network)
    (each_both (λ s. IsState (sizes network) s × (1 ≤ initial_weight network s)) (λ s. initial_weight network s ≤ initial_total network) (all_states network) (all_can network)
    (recursion_from_All (λ s. initial_weight network s ≤ initial_total network) (all_states network) (each_in_sum (initial_weight network) (all_states network)))))))

pub least_is_part : (network : List Variable) (H : List Entry) (least : ℕ) → least_weight network H ≡ Some least → IsPart network least
least_is_part network H least e = rw e at (of_least (initial_weight network) (IsPart network) (possible_states network H always) (each_weight network H))

-- ---- the interval

near_some : (total : ℕ) → (2 ≤ nearness total)
near_some total = either (nat_lt total number_limit)
  where
    either : (b : Bool) → 2 ≤ cond b (2 ^ 58) (2 ^ 42)
    either true = omega arith
    either false = omega arith

further : (t p n x : ℕ) → p ≤ n → 1 ≤ n → t < x → t * p < x * n
further t p n x l q h =
    let a : t * p ≤ t * n = mul-le-mul_left t l in
    let c : t * n < x * n = mul-lt-mul_of_pos_right h q in
    omega arith

cash_covers : (total least b cash : ℕ) → IsCash (record { num = total; den = least }) b cash → CoversBound total least b cash cash
cash_covers total least b cash is = record {
  cash = cash;
  is_cash = is;
  above = le_refl cash;
  below = le_refl cash;
  low_near = let l : total ^ b * (nearness total - 1) ^ b < 2 ^ (cash + 1) * least ^ b * nearness total ^ b = further (total ^ b) _ _ _ less (one-le-pow b (nearness total) (omega (arith, near_some total))) is.greatest in omega arith;
  high_near = let l : 2 ^ cash * least ^ b * (nearness total - 1) ^ b ≤ total ^ b * nearness total ^ b = mul-le-mul is.covered less in omega arith;
}
  where
    less : (nearness total - 1) ^ b ≤ nearness total ^ b
    less = pow-le-pow_left (omega arith) b

pub bound_exists : (network : List Variable) (H : List Entry) (b : ℕ) → IsNetwork network → IsProper network H → HasBound network H b
bound_exists network H b net proper = with_least (least_exists (initial_weight network) (IsPart network) (possible_states network H always) proper.some_left (each_weight network H))
  where
    with_cash : (least : ℕ) → least_weight network H ≡ Some least → (cash : ℕ) × IsCash (record { num = initial_total network; den = least }) b cash → HasBound network H b
    with_cash least is c = record { least = least; is_least = is; low = c.0; high = c.0; covers = cash_covers (initial_total network) least b (c.0) (c.1) }

    with_least : (least : ℕ) × (least_weight network H ≡ Some least) × IsPart network least → HasBound network H b
    with_least l = with_cash (l.0) (l.1) (cash_exists (record { num = initial_total network; den = l.0 }) b (record { divides = (l.2).0; at_least_one = (l.2).1 }))

-- ---- how large it is

million_at_most : (n : ℕ) → million ^ n ≤ 2 ^ (20 * n)
million_at_most n = let e : n * 20 ≡ 20 * n = omega arith in
    subst (λ k. million ^ n ≤ k) (power_of_power 20 n ∙ ap (λ k. 2 ^ k) (mul_comm 20 n ∙ e)) (pow-le-pow_left (omega arith) n)

power_few : (total least near b high k : ℕ) → 1 ≤ least → 2 ≤ near → total ≤ 2 ^ k → 2 ^ high * (near - 1) ^ b * least ^ b ≤ total ^ b * near ^ b → high ≤ k * b + b
power_few total least near b high k some wide few h =
    exponent_at_most high (k * b + b) (le_of_mul-le-mul_right {k = (near - 1) ^ b} (le_trans grown (le_trans h at_most)) (one-le-pow b (near - 1) (omega arith)))
  where
    grown : 2 ^ high * (near - 1) ^ b ≤ 2 ^ high * (near - 1) ^ b * least ^ b
    grown = le-mul_of_pos_right (2 ^ high * (near - 1) ^ b) (one-le-pow b least some)

    doubled : near ^ b ≤ 2 ^ b * (near - 1) ^ b
    doubled = rw (← mul-pow 2 (near - 1) b) (pow-le-pow_left (omega arith) b)

    powers : total ^ b ≤ 2 ^ (k * b)
    powers = rw (← power_of_power k b) (pow-le-pow_left few b)

    at_most : total ^ b * near ^ b ≤ 2 ^ (k * b + b) * (near - 1) ^ b
    at_most = rw (pow-add 2 (k * b) b) (let l : total ^ b * near ^ b ≤ 2 ^ (k * b) * (2 ^ b * (near - 1) ^ b) = mul-le-mul powers doubled in omega arith)

pub bound_fits : (network : List Variable) (H : List Entry) (b least low high : ℕ) → IsNetwork network → b ≤ million → least_weight network H ≡ Some least
    → CoversBound (initial_total network) least b low high → high < number_limit
bound_fits network H b least low high net few is covers =
    let l : high ≤ 5120 * b + b = power_few (initial_total network) least (nearness (initial_total network)) b high 5120 (least_is_part network H least is).0 (near_some (initial_total network)) total_few covers.high_near in
    omega arith
  where
    total_few : initial_total network ≤ 2 ^ 5120
    total_few = rw (initial_total_is network net) (
        let few : 20 * length network ≤ 5120 = omega (arith, net.few) in
        le_trans (million_at_most (length network)) (pow-le-pow_right {n = 2} (omega arith) few))

-- ---- what a settlement costs

within_bits : (paid owed w m t b cash : ℕ) → m ≤ w → t ^ b < 2 ^ (cash + 1) * m ^ b → 2 ^ paid * w ^ b ≤ 2 ^ owed * t ^ b → paid ≤ owed + cash
within_bits paid owed w m t b cash l c h =
    let p : paid < owed + (cash + 1) = power_less paid (owed + (cash + 1)) (m ^ b) (2 ^ owed * t ^ b) (le_trans (mul-le-mul_left (2 ^ paid) (pow-le-pow_left l b)) h) less in
    omega arith
  where
    less : 2 ^ owed * t ^ b < 2 ^ (owed + (cash + 1)) * m ^ b
    less = rw (pow-add 2 owed (cash + 1)) (let k : t ^ b * 2 ^ owed < 2 ^ (cash + 1) * m ^ b * 2 ^ owed = mul-lt-mul_of_pos_right c (one-le-pow owed 2 (omega arith)) in omega arith)

pub bound_holds : (network : List Variable) (H later : List Entry) (b least low high : ℕ) (paid : List ℕ) → least_weight network H ≡ Some least
    → CoversBound (initial_total network) least b low high
    → All (λ s. LossIsBounded network later b s paid
    → sum paid + b * sum_by (withdrawn later) (numbers_below (length (users later)))
    ≤ b * sum_by (deposited later) (numbers_below (length (users later))) + high) (possible_states network H always)
bound_holds network H later b least low high paid is covers = All-from_recursion Holds (possible_states network H always)
    (each_weaker (λ s. least ≤ initial_weight network s) Holds at (possible_states network H always) (at_most_each (initial_weight network) least (possible_states network H always) is))
  where
    Holds : List ℕ → Type 0
    Holds s = LossIsBounded network later b s paid
        → sum paid + b * sum_by (withdrawn later) (numbers_below (length (users later))) ≤ b * sum_by (deposited later) (numbers_below (length (users later))) + high

    at : (s : List ℕ) → least ≤ initial_weight network s → Holds s
    at s l loss = omega (
      arith,
      covers.below,
      within_bits (sum paid + b * sum_by (withdrawn later) (numbers_below (length (users later)))) (b * sum_by (deposited later) (numbers_below (length (users later))))
          (initial_weight network s) least (initial_total network) b covers.cash l covers.is_cash.greatest loss.bound,
    )
