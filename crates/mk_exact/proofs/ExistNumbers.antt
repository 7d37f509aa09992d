-- Intervals of prices, cash and whole bits exist.
use Rattle.std.proofs.Common.{◌≡◌, ℕ, zero, suc, ◌+◌, ◌-◌, ◌*◌, ◌/◌, ◌^◌, ◌<◌, ◌≤◌, ◌⊎◌, refl, sym}
use Rattle.std.proofs.Common.{ap, ◌∙◌, subst, inl, inr, arith, add-one, le_refl, le_trans}
use Rattle.std.proofs.Common.{lt_of_lt_of_le}
use Rattle.std.specs.Bool.{⊤}
use Rattle.std.proofs.Math.Nat.{div-mul-le_self, lt-div-mul-add, mul-le-mul, mul-le-mul_left}
use Rattle.std.proofs.Math.Nat.{mul-le-mul_right, mul-lt-mul_of_pos_right, le-mul_of_pos_right}
use Rattle.std.proofs.Math.Nat.{le_of_mul-le-mul_right, lt_of_mul-lt-mul_right, pow-zero, pow-suc}
use Rattle.std.proofs.Math.Nat.{pow-le-pow_left, pow-le-pow_right, one-le-pow}
use Rattle.std.proofs.lemmas.Nat.{mul-pow, pow-add}
use Rattle.std.proofs.Math.Pow.{pow-lt}
use Rattle.std.proofs.lemmas.Bool.{cases_lt}
use Rattle.mk_net.specs.Bounds.{million, sharpness}
use Rattle.mk_exact.specs.Factors.{Fraction}
use Rattle.mk_exact.specs.Prices.{CoversPrice}
use Rattle.mk_exact.specs.Cash.{IsCash, AreNearCash, CoversCash}
use Rattle.mk_exact.specs.Accepted.{Covers, IsMost}
use Rattle.mk_exact.specs.Existing.{IsSafeFactor}
use Rattle.mk_exact.proofs.Sharp.{sharp}

-- ---- prices

-- the floor and the ceiling of n / d, where n is at most k times d
record AreRounded (n d k low high : ℕ) : Type 0 where
  pub below : low * d ≤ n
  pub above : n ≤ high * d
  pub at_most : high ≤ k
  pub floor : n < (low + 1) * d
  pub ceiling : high * d < n + d

fewer : (a b d : ℕ) → a * d < b * d → a < b
fewer a b d h = lt_of_mul-lt-mul_right d h

rounded : (n d k : ℕ) → 1 ≤ d → n ≤ k * d → AreRounded n d k (n / d) ((n + d - 1) / d)
rounded n d k p q = by_parts (n / d) ((n + d - 1) / d) (div-mul-le_self n d) (lt-div-mul-add p) (div-mul-le_self (n + d - 1) d) (lt-div-mul-add p)
  where
    by_parts : (low high : ℕ) → low * d ≤ n → n < low * d + d → high * d ≤ n + d - 1 → n + d - 1 < high * d + d → AreRounded n d k low high
    by_parts low high a b c e = record {
      below = a;
      above = omega arith;
      at_most = let l : high < k + 1 = fewer high (k + 1) d (omega arith) in omega arith;
      floor = omega arith;
      ceiling = omega arith;
    }

pub further : (t p n x : ℕ) → p ≤ n → 1 ≤ n → t < x → t * p < x * n
further t p n x l q h =
    let a : t * p ≤ t * n = mul-le-mul_left t l in
    let c : t * n < x * n = mul-lt-mul_of_pos_right h q in
    omega arith

pub price_is_covered : (near : ℕ) (price : Fraction) → 2 ≤ near → 1 ≤ price.den
    → price.num ≤ price.den → (low : ℕ) × (high : ℕ) × CoversPrice ⊤ near price low high
price_is_covered near price wide p q = (
  10 ^ 10 * price.num / price.den,
  (10 ^ 10 * price.num + price.den - 1) / price.den,
  covers (rounded (10 ^ 10 * price.num) price.den (10 ^ 10) p (mul-le-mul_left (10 ^ 10) q)),
)
  where
    none_of : (high : ℕ) → price.num ≡ 0 → high * price.den < 10 ^ 10 * price.num + price.den → high ≡ 0
    none_of high e less = let l : high < 1 = fewer high 1 price.den (omega arith) in omega arith

    all_of : (low : ℕ) → price.num ≡ price.den → 10 ^ 10 * price.num < (low + 1) * price.den → low * price.den ≤ 10 ^ 10 * price.num → low ≡ 10 ^ 10
    all_of low e less more =
        let l : 10 ^ 10 < low + 1 = fewer (10 ^ 10) (low + 1) price.den (omega arith) in
        let m : low < 10 ^ 10 + 1 = fewer low (10 ^ 10 + 1) price.den (omega arith) in
        omega arith

    ceiling_near : (high : ℕ) → high * price.den < 10 ^ 10 * price.num + price.den
        → high * price.den * (near - 1) < 10 ^ 10 * price.num * near + price.den * (near - 1)
    ceiling_near high less =
        let l : high * price.den * (near - 1) < (10 ^ 10 * price.num + price.den) * (near - 1)
        = mul-lt-mul_of_pos_right less (omega arith) in
        let m : 10 ^ 10 * price.num * (near - 1) ≤ 10 ^ 10 * price.num * near = mul-le-mul_left
        (10 ^ 10 * price.num) (omega arith) in
        omega arith

    covers : {low high : ℕ} → AreRounded (10 ^ 10 * price.num) price.den (10 ^ 10) low high
        → CoversPrice ⊤ near price low high
    covers {low} {high} h = record {
      below = h.below;
      above = h.above;
      at_most_one = h.at_most;
      low_near = further (10 ^ 10 * price.num) (near - 1) near ((low + 1) * price.den) (omega arith)
          (omega arith) h.floor;
      high_near = ceiling_near high h.ceiling;
      never = λ e. none_of high e h.ceiling;
      sure = λ e. all_of low e h.floor h.below;
      floor = λ _. h.floor;
      ceiling = λ _. h.ceiling;
    }

-- what serves one case serves another in which it holds
pub covers_for : (small other : Type 0) (near : ℕ) (price : Fraction) (low high : ℕ)
    → (other → small) → CoversPrice small near price low high
    → CoversPrice other near price low high
covers_for small other near price low high to h = record {
  below = h.below;
  above = h.above;
  at_most_one = h.at_most_one;
  low_near = h.low_near;
  high_near = h.high_near;
  never = h.never;
  sure = h.sure;
  floor = λ o. h.floor (to o);
  ceiling = λ o. h.ceiling (to o);
}

-- what serves the small case serves any
pub covers_in : (small : Type 0) (near : ℕ) (price : Fraction) (low high : ℕ)
    → CoversPrice ⊤ near price low high → CoversPrice small near price low high
covers_in small near price low high = covers_for ⊤ small near price low high (λ _. tt)

-- one part in n + 1 is too little for a third unit
too_wide : (low d n : ℕ) → low ≤ 10 ^ 10 → 2 ^ 38 ≤ n
    → (low + 1) * d * (n + 1) * (n + 1) ≤ (low + 2) * d * n * n
too_wide low d n few wide =
    let a : (low + 1) * (2 * n + 1) ≤ (10 ^ 10 + 1) * (2 * n + 1) = mul-le-mul_right (2 * n + 1)
    (omega arith) in
    let b : 2 ^ 38 * n ≤ n * n = mul-le-mul_right n wide in
    let c : (low + 1) * (2 * n + 1) ≤ n * n = omega arith in
    let e : (low + 1) * (n + 1) * (n + 1) ≤ (low + 2) * n * n = omega arith in
    let f : d * ((low + 1) * (n + 1) * (n + 1)) ≤ d * ((low + 2) * n * n) = mul-le-mul_left d e in
    omega arith

-- p / d is less than low + 1 but for one part in n + 1, and more than high - 1 but for it
two_wide : (p d n low high : ℕ) → 1 ≤ d → 2 ^ 38 ≤ n → p ≤ 10 ^ 10 * d → low * d ≤ p
    → p * n < (low + 1) * d * (n + 1) → high * d * n < p * (n + 1) + d * n → high ≤ low + 2
two_wide p d n low high some wide few below low_near high_near = elim (cases_lt (low + 2) high)
    [ inl h ↦ absurd (three h) | inr h ↦ h ]
  where
    three : low + 2 < high → ⊥
    three h =
        let a : (low + 3) * (d * n) ≤ high * (d * n) = mul-le-mul_right (d * n) (omega arith) in
        let b : (low + 2) * d * n < p * (n + 1) = omega arith in
        let c : (low + 2) * d * n * n < p * (n + 1) * n = mul-lt-mul_of_pos_right b (omega arith) in
        let e : p * n * (n + 1) < (low + 1) * d * (n + 1) * (n + 1) = mul-lt-mul_of_pos_right
        low_near (omega arith) in
        let f : low < 10 ^ 10 + 1 = fewer low (10 ^ 10 + 1) d (omega arith) in
        let g = too_wide low d n (omega arith) wide in
        omega arith

-- an interval that covers a price by one part in 2^39 or more is at most two units wide
narrow_price : (small : Type 0) (near : ℕ) (price : Fraction) (low high : ℕ) → 2 ^ 39 ≤ near
    → CoversPrice small near price low high → high ≤ low + 2
narrow_price small near price low high wide h = elim (cases_lt price.den 1) [
  | inl none ↦ absurd (nothing none)
  | inr some ↦ two_wide (10 ^ 10 * price.num) price.den
      (near - 1) low high some (omega arith) few h.below low_near high_near
]
  where
    nothing : price.den < 1 → ⊥
    nothing none =
        let e : price.den ≡ 0 = omega arith in
        let l : 10 ^ 10 * price.num * (near - 1) < (low + 1) * 0 * near = rw e at h.low_near in
        omega arith

    same : near ≡ near - 1 + 1
    same = omega arith

    low_near : 10 ^ 10 * price.num * (near - 1) < (low + 1) * price.den * (near - 1 + 1)
    low_near = subst (λ n. 10 ^ 10 * price.num * (near - 1) < (low + 1) * price.den * n) same
        h.low_near

    high_near : high * price.den * (near - 1) < 10 ^ 10 * price.num * (near - 1 + 1)
        + price.den * (near - 1)
    high_near = subst
        (λ n. high * price.den * (near - 1) < 10 ^ 10 * price.num * n + price.den * (near - 1))
        same h.high_near

    few : 10 ^ 10 * price.num ≤ 10 ^ 10 * price.den
    few = le_trans h.above (mul-le-mul_right price.den h.at_most_one)

pub price_is_narrow : (small : Type 0) (most_trades : ℕ) (price : Fraction) (low high : ℕ)
    → CoversPrice small (sharpness most_trades) price low high → high ≤ low + 2
price_is_narrow small most_trades price low high h = narrow_price small (sharpness most_trades)
    price low high (sharp most_trades) h

-- ---- cash and whole bits

-- a sequence that begins at most at n and later exceeds it has a last place before it does
last_within : (f : ℕ → ℕ) (n end : ℕ) → f 0 ≤ n → n < f end → (k : ℕ) × (f k ≤ n) × (n < f (k + 1))
last_within f n zero p q = absurd (omega arith)
last_within f n (suc end) p q = elim (cases_lt n (f end)) [ inl h ↦ last_within f n end p h | inr h ↦ (end, h, rw (add-one end) q) ]

below_power : (n : ℕ) → n < 2 ^ n
below_power zero = omega (arith, pow-zero 2)
below_power (suc n) = omega (arith, pow-suc 2 n, below_power n)

-- the greatest power of two whose product with d is at most n
pub greatest_power : (n d : ℕ) → 1 ≤ d → d ≤ n → (k : ℕ) × (2 ^ k * d ≤ n) × (n < 2 ^ (k + 1) * d)
greatest_power n d p q = last_within (λ k. 2 ^ k * d) n n (omega arith) (lt_of_lt_of_le (below_power n) (le-mul_of_pos_right (2 ^ n) p))

-- a power that stays within n is less than one that does not
pub power_less : (k m d n : ℕ) → 2 ^ k * d ≤ n → n < 2 ^ m * d → k < m
power_less k m d n p q = elim (cases_lt k m) [ inl h ↦ h | inr h ↦ absurd (within h) ]
  where
    within : m ≤ k → ⊥
    within h =
        let l : 2 ^ m * d ≤ 2 ^ k * d = mul-le-mul_right d (pow-le-pow_right {n = 2} (omega arith) h) in
        omega arith

pub cash_exists : (q : Fraction) (b : ℕ) → IsSafeFactor q → (cash : ℕ) × IsCash q b cash
cash_exists q b safe = is_cash (greatest_power (q.num ^ b) (q.den ^ b) (one-le-pow b q.den safe.divides) (pow-le-pow_left safe.at_least_one b))
  where
    is_cash : (k : ℕ) × (2 ^ k * q.den ^ b ≤ q.num ^ b) × (q.num ^ b < 2 ^ (k + 1) * q.den ^ b) → (cash : ℕ) × IsCash q b cash
    is_cash k = (k.0, record { covered = k.1; greatest = k.2 })

-- the cash is as near itself as may be
pub near_itself : (near : ℕ) (q : Fraction) (b cash : ℕ) → 1 ≤ near → IsCash q b cash
    → AreNearCash near q b cash cash
near_itself near q b cash some is = record {
  low_near = let l : q.num ^ b * (near - 1) ^ b < 2 ^ (cash + 1) * q.den ^ b * near ^ b = further
      (q.num ^ b) _ _ _ less (one-le-pow b near some) is.greatest in omega arith;
  high_near = let l : 2 ^ cash * q.den ^ b * (near - 1) ^ b ≤ q.num ^ b * near ^ b = mul-le-mul
      is.covered less in omega arith;
}
  where
    less : (near - 1) ^ b ≤ near ^ b
    less = pow-le-pow_left (omega arith) b

pub cash_is_covered : (near : ℕ) (q : Fraction) (b : ℕ) → 2 ≤ near → IsSafeFactor q
    → (low : ℕ) × (high : ℕ) × CoversCash ⊤ ⊤ near q b low high
cash_is_covered near q b wide safe = covers (cash_exists q b safe)
  where
    covers : (cash : ℕ) × IsCash q b cash
        → (low : ℕ) × (high : ℕ) × CoversCash ⊤ ⊤ near q b low high
    covers c = (
      c.0,
      c.0,
      record {
        cash = c.0;
        is_cash = c.1;
        above = le_refl (c.0);
        below = le_refl (c.0);
        near = near_itself near q b (c.0) (omega arith) (c.1);
        nearer = λ _. near_itself (2 ^ 59) q b (c.0) (omega arith) (c.1);
        exact = λ _. (refl, refl);
      },
    )

-- what serves the small case, and a user without trades, serves any
pub cash_in : (small idle : Type 0) (near : ℕ) (q : Fraction) (b low high : ℕ)
    → CoversCash ⊤ ⊤ near q b low high → CoversCash small idle near q b low high
cash_in small idle near q b low high h = record {
  cash = h.cash;
  is_cash = h.is_cash;
  above = h.above;
  below = h.below;
  near = h.near;
  nearer =
      λ _. h.nearer tt;
  exact = λ _. h.exact tt;
}

-- (1 + 1 / c) ^ b is at most (c + 1) / (c + 1 - b)
power_step : (c rest x y : ℕ) → rest ≤ c → x * (rest + 1) ≤ y * (c + 1)
    → x * (c + 1) * rest ≤ y * c * (c + 1)
power_step c rest x y few h =
    let a : (c + 1) * rest ≤ c * (rest + 1) = omega arith in
    let f : x * ((c + 1) * rest) ≤ x * (c * (rest + 1)) = mul-le-mul_left x a in
    let g : c * (x * (rest + 1)) ≤ c * (y * (c + 1)) = mul-le-mul_left c h in
    omega arith

power_within : (c b rest : ℕ) → rest + b ≡ c + 1 → (c + 1) ^ b * rest ≤ c ^ b * (c + 1)
power_within c zero rest e = rw (pow-zero (c + 1), pow-zero c) (omega arith)
power_within c (suc b) rest e =
    rw (pow-suc (c + 1) b, pow-suc c b) (power_step c rest ((c + 1) ^ b) (c ^ b) (omega arith)
    (power_within c b (rest + 1) (omega arith)))

-- so its square is at most two, where c is large
square_within : (c b : ℕ) → 4 * b ≤ c → (c + 1) ^ b * (c + 1) ^ b ≤ 2 * (c ^ b * c ^ b)
square_within c b few = le_of_mul-le-mul_right {k = c + 1 - 2 * b} scaled (omega arith)
  where
    scaled : (c + 1) ^ b * (c + 1) ^ b * (c + 1 - 2 * b) ≤ 2 * (c ^ b * c ^ b) * (c + 1 - 2 * b)
    scaled =
        let a : (c + 1) ^ (b + b) * (c + 1 - 2 * b) ≤ c ^ (b + b) * (c + 1) = power_within c (b + b)
        (c + 1 - 2 * b) (omega arith) in
        let e : (c + 1) ^ (b + b) ≡ (c + 1) ^ b * (c + 1) ^ b = pow-add (c + 1) b b in
        let f : c ^ (b + b) ≡ c ^ b * c ^ b = pow-add c b b in
        let g : c ^ b * c ^ b * (c + 1) ≤ c ^ b * c ^ b * (2 * (c + 1 - 2 * b)) = mul-le-mul_left
        (c ^ b * c ^ b) (omega arith) in
        let h : (c + 1) ^ b * (c + 1) ^ b * (c + 1 - 2 * b) ≤ c ^ b * c ^ b * (c + 1) = rw
        (← e, ← f) a in
        omega arith

-- t / d is less than 2 ^ (low + 1) but for n / m, and at least 2 ^ high but for it
one_wide : (t d m n low high : ℕ) → 1 ≤ n → n * n ≤ 2 * (m * m) → t * m < 2 ^ (low + 1) * n * d
    → 2 ^ high * m * d ≤ t * n → high ≤ low + 1
one_wide t d m n low high some few low_near high_near = elim (cases_lt (low + 1) high)
    [ inl h ↦ absurd (two h) | inr h ↦ h ]
  where
    two : low + 1 < high → ⊥
    two h =
        let a : 2 ^ (low + 1 + 1) * (m * d) ≤ 2 ^ high * (m * d) = mul-le-mul_right (m * d)
        (pow-le-pow_right {n = 2} (omega arith) (omega arith)) in
        let e : 2 ^ (low + 1 + 1) ≡ 2 ^ (low + 1) * 2 ^ 1 = pow-add 2 (low + 1) 1 in
        let s : 2 ^ (low + 1 + 1) ≡ 2 ^ (low + 1) * 2 = omega arith in
        let b : 2 ^ (low + 1) * 2 * (m * d) ≤ t * n =
        (let r : 2 ^ (low + 1) * 2 * (m * d) ≤ 2 ^ high * (m * d) = rw s at a in omega arith) in
        let c : 2 ^ (low + 1) * 2 * (m * d) * m ≤ t * n * m = mul-le-mul_right m b in
        let f : t * m * n < 2 ^ (low + 1) * n * d * n = mul-lt-mul_of_pos_right low_near some in
        let g : 2 ^ (low + 1) * d * (n * n) ≤ 2 ^ (low + 1) * d * (2 * (m * m)) = mul-le-mul_left
        (2 ^ (low + 1) * d) few in
        omega arith

narrow_by : (c : ℕ) (q : Fraction) (b low high : ℕ) → 4 * b ≤ c → AreNearCash (c + 1) q b low high
    → high ≤ low + 1
narrow_by c q b low high few near = one_wide (q.num ^ b) (q.den ^ b) (c ^ b) ((c + 1) ^ b) low high
    (one-le-pow b (c + 1) (omega arith)) (square_within c b few) low_near high_near
  where
    same : c + 1 - 1 ≡ c
    same = omega arith

    low_near : q.num ^ b * c ^ b < 2 ^ (low + 1) * (c + 1) ^ b * q.den ^ b
    low_near = rw same at near.low_near

    high_near : 2 ^ high * c ^ b * q.den ^ b ≤ q.num ^ b * (c + 1) ^ b
    high_near = rw same at near.high_near

pub cash_is_narrow : (small idle : Type 0) (most_trades : ℕ) (q : Fraction) (b low high : ℕ)
    → b ≤ million → CoversCash small idle (sharpness most_trades) q b low high → high ≤ low + 1
cash_is_narrow small idle most_trades q b low high few h = narrow (sharpness most_trades)
    (sharp most_trades) h.near
  where
    narrow : (near : ℕ) → 2 ^ 39 ≤ near → AreNearCash near q b low high → high ≤ low + 1
    narrow near wide is = narrow_by (near - 1) q b low high (omega arith)
        (let e : near ≡ near - 1 + 1 = omega arith in subst (λ n. AreNearCash n q b low high) e is)

pub power_of_power : (m b : ℕ) → (2 ^ m) ^ b ≡ 2 ^ (m * b)
power_of_power m zero = let e : 0 ≡ m * 0 = omega arith in pow-zero (2 ^ m) ∙ sym (pow-zero 2) ∙ ap (λ k. 2 ^ k) e
power_of_power m (suc b) =
    let e : m * b + m ≡ m * suc b = omega arith in
    pow-suc (2 ^ m) b ∙ ap (λ k. k * 2 ^ m) (power_of_power m b) ∙ sym (pow-add 2 (m * b) m) ∙ ap (λ k. 2 ^ k) e

pub exponent_at_most : (k m : ℕ) → 2 ^ k ≤ 2 ^ m → k ≤ m
exponent_at_most k m h = elim (cases_lt m k) [ inl more ↦ absurd (exceeds (pow-lt more)) | inr less ↦ less ]
  where
    exceeds : 2 ^ m < 2 ^ k → ⊥
    exceeds more = omega arith

pub cash_is_bounded : (q : Fraction) (b m cash : ℕ) → 1 ≤ q.den → q.num ≤ 2 ^ m * q.den → IsCash q b cash → cash ≤ m * b
cash_is_bounded q b m cash p h c =
    exponent_at_most cash (m * b) (le_of_mul-le-mul_right {k = q.den ^ b} (le_trans c.covered at_most) (one-le-pow b q.den p))
  where
    at_most : q.num ^ b ≤ 2 ^ (m * b) * q.den ^ b
    at_most = rw (← power_of_power m b, ← mul-pow (2 ^ m) q.den b) (pow-le-pow_left h b)

pub most_exists : (near : ℕ) (q : Fraction) → 2 ≤ near → IsSafeFactor q
    → (k : ℕ) × IsMost ⊤ ⊤ near q k
most_exists near q wide safe = is_most (greatest_power q.num q.den safe.divides safe.at_least_one)
  where
    is_most : (k : ℕ) × (2 ^ k * q.den ≤ q.num) × (q.num < 2 ^ (k + 1) * q.den)
        → (k : ℕ) × IsMost ⊤ ⊤ near q k
    is_most k = (
      k.0,
      record {
        within = k.1;
        nearly = let l : q.num * (2 * near - 1) < 2 ^ (k.0 + 1) *
            q.den * (2 * near) = further q.num (2 * near - 1) (2 * near) (2 ^ (k.0 + 1) * q.den)
            (omega arith) (omega arith) (k.2) in omega arith;
        exactly = λ _. k.2;
      },
    )

pub covered_is_less : (q : Fraction) (k bits : ℕ) → Covers q k → ¬ Covers q bits → k < bits
covered_is_less q k bits p h = elim (cases_lt q.num (2 ^ bits * q.den)) [ inl more ↦ power_less k bits q.den q.num p more | inr less ↦ absurd (h less) ]

pub withdrawal_is_judged : (near : ℕ) (q : Fraction) (bits : ℕ) → 2 ≤ near → IsSafeFactor q
    → Covers q bits ⊎ ((most : ℕ) × (most < bits) × IsMost ⊤ ⊤ near q most)
withdrawal_is_judged near q bits wide safe = judge (cases_lt q.num (2 ^ bits * q.den))
    (most_exists near q wide safe)
  where
    judge : (q.num < 2 ^ bits * q.den) ⊎ Covers q bits → (k : ℕ) × IsMost ⊤ ⊤ near q k
        → Covers q bits ⊎ ((most : ℕ) × (most < bits) × IsMost ⊤ ⊤ near q most)
    judge (inr covered) _ = inl covered
    judge (inl more) k = inr (k.0, power_less (k.0) bits q.den q.num (k.1).within more, k.1)

-- what serves the small case, and a user without trades, serves any
pub most_in : (small idle : Type 0) (near : ℕ) (q : Fraction) (k : ℕ) → IsMost ⊤ ⊤ near q k
    → IsMost small idle near q k
most_in small idle near q k h = record {
  within = h.within;
  nearly = h.nearly;
  exactly = λ _. h.exactly
      (inl tt);
}
