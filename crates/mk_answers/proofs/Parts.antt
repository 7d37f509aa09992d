-- The interval of two enclosures covers the share of the one number in the other.
use Rattle.std.proofs.Common.{◌≡◌, ℕ, zero, suc, ◌+◌, ◌-◌, ◌*◌, ◌/◌, ◌^◌, ◌<◌, ◌≤◌, min, sym, ap}
use Rattle.std.proofs.Common.{ap₂, ◌∙◌, arith, le_trans}
use Rattle.std.specs.Int.{div_ceil}
use Rattle.std.proofs.lemmas.Grind.{div_ceil_times}
use Rattle.std.proofs.Math.Nat.{lt-div-mul-add, mul-le-mul_left, mul-le-mul_right}
use Rattle.std.proofs.Math.Nat.{mul-lt-mul_of_pos_right, one-le-mul, lt_of_mul-lt-mul_right}
use Rattle.mk_scaled.specs.Near.{near_width}
use Rattle.mk_net.specs.Bounds.{sharpness, grade_room}
use Rattle.mk_exact.specs.Prices.{CoversPrice}
use Rattle.mk_exact.proofs.Sharp.{at_room}
use Rattle.mk_enclose.specs.declared.enclosure.Enclosure.{Enclosure}
use Rattle.mk_enclose.specs.Enclosure.{lower_of, upper_of, Encloses, HasGrade, IsExact}

-- what `parts` promises of two enclosures, in units of 10^-10
pub record ArePartsOf (num den : Enclosure) (low high : ℕ) : Type 0 where
  pub low_is : low ≡ lower_of num * 10 ^ 10 / upper_of den
  pub high_is : high ≡ min (10 ^ 10) (div_ceil (upper_of num * 10 ^ 10) (lower_of den))
  pub below : (v w : ℕ) → Encloses num v → Encloses den w → low * w ≤ v * 10 ^ 10
  pub above : (v w : ℕ) → Encloses num v → Encloses den w → v ≤ w → v * 10 ^ 10 ≤ high * w

-- an exact enclosure has its number at both ends
exact_low : (e : Enclosure) (v : ℕ) → Encloses e v → IsExact e → lower_of e ≡ v
exact_low e v h x = omega (arith, h.lower, h.upper, x.same)

exact_high : (e : Enclosure) (v : ℕ) → Encloses e v → IsExact e → upper_of e ≡ v
exact_high e v h x = omega (arith, h.lower, h.upper, x.same)

-- the floor and the ceiling of a share
floor_near : (v w low : ℕ) → 1 ≤ w → low ≡ v * 10 ^ 10 / w → 10 ^ 10 * v < (low + 1) * w
floor_near v w low p e =
    let near : v * 10 ^ 10 < v * 10 ^ 10 / w * w + w = lt-div-mul-add p in
    let same : v * 10 ^ 10 / w * w ≡ low * w = ap (λ n. n * w) (sym e) in
    omega (arith, near, same)

ceiling_near : (v w high : ℕ) → 1 ≤ w → high ≡ min (10 ^ 10) (div_ceil (v * 10 ^ 10) w) → high * w < 10 ^ 10 * v + w
ceiling_near v w high p e =
    let near = div_ceil_times (v * 10 ^ 10) w p in
    let most : high ≤ div_ceil (v * 10 ^ 10) w = omega arith in
    let scaled : high * w ≤ div_ceil (v * 10 ^ 10) w * w = mul-le-mul_right w most in
    omega (arith, near.1, scaled)

-- ---- how near a share is by the ends of its two numbers

-- u of n are less than l of e, v is not far above n, nor e above w: u of v are less than l of w, or
-- not far above
near_share : (u n l e v w c t less more : ℕ) → u * n < l * e → v * c ≤ n * t → e * c ≤ w * t
    → less * (t * t) ≤ c * c * more → 1 ≤ c → 1 ≤ t → 1 ≤ more
    → u * v * less < l * w * more
near_share u n l e v w c t less more share over under wide some_c some_t some_more =
    lt_of_mul-lt-mul_right (t * t) scaled
  where
    tops : u * v * (c * c) < l * w * (t * t)
    tops =
        let a : u * c * (v * c) ≤ u * c * (n * t) = mul-le-mul_left (u * c) over in
        let b : u * n * (c * t) < l * e * (c * t) = mul-lt-mul_of_pos_right share
        (one-le-mul some_c some_t) in
        let d : l * t * (e * c) ≤ l * t * (w * t) = mul-le-mul_left (l * t) under in
        omega arith

    scaled : u * v * less * (t * t) < l * w * more * (t * t)
    scaled =
        let a : u * v * (less * (t * t)) ≤ u * v * (c * c * more) = mul-le-mul_left (u * v) wide in
        let b : u * v * (c * c) * more < l * w * (t * t) * more = mul-lt-mul_of_pos_right tops
        some_more in
        omega arith

-- two grades of so much leave one part in near
pub record AreWide (near room : ℕ) : Type 0 where
  pub wide : (near - 1) * (2 ^ 60 * 2 ^ 60) ≤ (2 ^ 60 - room) * (2 ^ 60 - room) * near
  pub some_left : 1 ≤ 2 ^ 60 - room
  pub some : 1 ≤ near

pub room_is_wide : (most_trades : ℕ) → AreWide (sharpness most_trades) (grade_room most_trades)
room_is_wide = at_room AreWide
    (record { wide = omega arith; some_left = omega arith; some = omega arith })
    (record { wide = omega arith; some_left = omega arith; some = omega arith })

graded_share : (near room : ℕ) → AreWide near room → (u n l e v w : ℕ) → u * n < l * e
    → v * (2 ^ 60 - room) ≤ n * 2 ^ 60 → e * (2 ^ 60 - room) ≤ w * 2 ^ 60
    → u * v * (near - 1) < l * w * near
graded_share near room are u n l e v w share over under =
    near_share u n l e v w (2 ^ 60 - room) (2 ^ 60) (near - 1) near share over under are.wide
    are.some_left (omega arith) are.some

-- a number that is enclosed, and the ends
thinner : (low high v c d : ℕ) → c ≤ d → v ≤ high → high * d ≤ low * 2 ^ 60 → v * c ≤ low * 2 ^ 60
thinner low high v c d h l near = le_trans (mul-le-mul_right c l)
    (le_trans (mul-le-mul_left high h) near)

near_lower : (room : ℕ) (e : Enclosure) (v g : ℕ) → g ≤ room → HasGrade e g → Encloses e v
    → v * (2 ^ 60 - room) ≤ lower_of e * 2 ^ 60
near_lower room e v g close has is =
    thinner (lower_of e) (upper_of e) v (2 ^ 60 - room) (2 ^ 60 - g) (omega arith) is.upper
    (near_width (lower_of e) (upper_of e) g has.near)

near_upper : (room : ℕ) (e : Enclosure) (v g : ℕ) → g ≤ room → HasGrade e g → Encloses e v
    → upper_of e * (2 ^ 60 - room) ≤ v * 2 ^ 60
near_upper room e v g close has is =
    let top : upper_of e * (2 ^ 60 - room) ≤ lower_of e * 2 ^ 60 = thinner (lower_of e)
    (upper_of e) (upper_of e) (2 ^ 60 - room) (2 ^ 60 - g) (omega arith) (omega arith)
    (near_width (lower_of e) (upper_of e) g has.near) in
    le_trans top (mul-le-mul_right (2 ^ 60) is.lower)

low_is_near : (near room : ℕ) → AreWide near room → (num den : Enclosure) (v w g low : ℕ)
    → Encloses num v → Encloses den w → g ≤ room
    → HasGrade num g → HasGrade den g
    → low ≡ lower_of num * 10 ^ 10 / upper_of den
    → 10 ^ 10 * v * (near - 1) < (low + 1) * w * near
low_is_near near room are num den v w g low num_is den_is close num_grade den_grade e =
    graded_share near room are (10 ^ 10) (lower_of num) (low + 1) (upper_of den) v w
    (floor_near (lower_of num) (upper_of den) low (omega (arith, den.positive, den.ordered)) e)
    (near_lower room num v g close num_grade num_is)
    (near_upper room den w g close den_grade den_is)

high_is_near : (near room : ℕ) → AreWide near room → 2 ≤ near → (num den : Enclosure)
    (v w g high : ℕ) → Encloses num v → Encloses den w → 1 ≤ w
    → g ≤ room → HasGrade num g → HasGrade den g
    → high ≡ min (10 ^ 10) (div_ceil (upper_of num * 10 ^ 10) (lower_of den))
    → high * w * (near - 1) < 10 ^ 10 * v * near + w * (near - 1)
high_is_near near room are more num den v w g high num_is den_is some close num_grade den_grade e =
    one_less high (ceiling_near (upper_of num) (lower_of den) high den.positive e)
  where
    one_less : (k : ℕ) → k * lower_of den < 10 ^ 10 * upper_of num + lower_of den
        → k * w * (near - 1) < 10 ^ 10 * v * near + w * (near - 1)
    one_less zero less =
        let unit : 1 ≤ w * (near - 1) = one-le-mul some (omega arith) in omega (arith, unit)
    one_less (suc k) less =
        let short : k * lower_of den < 10 ^ 10 * upper_of num = omega (arith, less) in
        let near_by = graded_share near room are k (lower_of den) (10 ^ 10) (upper_of num) w v short
        (near_lower room den w g close den_grade den_is)
        (near_upper room num v g close num_grade num_is) in
        omega (arith, near_by)

-- where the share is of something, and less than one
pub parts_cover : (near room : ℕ) → AreWide near room → 2 ≤ near → (num den : Enclosure)
    (v w g low high : ℕ) → Encloses num v → Encloses den w → 1 ≤ w → v ≤ w
    → v < w → g ≤ room → HasGrade num g → HasGrade den g → ArePartsOf num den low high
    → CoversPrice (IsExact num × IsExact den) near (record { num = v; den = w }) low high
parts_cover near room are more num den v w g low high num_is den_is some share less close num_grade den_grade parts = record {
  below = omega (arith, parts.below v w num_is den_is);
  above = omega (arith, parts.above v w num_is den_is share);
  at_most_one = omega (arith, parts.high_is);
  low_near = low_is_near near room are num den v w g low num_is den_is close num_grade den_grade
      parts.low_is;
  high_near = high_is_near near room are more num den v w g high num_is den_is some close num_grade
      den_grade parts.high_is;
  never = λ nothing. absurd (omega (arith, num.positive, num_is.lower));
  sure = λ all. absurd (omega arith);
  floor = λ x. floor_near v w low some (parts.low_is ∙ ap₂ (λ n d. n * 10 ^ 10 / d) (exact_low num v num_is x.0) (exact_high den w den_is x.1));
  ceiling = λ x. ceiling_near v w high some (parts.high_is ∙ ap₂ (λ n d. min (10 ^ 10) (div_ceil (n * 10 ^ 10) d)) (exact_high num v num_is x.0) (exact_low den w den_is x.1));
}
