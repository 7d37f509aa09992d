-- What a fair pair does to the total and to the price.
use Rattle.std.proofs.Common.{◌≡◌, ℕ, ◌+◌, ◌*◌, ◌-◌, ◌^◌, ◌<◌, ◌≤◌, List, [], ◌∷◌, ◌++◌, ap, arith, add-sub_of_le, mul-le-mul_left, mul-le-mul_right, le_of_lt}
use Rattle.mk_net.specs.Network.{Variable}
use Rattle.mk_net.specs.Asked.{Asked, TradeRatio}
use Rattle.mk_states.specs.Events.{holds, with_target, without_target, always}
use Rattle.mk_states.specs.Ratios.{unit}
use Rattle.mk_exact.specs.History.{Entry, Trade}
use Rattle.mk_exact.specs.Weight.{total}
use Rattle.mk_exact.specs.Prices.{exact_price}
use Rattle.mk_states.specs.OfNetwork.{IsPairOf}
use Rattle.mk_exact.specs.Sides.{ratio_in, traded, AreFair}
use Rattle.mk_exact.specs.Laws.{IsNear}
use Rattle.mk_exact.proofs.Totals.{traded_sum, total_condition, total_always, traded_target, traded_condition, traded_always, sum_asked}

-- X and Y share out a million; a and c are the new weights of the two sides, and h that of the condition
sides_at_most : (X Y a c h : ℕ) → X + Y ≡ 10 ^ 6 → a * 10 ^ 6 ≤ X * unit * h → c * 10 ^ 6 ≤ Y * unit * h → a + c ≤ h * unit
sides_at_most X Y a c h m p q =
    let whole : (X + Y) * h ≡ 10 ^ 6 * h = ap (λ n. n * h) m in
    omega arith

moved : (F n X h : ℕ) → F * 10 ^ 6 * n ≤ X * unit * h → F * n * 10 ^ 6 ≤ X * unit * h
moved F n X h p = omega arith

-- a trade that does not raise the weight where its condition holds does not raise the whole
pub total_bounded : (network : List Variable) (H : List Entry) (u : ℕ) (r : TradeRatio) → traded_sum network H r (holds r.condition) ≤ total network H (holds r.condition) * unit
    → total network (H ++ Trade u r ∷ []) always ≤ total network H always * unit
total_bounded network H u r h = rw (traded_always network H u r, total_always network H r.condition) (with_rest _ _ _ h)
  where
    with_rest : (new old rest : ℕ) → new ≤ old * unit → new + unit * rest ≤ (old + rest) * unit
    with_rest new old rest p = omega arith

-- the units of a fair pair do not
pub fair_bounded : (network : List Variable) (H : List Entry) (asked : Asked) (X F_t F_n : ℕ) → IsPairOf network asked.target → AreFair network H asked X F_t F_n
    → traded_sum network H (ratio_in network asked F_t F_n) (holds asked.condition) ≤ total network H (holds asked.condition) * unit
fair_bounded network H asked X F_t F_n fits fair =
    rw (sum_asked network H 0 asked F_t F_n fits)
    (sides_at_most X (10 ^ 6 - X) _ _ _ (add-sub_of_le fair.share) (moved F_t _ X _ fair.hit.not_above) (moved F_n _ (10 ^ 6 - X) _ fair.miss.not_above))

pub never_rises : (network : List Variable) (H : List Entry) (u : ℕ) (asked : Asked) (X F_t F_n : ℕ) → IsPairOf network asked.target → AreFair network H asked X F_t F_n
    → total network (traded network H u asked F_t F_n) always ≤ total network H always * unit
never_rises network H u asked X F_t F_n fits fair = total_bounded network H u (ratio_in network asked F_t F_n) (fair_bounded network H asked X F_t F_n fits fair)

-- one half of the nearness: a is at most its fair share, and c nearly so
near_half : (X Y a c t n : ℕ) → X + Y ≡ 10 ^ 6 → a * 10 ^ 6 ≤ X * unit * (t + n)
    → X * unit * (t + n) * (2 ^ 30 - 1) < (a + t) * 10 ^ 6 * 2 ^ 30 → Y * unit * (t + n) * (2 ^ 30 - 1) < (c + n) * 10 ^ 6 * 2 ^ 30
    → Y * a * 2 ^ 27 < X * c * 2 ^ 27 + 10 ^ 6 * (a + c)
near_half X Y a c t n m p q r =
    let whole : (X + Y) * (t + n) ≡ 10 ^ 6 * (t + n) = ap (λ k. k * (t + n)) m in
    let scaled : Y * (a * 10 ^ 6) ≤ Y * (X * unit * (t + n)) = mul-le-mul_left Y p in
    let close : X * (Y * unit * (t + n) * (2 ^ 30 - 1)) ≤ X * ((c + n) * 10 ^ 6 * 2 ^ 30) = mul-le-mul_left X (le_of_lt r) in
    let small_y : Y * a ≤ 10 ^ 6 * a = mul-le-mul_right a (omega arith) in
    let small_x : X * n ≤ 10 ^ 6 * n = mul-le-mul_right n (omega arith) in
    omega arith

near_by_halves : (X Y a c : ℕ) → X + Y ≡ 10 ^ 6 → Y * a * 2 ^ 27 < X * c * 2 ^ 27 + 10 ^ 6 * (a + c) → X * c * 2 ^ 27 < Y * a * 2 ^ 27 + 10 ^ 6 * (c + a)
    → IsNear (record { num = a; den = a + c }) X
near_by_halves X Y a c m p q =
    let whole : (X + Y) * a ≡ 10 ^ 6 * a = ap (λ k. k * a) m in
    record { above = omega arith; below = omega arith }

up : (F k Z g h : ℕ) → h ≡ g → F * 10 ^ 6 * k ≤ Z * unit * h → F * k * 10 ^ 6 ≤ Z * unit * g
up F k Z g h e p = rw e at (moved F k Z h p)

down : (F k Z g h : ℕ) → h ≡ g → Z * unit * h * (2 ^ 30 - 1) < (F + 1) * 10 ^ 6 * k * 2 ^ 30 → Z * unit * g * (2 ^ 30 - 1) < (F * k + k) * 10 ^ 6 * 2 ^ 30
down F k Z g h e p = rw e at (spread p)
  where
    spread : Z * unit * h * (2 ^ 30 - 1) < (F + 1) * 10 ^ 6 * k * 2 ^ 30 → Z * unit * h * (2 ^ 30 - 1) < (F * k + k) * 10 ^ 6 * 2 ^ 30
    spread p = omega arith

-- the same, of the numbers before and after the trade
near_numbers : (X Y F_t F_n t n h num den : ℕ) → X + Y ≡ 10 ^ 6 → h ≡ t + n → num ≡ F_t * t → den ≡ F_t * t + F_n * n
    → F_t * 10 ^ 6 * t ≤ X * unit * h → X * unit * h * (2 ^ 30 - 1) < (F_t + 1) * 10 ^ 6 * t * 2 ^ 30
    → F_n * 10 ^ 6 * n ≤ Y * unit * h → Y * unit * h * (2 ^ 30 - 1) < (F_n + 1) * 10 ^ 6 * n * 2 ^ 30
    → IsNear (record { num = num; den = den }) X
near_numbers X Y F_t F_n t n h num den m split is_num is_den fits_t close_t fits_n close_n =
    rw (is_num, is_den)
    (near_by_halves X Y (F_t * t) (F_n * n) m
    (near_half X Y (F_t * t) (F_n * n) t n m (up F_t t X (t + n) h split fits_t) (down F_t t X (t + n) h split close_t) (down F_n n Y (t + n) h split close_n))
    (near_half Y X (F_n * n) (F_t * t) n t (omega arith) (up F_n n Y (n + t) h turned fits_n) (down F_n n Y (n + t) h turned close_n) (down F_t t X (n + t) h turned close_t)))
  where
    turned : h ≡ n + t
    turned = omega arith

pub price_moves : (network : List Variable) (H : List Entry) (u : ℕ) (asked : Asked) (X F_t F_n : ℕ) → IsPairOf network asked.target → AreFair network H asked X F_t F_n
    → IsNear (exact_price network (traded network H u asked F_t F_n) asked) X
price_moves network H u asked X F_t F_n fits fair =
    near_numbers X (10 ^ 6 - X) F_t F_n (total network H (with_target asked)) (total network H (without_target asked)) (total network H (holds asked.condition)) _ _
    (add-sub_of_le fair.share) (total_condition network H asked) (traded_target network H u asked F_t F_n fits) (traded_condition network H u asked F_t F_n fits)
    fair.hit.not_above fair.hit.close fair.miss.not_above fair.miss.close
