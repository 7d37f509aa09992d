-- Payments by rule: in the one possible state each user's cash, with every product rounded by the same rule. So a payment is a
-- number that the history gives, whoever reckons it.
use Rattle.std.specs.Prelude.{ℕ, ◌+◌, ◌-◌, ◌*◌, List, [], ◌∷◌, map, sum, length}
use Rattle.mk_net.specs.Network.{Variable}
use Rattle.mk_scaled.specs.ByRule.{rounded_down, rounded_up, power_by, whole_log}
use Rattle.mk_states.specs.States.{numbers_below}
use Rattle.mk_states.specs.Events.{always}
use Rattle.mk_states.specs.Ratios.{ratio_at}
use Rattle.mk_exact.specs.History.{Entry, UserTrade, users, trades_of, deposited, withdrawn}
use Rattle.mk_exact.specs.Weight.{possible_states}
use Rattle.mk_exact.specs.Factors.{trade_count}

-- a number times the ratios of some trades in a state, one after another, each product rounded
abbrev pub times_by : (ℕ → ℕ) → ℕ → List UserTrade → List ℕ → ℕ
times_by round g [] s = g
times_by round g (t ∷ ts) s = times_by round (round (g * ratio_at t.ratio s)) ts s

-- the rounded gain of a user's trades
abbrev pub gain_by : (ℕ → ℕ) → List Entry → ℕ → List ℕ → ℕ
gain_by round H u s = times_by round 1 (trades_of H u) s

-- the points of it: the whole bits of its power, with those paid in, without those taken out and 40 for each trade
abbrev pub points_by : (ℕ → ℕ) → List Entry → ℕ → ℕ → List ℕ → ℕ
points_by round H b u s =
    (whole_log (power_by round (gain_by round H u s) b) + b * deposited H u)
    - b * (withdrawn H u + 40 * trade_count H u)

-- the two ends of a user's payment
abbrev pub payment_by_rule : List Entry → ℕ → List ℕ → ℕ → ℕ × ℕ
payment_by_rule H b s u = (points_by rounded_down H b u s, points_by rounded_up H b u s)

-- the first of some states
abbrev pub first_state : List (List ℕ) → List ℕ
first_state [] = []
first_state (s ∷ states) = s

-- the state that is possible where one is left
abbrev pub outcome : List Variable → List Entry → List ℕ
outcome network H = first_state (possible_states network H always)

-- a payment for each user, in the order of joining
abbrev pub payments_by_rule : List Variable → List Entry → ℕ → List (ℕ × ℕ)
payments_by_rule network H b = map (payment_by_rule H b (outcome network H)) (numbers_below (length (users H)))

-- what is paid in all: the low ends together
abbrev pub paid_in_all : List (ℕ × ℕ) → ℕ
paid_in_all payments = sum (map (λ (p : ℕ × ℕ). p.0) payments)
