-- What payments by rule are worth beside the exact factors, and that they fit.
use Rattle.std.specs.Prelude.{◌≡◌, ℕ, ◌<◌, ◌≤◌, List, [], ◌∷◌, length}
use Rattle.mk_net.specs.Bounds.{number_limit, million, sharpness}
use Rattle.mk_net.specs.Network.{Variable, IsNetwork}
use Rattle.mk_states.specs.Events.{always}
use Rattle.mk_exact.specs.History.{Entry, trades}
use Rattle.mk_exact.specs.Weight.{possible_states, IsSmall}
use Rattle.mk_exact.specs.Factors.{HoldsNoTrade, factor}
use Rattle.mk_exact.specs.Cash.{IsCashBetween, CoversCash}
use Rattle.mk_exact.specs.Proper.{IsProper}
use Rattle.mk_exact.specs.Sound.{IsSound}
use Rattle.mk_exact.specs.Existing.{IsWithinBounds}
use Rattle.mk_exact.specs.ByRule.{payment_by_rule, payments_by_rule, paid_in_all}

-- in the one possible state of a sound history each user's payment by rule covers the cash of the
-- user's factor, as sharply as a market does that takes as many trades
abbrev pub PaymentByRuleCovers : Type 0
PaymentByRuleCovers = (network : List Variable) (H : List Entry) (most_trades b : ℕ) (s : List ℕ)
    (u : ℕ)
    → IsNetwork network → IsProper network H → IsSound network H → IsWithinBounds H
    → length (trades H) ≤ most_trades → 1 ≤ b → b ≤ million
    → possible_states network H always ≡ s ∷ []
    → CoversCash (IsSmall network H) (HoldsNoTrade H u) (sharpness most_trades) (factor H u s) b
    (payment_by_rule H b s u).0 (payment_by_rule H b s u).1

-- however many trades there are, the cash of the user's factor lies between the two ends
abbrev pub PaymentByRuleIsBetween : Type 0
PaymentByRuleIsBetween = (network : List Variable) (H : List Entry) (b : ℕ) (s : List ℕ) (u : ℕ)
    → IsProper network H → IsSound network H → 1 ≤ b → possible_states network H always ≡ s ∷ []
    → IsCashBetween (factor H u s) b (payment_by_rule H b s u).0 (payment_by_rule H b s u).1

-- in any state both its ends fit 63 bits
abbrev pub PaymentByRuleFits : Type 0
PaymentByRuleFits = (H : List Entry) (b : ℕ) (s : List ℕ) (u : ℕ) → IsWithinBounds H → b ≤ million
    → ((payment_by_rule H b s u).0 < number_limit) × ((payment_by_rule H b s u).1 < number_limit)

-- what all users are paid by rule fits 63 bits
abbrev pub PaymentsByRuleFit : Type 0
PaymentsByRuleFit = (network : List Variable) (H : List Entry) (b : ℕ) → IsWithinBounds H
    → b ≤ million
    → paid_in_all (payments_by_rule network H b) < number_limit
