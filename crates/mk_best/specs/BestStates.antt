-- Best states after a history.
use Rattle.std.specs.Prelude.{◌≡◌, ℕ, ◌+◌, ◌*◌, ◌^◌, ◌<◌, ◌≤◌, List, length, Bool, true, false}
use Rattle.std.specs.Prelude.{max}
use Rattle.mk_net.specs.declared.words.Pair.{Pair}
use Rattle.mk_net.specs.Bounds.{sharpness}
use Rattle.mk_net.specs.Network.{Variable, sizes}
use Rattle.mk_states.specs.Events.{holds}
use Rattle.mk_exact.specs.History.{Entry, trades}
use Rattle.mk_states.specs.InitialWeight.{can_come, value_at}
use Rattle.mk_exact.specs.Prices.{CoversPrice}
use Rattle.mk_states.specs.States.{plus_over, IsState}
use Rattle.mk_exact.specs.Weight.{IsSmall, weight, total, possible_states, is_possible, cannot_come}
use Rattle.mk_enclose.specs.declared.enclosure.Enclosure.{Enclosure}
use Rattle.mk_enclose.specs.Enclosure.{Encloses, lower_of, upper_of}
use Rattle.mk_best.specs.declared.found.Best.{Best}
use Rattle.mk_best.specs.declared.found.Best.TheVariants.{Found, Impossible}

-- the greatest weight of a possible state that passes a test; 0 where none does
abbrev pub greatest : List Variable → List Entry → (List ℕ → Bool) → ℕ
greatest network H test = plus_over max 0 (weight network H) (possible_states network H test)

-- the best weight: the greatest of a possible state that meets the given pairs
abbrev pub best_weight : List Variable → List Entry → List Pair → ℕ
best_weight network H given = greatest network H (holds given)

-- one list of values is before another: where they differ first, it has the lesser value
pub record IsEarlier (t s : List ℕ) : Type 0 where
  pub place : ℕ
  pub same : (k : ℕ) → k < place → value_at t k ≡ value_at s k
  pub less : value_at t place < value_at s place

-- the state has the best weight, and each possible one before it that meets the given pairs has
-- less
pub record IsFirstBest (network : List Variable) (H : List Entry) (given : List Pair)
    (s : List ℕ) : Type 0 where
  pub best : weight network H s ≡ best_weight network H given
  pub before : (t : List ℕ) → IsState (sizes network) t → is_possible H t ≡ true
      → holds given t ≡ true → IsEarlier t s
      → weight network H t < best_weight network H given

-- a best state: a possible one that meets the given pairs. One enclosure has its weight and the
-- best weight; low .. high covers the share of its weight in that of all states that meet the
-- pairs, and `most`, which is not far above low, is at least the share of the best weight. In the
-- small case it is the first of those of the best weight, and `most` is high
pub record IsBest (network : List Variable) (H : List Entry) (given : List Pair)
    (low high most : ℕ) (value : Enclosure) (s : List ℕ) : Type 0 where
  pub state : IsState (sizes network) s
  pub comes : can_come network s ≡ true
  pub possible : is_possible H s ≡ true
  pub meets : holds given s ≡ true
  pub its_weight : Encloses value (weight network H s)
  pub weight_of_best : Encloses value (best_weight network H given)
  pub width : upper_of value * 2 ^ 31 ≤ lower_of value * (2 ^ 31 + 1)
  pub covers : CoversPrice (IsSmall network H) (sharpness (length (trades H)))
      (record { num = weight network H s; den = total network H (holds given) }) low high
  pub at_most : 10 ^ 10 * best_weight network H given ≤ most * total network H (holds given)
  pub narrow : most ≤ low + 5
  pub first : IsSmall network H → IsFirstBest network H given s
  pub same : IsSmall network H → most ≡ high

-- a best state, where some possible state meets the given pairs; or that none does
abbrev pub IsBestFound : List Variable → List Entry → List Pair → Best → Type 0
IsBestFound network H given (Found low high most value state) =
    (cannot_come network H (holds given) ≡ false)
    × IsBest network H given low high most value state
IsBestFound network H given Impossible = cannot_come network H (holds given) ≡ true
