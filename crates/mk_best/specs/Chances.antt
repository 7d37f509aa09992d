-- Chances after a history.
use Rattle.std.specs.Prelude.{◌≡◌, List, length, true, false, ◌&&◌}
use Rattle.mk_net.specs.declared.words.Pair.{Pair}
use Rattle.mk_net.specs.Bounds.{sharpness}
use Rattle.mk_net.specs.Network.{Variable}
use Rattle.mk_states.specs.Events.{holds}
use Rattle.mk_exact.specs.Factors.{Fraction}
use Rattle.mk_exact.specs.History.{Entry, trades}
use Rattle.mk_exact.specs.Prices.{CoversPrice, price_where}
use Rattle.mk_exact.specs.Weight.{IsSmall, cannot_come}
pub use Rattle.mk_replay.specs.Placed.{IsPlaced}
use Rattle.mk_best.specs.declared.found.Chance.{Chance}
use Rattle.mk_best.specs.declared.found.Chance.TheVariants.{Price, Impossible}

-- the share of the states that meet the wanted pairs among those that meet the given ones
abbrev pub chance_of : List Variable → List Entry → List Pair → List Pair → Fraction
chance_of network H want given = price_where network H given (λ s. holds given s && holds want s)

-- an interval that covers the chance, as sharply as so many trades allow, or that no possible state
-- meets the given pairs
abbrev pub IsChance : List Variable → List Entry → List Pair → List Pair → Chance → Type 0
IsChance network H want given (Price low high) =
    (cannot_come network H (holds given) ≡ false) × CoversPrice (IsSmall network H)
    (sharpness (length (trades H))) (chance_of network H want given) low high
IsChance network H want given Impossible = cannot_come network H (holds given) ≡ true
