-- What one entry more leaves of the market as it stands. Each law is the contract of a function of
-- this crate, and so proved.
use Rattle.std.specs.Prelude.{◌≡◌, List, [], ◌∷◌, ◌++◌}
use Rattle.mk_net.specs.Network.{IsNetwork}
use Rattle.mk_exact.specs.History.{Entry}
use Rattle.mk_exact.specs.Market.{Market, present, with_entry}
use Rattle.mk_exact.specs.Accepted.{IsAcceptable, IsInRange, AreAccepted}
use Rattle.mk_exact.specs.Proper.{IsProper}
use Rattle.mk_exact.specs.Sound.{IsSound}

-- before any entry the market is what its file gave
abbrev pub PresentAtFirst : Type 0
PresentAtFirst = (market : Market) → present market [] ≡ market

-- behind one entry more it is the market as it stood, with that entry
abbrev pub PresentAfter : Type 0
PresentAfter = (market : Market) (H : List Entry) (e : Entry)
    → present market (H ++ e ∷ []) ≡ with_entry e (present market H)

-- its variables stay a network
abbrev pub NetworkStays : Type 0
NetworkStays = (market : Market) (H : List Entry) (e : Entry) → IsNetwork market.network
    → IsInRange market.network H e
    → IsNetwork (with_entry e market).network

-- an acceptable change leads from a sound history to one that is sound in the market after it
abbrev pub SoundAfter : Type 0
SoundAfter = (market : Market) (H : List Entry) (e : Entry) → IsProper market.network H
    → IsSound market.network H → IsNetwork market.network → IsAcceptable market.network H e
    → IsInRange market.network H e
    → IsSound (with_entry e market).network (H ++ e ∷ [])

-- and a change in range from a proper history to one that is proper there
abbrev pub ProperAfter : Type 0
ProperAfter = (market : Market) (H : List Entry) (e : Entry) → IsProper market.network H
    → IsInRange market.network H e
    → IsProper (with_entry e market).network (H ++ e ∷ [])

-- so a history of accepted changes is sound and proper in the market at present
abbrev pub SoundAlways : Type 0
SoundAlways = (market : Market) (H : List Entry) → IsNetwork market.network
    → AreAccepted market [] H
    → IsSound (present market H).network H × IsProper (present market H).network H
