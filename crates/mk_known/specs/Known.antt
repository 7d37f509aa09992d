-- What an auditor knows of a market beside its history.
use Rattle.std.specs.Prelude.{◌≡◌, Bool, true, List, length, ◌↔◌}
use Rattle.mk_exact.specs.History.{Entry, users}
use Rattle.mk_exact.specs.Weight.{IsSmall}
use Rattle.mk_exact.specs.Market.{Market}
use Rattle.mk_rules.specs.Quotes.{Quotes}
use Rattle.mk_rules.specs.Transcript.{Standing}

-- the last quotes as they were printed, and whether the history is small
pub record Knowledge : Type 0 where
  pub quotes : Quotes
  pub small : Bool

-- it is knowledge of a market as it stands behind a history
pub record IsKnown (market : Market) (H : List Entry) (known : Knowledge) : Type 0 where
  pub one_place_each : length known.quotes ≡ length (users H)
  pub small : (known.small ≡ true) ↔ IsSmall market.network H

-- where the history and what is known of its quotes stand
abbrev pub standing_with : List Entry → Knowledge → Standing
standing_with H known = record { history = H; quotes = known.quotes }
