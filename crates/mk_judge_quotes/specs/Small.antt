-- Whether a history is small, as a flag tells it.
use Rattle.std.specs.Prelude.{◌≡◌, Bool, true, List, ◌↔◌}
use Rattle.mk_exact.specs.History.{Entry}
use Rattle.mk_exact.specs.Market.{Market}
use Rattle.mk_exact.specs.Weight.{IsSmall}

-- the flag is set exactly where the history is small
abbrev pub TellsSmall : Bool → Market → List Entry → Type 0
TellsSmall small market H = (small ≡ true) ↔ IsSmall market.network H
