-- Which changes weigh on no state.
use Rattle.std.specs.Prelude.{◌≡◌, Option, None, IfSome}
use Rattle.mk_exact.specs.History.{Entry, trade_in, addition_in}

-- a change, if it is one, is no trade and adds no question, and leaves each weight as it was
abbrev pub LeavesWeights : Option Entry → Type 0
LeavesWeights change = IfSome change (λ e. (trade_in e ≡ None) × (addition_in e ≡ None))
