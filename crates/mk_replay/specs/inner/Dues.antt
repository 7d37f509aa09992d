-- What all users are due, entry by entry.
use Rattle.std.specs.Prelude.{ℕ, ◌+◌, ◌<◌, ◌≤◌, ◌==◌, if◌then◌else◌, ⊤, List, [], ◌∷◌, map}
use Rattle.std.specs.Prelude.{length, slice_index_or, slice_set}
use Rattle.mk_net.specs.declared.words.Pair.{Pair}
use Rattle.mk_net.specs.Bounds.{max_market_trades, number_limit}
use Rattle.mk_states.specs.States.{numbers_below}
use Rattle.mk_states.specs.Ratios.{ratio_at}
use Rattle.mk_exact.specs.History.{Entry, Join, Deposit, Withdraw, Trade, Resolve, Settle, Add}
use Rattle.mk_cash.specs.Dues.{DueOf, no_due, max_due_bits, due_of, due_traded, due_deposited}
use Rattle.mk_cash.specs.Dues.{due_withdrawn}

-- nothing is due to so many users
abbrev pub no_dues : ℕ → List DueOf
no_dues joined = map (λ u. no_due) (numbers_below joined)

-- what is due to each of so many users after a history, in a state
abbrev pub dues_of : ℕ → List ℕ → List Entry → List DueOf
dues_of joined s H = map (λ u. due_of H u s) (numbers_below joined)

-- what is due to a user
abbrev pub due_at : List DueOf → ℕ → DueOf
due_at dues u = slice_index_or dues u no_due

-- one more entry changes what is due to its own user
abbrev pub dues_after : List ℕ → Entry → List DueOf → List DueOf
dues_after s (Join name) dues = dues
dues_after s (Deposit u bits) dues = slice_set dues u (due_deposited bits (due_at dues u))
dues_after s (Withdraw u bits) dues = slice_set dues u (due_withdrawn bits (due_at dues u))
dues_after s (Trade u ratio) dues = slice_set dues u (due_traded (ratio_at ratio s) (due_at dues u))
dues_after s (Resolve pair) dues = dues
dues_after s (Settle payments) dues = dues
dues_after s (Add addition) dues = dues

-- a trade with some units that fit, by a user of so few
pub record CanTrade (units joined : ℕ) (u : ℕ) (due : DueOf) : Type 0 where
  pub user : u < joined
  pub some : 1 ≤ units
  pub fits : units < number_limit
  pub room : due.trades < max_market_trades

-- bits that a user moves, besides those moved before
pub record CanMove (bits joined u before : ℕ) : Type 0 where
  pub user : u < joined
  pub room : before + bits ≤ max_due_bits

-- one more entry can be taken
abbrev pub CanTakeDue : List ℕ → Entry → List DueOf → Type 0
CanTakeDue s (Join name) dues = ⊤
CanTakeDue s (Deposit u bits) dues = CanMove bits (length dues) u (due_at dues u).deposited
CanTakeDue s (Withdraw u bits) dues = CanMove bits (length dues) u (due_at dues u).withdrawn
CanTakeDue s (Trade u ratio) dues = CanTrade (ratio_at ratio s) (length dues) u (due_at dues u)
CanTakeDue s (Resolve pair) dues = ⊤
CanTakeDue s (Settle payments) dues = ⊤
CanTakeDue s (Add addition) dues = ⊤

-- the value that the first of some pairs gives a variable, or 0
abbrev pub value_given : List Pair → ℕ → ℕ
value_given [] v = 0
value_given (p ∷ ps) v = if p.variable == v then p.value else value_given ps v
