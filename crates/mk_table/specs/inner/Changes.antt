-- What the cells of a table may become, in place.
use Rattle.std.specs.Prelude.{◌≡◌, ℕ, ◌<◌, ◌==◌, true, List, All, length, slice_index}
use Rattle.mk_net.specs.Network.{Variable}
use Rattle.mk_net.specs.Named.{variable_at}
use Rattle.mk_net.specs.Asked.{ratio_pairs}
use Rattle.mk_net.specs.Trades.{trade_ratio}
use Rattle.mk_states.specs.Ratios.{units_of}
use Rattle.mk_sums.specs.There.{share_there, support_there}
use Rattle.mk_scope.specs.Scopes.{ScopeOf, HasEvent, HasOneEach, HasSized, LiesIn, cells_in, has_variable}
use Rattle.mk_scope.specs.Cells.{values_at, cell_in, cells_where}
use Rattle.mk_scope.specs.Runs.{IsAmong}
use Rattle.mk_passes.specs.Parts.{HaveRoom, IsChanged, IsFull, IsRestricted, IsTimes, IsTimesCell}
use Rattle.mk_table.specs.declared.changes.Change.{Change}
use Rattle.mk_table.specs.declared.changes.Change.TheVariants.{Shares, Supports, Units, Kept, Times, Put}

-- the cells of a scope pick in the rows of a variable, with room for one step more
pub record Pick (net : List Variable) (x : ℕ) (scope : ScopeOf) (digits exponents : List ℕ) : Type 0 where
  pub variable : x < length net
  pub family : HasSized net scope x
  pub parents : All (HasSized net scope) (variable_at net x).parents
  pub room : (j : ℕ) × HaveRoom j digits exponents 1

-- the cells of a table over a scope may be changed so
abbrev pub Fits : Change → ScopeOf → List ℕ → List ℕ → Type 0
Fits (Shares net variable) scope d e = Pick net.now variable scope d e
Fits (Supports net variable) scope d e = Pick net.now variable scope d e
Fits (Units ratio chosen) scope d e =
    HasEvent scope (ratio_pairs (trade_ratio ratio.now)) × HasOneEach scope (trade_ratio ratio.now) × (chosen.now ≡ cells_where scope ratio.now.condition)
    × ((j : ℕ) × HaveRoom j d e 1)
Fits (Kept pair) scope d e = has_variable scope pair.variable ≡ true
Fits (Times places message) scope d e =
    (places.now.whole ≡ scope) × IsFull places.now.part message.digits.now message.exponents.now × ((j : ℕ) × HaveRoom j message.digits.now message.exponents.now 1)
    × ((j : ℕ) × HaveRoom j d e 1)
Fits (Put places message) scope d e =
    (places.now.whole ≡ scope) × IsFull places.now.part message.digits.now message.exponents.now × LiesIn places.now.part places.now.whole

-- they were changed so
abbrev pub HasMade : Change → ScopeOf → List ℕ → List ℕ → List ℕ → List ℕ → Type 0
HasMade (Shares net variable) scope = IsChanged (λ c d e x y. IsTimes d e 0 (share_there net.now variable (values_at scope c)) 0 x y) (λ c. c < cells_in scope)
HasMade (Supports net variable) scope = IsChanged (λ c d e x y. IsTimes d e 0 (support_there net.now variable (values_at scope c)) 0 x y) (λ c. c < cells_in scope)
HasMade (Units ratio chosen) scope =
    IsChanged (λ c d e x y. IsTimes d e 40 (units_of (trade_ratio ratio.now) (values_at scope c ratio.now.variable)) 0 x y) (IsAmong chosen.now (length chosen.now))
HasMade (Kept pair) scope = IsChanged (λ c d e x y. IsRestricted (values_at scope c pair.variable == pair.value) d e x y) (λ c. c < cells_in scope)
HasMade (Times places message) scope =
    IsChanged (λ c d e x y. IsTimesCell d e (slice_index message.digits.now (cell_in places.now.part places.now.whole c))
    (slice_index message.exponents.now (cell_in places.now.part places.now.whole c)) x y) (λ c. c < cells_in places.now.whole)
HasMade (Put places message) scope = λ od oe d e.
    ((c : ℕ) → c < cells_in places.now.whole → slice_index d c ≡ slice_index message.digits.now (cell_in places.now.part places.now.whole c))
    × ((c : ℕ) → c < cells_in places.now.whole → slice_index e c ≡ slice_index message.exponents.now (cell_in places.now.part places.now.whole c))
