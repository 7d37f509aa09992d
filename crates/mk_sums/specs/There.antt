-- What an assignment picks: the share of a variable, the units of a trade, and whether an event holds. For the assignment of
-- a state these are what the exact market says of that state.
use Rattle.std.specs.Prelude.{ℕ, ◌+◌, ◌*◌, List, [], slice_index, slice_index_or, fold, Bool, ◌==◌, nat_le, if◌then◌else◌}
use Rattle.std.specs.List.{list_all}
use Rattle.mk_net.specs.declared.words.Pair.{Pair}
use Rattle.mk_net.specs.Asked.{TradeRatio}
use Rattle.mk_net.specs.Network.{Variable, sizes}
use Rattle.mk_net.specs.Named.{variable_at}
use Rattle.mk_states.specs.Ratios.{unit, units_of}

-- the number of the row for the parents' values, the last parent's value changing fastest
abbrev pub row_there : List ℕ → List ℕ → (ℕ → ℕ) → ℕ
row_there sizes parents a = fold (λ row p. row * slice_index sizes p + a p) 0 parents

-- the share of variable k
abbrev pub share_there : List Variable → ℕ → (ℕ → ℕ) → ℕ
share_there network k a =
    let v = variable_at network k in
    slice_index (slice_index_or v.rows (row_there (sizes network) v.parents a) []) (a k)

-- one where that share is not nothing
abbrev pub support_there : List Variable → ℕ → (ℕ → ℕ) → ℕ
support_there network k a = if nat_le 1 (share_there network k a) then 1 else 0

-- whether each pair of an event holds
abbrev pub holds_there : List Pair → (ℕ → ℕ) → Bool
holds_there event a = list_all (λ (p : Pair). a p.variable == p.value) event

-- the units of a trade
abbrev pub ratio_there : TradeRatio → (ℕ → ℕ) → ℕ
ratio_there r a = if holds_there r.condition a then units_of r (a r.variable) else unit
