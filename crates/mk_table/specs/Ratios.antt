-- What a table knows of its ratios: how many there are, and which pairs stand in the condition of each.
use Rattle.std.specs.Prelude.{◌≡◌, ℕ, ◌*◌, Bool, true, ◌==◌, ◌&&◌, List, Option, Some, None}
use Rattle.std.specs.List.{list_any}
use Rattle.mk_net.specs.declared.words.Pair.{Pair}
use Rattle.mk_scope.specs.Scopes.{ScopeOf, has_variable}
use Rattle.mk_table.specs.Tables.{TableOf}

-- the pair is one of the pairs
abbrev pub has_pair : List Pair → Pair → Bool
has_pair pairs pair = list_any (λ (p : Pair). p.variable == pair.variable && p.value == pair.value) pairs

-- an event that there may be has the pair; where there is none, no ratio is without it
abbrev pub keeps : Option (List Pair) → Pair → Bool
keeps None pair = true
keeps (Some event) pair = has_pair event pair

-- The event of touched cells that becomes of two, in a table over a scope: it has each pair of the scope's variables that both have, and
-- there is none where there is none of either.
pub record KeepsPairs (scope : ScopeOf) (first second after : Option (List Pair)) : Type 0 where
  pub none : first ≡ None → second ≡ None → after ≡ None
  pub pairs : (p : Pair) → has_variable scope p.variable ≡ true → keeps first p ≡ true → keeps second p ≡ true → keeps after p ≡ true

-- A table has so many ratios, each of which raised its shift by the 40 places of a unit. Its event of touched cells has each pair of its
-- variables that is common to all their conditions, and there is none where there is no ratio.
pub record HasRatios (t : TableOf) (count : ℕ) (common : Pair → Type 0) : Type 0 where
  pub shifted : t.shift ≡ 40 * count
  pub none : count ≡ 0 → t.touched ≡ None
  pub kept : (p : Pair) → common p → has_variable t.scope p.variable ≡ true → keeps t.touched p ≡ true
