-- Events that no ratio changes: each of their states has one unit of every ratio.
use Rattle.std.specs.Prelude.{◌≡◌, ◌≢◌, ⊤, not, List, filter, All}
use Rattle.std.specs.List.{Contains}
use Rattle.mk_net.specs.declared.words.Pair.{Pair}
use Rattle.mk_engine.specs.Meaning.{Meaning, Factor, RowsOf, SupportOf, RatioOf, is_ratio}

-- a factor that is a ratio has the pair in its condition
abbrev pub HasCondition : Pair → Factor → Type 0
HasCondition pair (RowsOf variable) = ⊤
HasCondition pair (SupportOf variable) = ⊤
HasCondition pair (RatioOf ratio) = Contains ratio.condition pair

-- One pair stands in the condition of every ratio, and the event gives that pair's variable another value.
pub record IsApart (m : Meaning) (event : List Pair) : Type 0 where
  pub pair : Pair
  pub in_each : All (HasCondition pair) m.factors
  pub other : Pair
  pub in_event : Contains event other
  pub same_variable : other.variable ≡ pair.variable
  pub another_value : other.value ≢ pair.value

-- the rows and supports alone, and what is known
abbrev pub without_ratios : Meaning → Meaning
without_ratios m = record { network = m.network; tree = m.tree; factors = filter (λ f. not (is_ratio f)) m.factors; known = m.known }
