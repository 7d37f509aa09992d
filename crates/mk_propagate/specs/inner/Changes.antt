-- What calls make of one table.
use Rattle.std.specs.Prelude.{◌≡◌, ℕ, ◌+◌, ◌-◌, ◌*◌, ◌==◌, if◌then◌else◌, List, length, Some, None}
use Rattle.mk_net.specs.declared.words.Pair.{Pair}
use Rattle.mk_net.specs.Asked.{TradeRatio}
use Rattle.mk_net.specs.Network.{Variable}
use Rattle.mk_states.specs.States.{plus_over}
use Rattle.mk_sums.specs.There.{ratio_there}
use Rattle.mk_scope.specs.Scopes.{cells_in}
use Rattle.mk_scope.specs.Cells.{values_at, cells_onto, cells_beside}
use Rattle.mk_table.specs.Tables.{TableOf, HasNumbers}
use Rattle.mk_table.specs.Ratios.{KeepsPairs}
use Rattle.mk_table.specs.Margins.{IsMarginBut}
use Rattle.mk_engine.specs.Meaning.{Factor, factor_there}

-- each cell was multiplied by the number that a factor gives it, which is no ratio
pub record IsTimesFactor (network : List Variable) (f : Factor) (before after : TableOf) : Type 0
  where
    pub scope : after.scope ≡ before.scope
    pub shift : after.shift ≡ before.shift
    pub numbers : (g : ℕ → ℕ) (n : ℕ) → HasNumbers before g n
        → HasNumbers after (λ c. g c * factor_there network f (values_at before.scope c)) (n + 1)
    pub touched : after.touched ≡ before.touched

-- each cell was multiplied by a ratio
pub record IsTimesRatio (ratio : TradeRatio) (before after : TableOf) : Type 0 where
  pub scope : after.scope ≡ before.scope
  pub shift : after.shift ≡ before.shift + 40
  pub numbers : (g : ℕ → ℕ) (n : ℕ) → HasNumbers before g n
      → HasNumbers after (λ c. g c * ratio_there ratio (values_at before.scope c)) (n + 1)
  pub touched : KeepsPairs before.scope before.touched (Some ratio.condition) after.touched

-- cells that give the pair's variable another value were made absent
pub record IsRestricted (q : Pair) (before after : TableOf) : Type 0 where
  pub scope : after.scope ≡ before.scope
  pub shift : after.shift ≡ before.shift
  pub numbers : (g : ℕ → ℕ) (n : ℕ) → HasNumbers before g n
      → HasNumbers after (λ c. if values_at before.scope c q.variable == q.value then g c else 0) n
  pub touched : KeepsPairs before.scope before.touched None after.touched

-- each cell is 1 again
pub record IsCleared (before after : TableOf) : Type 0 where
  pub scope : after.scope ≡ before.scope
  pub shift : after.shift ≡ 0
  pub ones : HasNumbers after (λ c. 1) 0
  pub full : length after.digits ≡ cells_in after.scope
  pub touched : after.touched ≡ None

-- the cells that an event allows were made anew: the others had the pluses of a whole's cells
-- already
pub record IsMarginAgain (plus : ℕ → ℕ → ℕ) (event : List Pair)
    (whole before after : TableOf) : Type 0 where
  pub was_full : length before.digits ≡ cells_in before.scope
  pub scope : after.scope ≡ before.scope
  pub shift : after.shift ≡ whole.shift
  pub full : length after.digits ≡ cells_in after.scope
  pub numbers : (f : ℕ → ℕ) (n : ℕ) → HasNumbers whole f n → IsMarginBut plus event whole before f n
      → HasNumbers after (λ d. plus_over plus 0 f (cells_onto before.scope whole.scope d))
      (n + (2 * cells_beside before.scope whole.scope - 1))
  pub touched : KeepsPairs before.scope whole.touched before.touched after.touched
