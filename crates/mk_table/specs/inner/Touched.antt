-- What becomes of the event that ratios may have touched.
use Rattle.std.specs.Prelude.{◌≡◌, ℕ, ◌≤◌, ⊤, Bool, true, List, length, take, All, Option, Some, None}
use Rattle.mk_net.specs.declared.words.Pair.{Pair}
use Rattle.mk_scope.specs.Scopes.{ScopeOf, HasEvent}
use Rattle.mk_table.specs.Tables.{touches}
use Rattle.mk_table.specs.Ratios.{has_pair, KeepsPairs}

-- the scope has each variable of an event that there may be
abbrev pub HasTouched : ScopeOf → Option (List Pair) → Type 0
HasTouched scope None = ⊤
HasTouched scope (Some event) = HasEvent scope event

-- each pair of a part is one of the whole
abbrev pub IsPart : List Pair → List Pair → Type 0
IsPart part whole = All (λ (p : Pair). has_pair whole p ≡ true) part

-- of the first so many pairs of an event a list has those that pass a test, and no more pairs than these
pub record AreTaken (event : List Pair) (count : ℕ) (test : Pair → Bool) (taken : List Pair) : Type 0 where
  pub few : length taken ≤ count
  pub of_these : IsPart taken (take count event)
  pub all : (p : Pair) → test p ≡ true → has_pair (take count event) p ≡ true → has_pair taken p ≡ true

-- an event that holds wherever one of two does
pub record IsEither (first second either : Option (List Pair)) : Type 0 where
  pub of_first : (a : ℕ → ℕ) → touches first a ≡ true → touches either a ≡ true
  pub of_second : (a : ℕ → ℕ) → touches second a ≡ true → touches either a ≡ true
  pub variables : (scope : ScopeOf) → HasTouched scope first → HasTouched scope second → HasTouched scope either
  pub kept : (scope : ScopeOf) → KeepsPairs scope first second either

-- an event that holds wherever another does beside a pair
pub record IsBeside (pair : Pair) (before after : Option (List Pair)) : Type 0 where
  pub holds : (a : ℕ → ℕ) → a pair.variable ≡ pair.value → touches before a ≡ true → touches after a ≡ true
  pub variables : (scope : ScopeOf) → HasTouched scope before → HasTouched scope after
  pub kept : (scope : ScopeOf) → KeepsPairs scope before None after

-- an event that holds wherever another does, and names none but the scope's variables
pub record IsWithin (scope : ScopeOf) (before after : Option (List Pair)) : Type 0 where
  pub holds : (a : ℕ → ℕ) → touches before a ≡ true → touches after a ≡ true
  pub there : HasTouched scope after
  pub kept : KeepsPairs scope before None after

-- an event that holds wherever one of two does, and names none but the scope's variables
pub record IsEitherWithin (scope : ScopeOf) (first second after : Option (List Pair)) : Type 0 where
  pub of_first : (a : ℕ → ℕ) → touches first a ≡ true → touches after a ≡ true
  pub of_second : (a : ℕ → ℕ) → touches second a ≡ true → touches after a ≡ true
  pub there : HasTouched scope after
  pub kept : KeepsPairs scope first second after
