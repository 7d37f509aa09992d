-- The first fault of several.
use Rattle.std.specs.Prelude.{ℕ, ◌+◌, List, [], ◌∷◌, Bool, if◌then◌else◌, Option, Some, None}

-- a fault, where a test passes
abbrev pub fault_if : {F : Type 0} → Bool → F → Option F
fault_if test fault = if test then Some fault else None

-- the first of two
abbrev pub or_else : {F : Type 0} → Option F → Option F → Option F
or_else None later = later
or_else (Some fault) later = Some fault

-- the first of a list
abbrev pub first_of : {F : Type 0} → List (Option F) → Option F
first_of [] = None
first_of (fault ∷ later) = or_else fault (first_of later)

-- the first fault of the items of a list, which are numbered from a place on
abbrev pub first_in : {X F : Type 0} → (ℕ → X → Option F) → ℕ → List X → Option F
first_in fault place [] = None
first_in fault place (x ∷ xs) = or_else (fault place x) (first_in fault (place + 1) xs)
