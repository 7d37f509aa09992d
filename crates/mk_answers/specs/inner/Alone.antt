-- The one place of a list that is filled.
use Rattle.std.specs.Prelude.{ℕ, ◌+◌, List, [], ◌∷◌, Option, Some, None, option_map, is_some, if◌then◌else◌}
use Rattle.std.specs.List.{list_any}

-- the place, from 0, of the only Some of a list; none where there is no Some, or more than one
abbrev pub alone_in : {X : Type 0} → List (Option X) → Option ℕ
alone_in [] = None
alone_in (None ∷ xs) = option_map (λ k. k + 1) (alone_in xs)
alone_in (Some x ∷ xs) = if list_any (λ y. is_some y) xs then None else Some 0
