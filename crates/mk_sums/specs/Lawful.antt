-- The least of exact values, of which 0 stands for an absent one.
use Rattle.std.specs.Prelude.{ℕ, cond, min, ◌==◌}

-- the lesser of the values that are present
abbrev pub lesser_present : ℕ → ℕ → ℕ
lesser_present a b = cond (a == 0) b (cond (b == 0) a (min a b))
