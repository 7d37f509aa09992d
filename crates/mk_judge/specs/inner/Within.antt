-- Whether the numbers between two ends lie inside limits.
use Rattle.std.specs.Prelude.{ℕ, ◌<◌, ◌≤◌, ◌⊎◌, Option}
use Rattle.mk_exact.specs.Limits.{Inside}
use Rattle.mk_judge.specs.declared.judged.Judged.{Judged}
use Rattle.mk_judge.specs.declared.judged.Judged.TheVariants.{Allowed, Wrong, Unclear}
use Rattle.mk_judge.specs.declared.wanted.Wanted.{Wanted}

abbrev pub AllInside : ℕ → ℕ → Option (ℕ × ℕ) → Type 0
AllInside from to limits = (X : ℕ) → from ≤ X → X ≤ to → Inside limits X

abbrev pub SomeOutside : ℕ → ℕ → Option (ℕ × ℕ) → Type 0
SomeOutside from to limits = (X : ℕ) × (from ≤ X) × (X ≤ to) × (Inside limits X → ⊥)

-- all between the outer ends do, or some between the inner ones does not, or the ends lie apart
abbrev pub SaysInside : Judged → Wanted → Option (ℕ × ℕ) → Type 0
SaysInside Allowed wanted limits = AllInside wanted.outer_low wanted.outer_high limits
SaysInside Wrong wanted limits = SomeOutside wanted.inner_low wanted.inner_high limits
SaysInside Unclear wanted limits =
    (wanted.outer_low < wanted.inner_low) ⊎ (wanted.inner_high < wanted.outer_high)
