-- What a comparison of two enclosures says of the exact numbers.
use Rattle.std.specs.Prelude.{ℕ, ◌+◌, ◌<◌, ◌≤◌}
use Rattle.mk_scaled.specs.Near.{IsNear}
use Rattle.mk_enclose.specs.declared.enclosure.Enclosure.{Enclosure}
use Rattle.mk_enclose.specs.Enclosure.{HasGrade, IsExact}
use Rattle.mk_judge.specs.declared.comparing.Compared.{Compared}
use Rattle.mk_judge.specs.declared.comparing.Compared.TheVariants.{AtMost, Above, Unsure}
use Rattle.mk_judge.specs.declared.judged.Judged.{Judged}
use Rattle.mk_judge.specs.declared.judged.Judged.TheVariants.{Allowed, Wrong, Unclear}

-- each is at most the other times (1 + 2 ^ -60) ^ steps
pub record AreNear (a b steps : ℕ) : Type 0 where
  pub upward : IsNear a b steps
  pub downward : IsNear b a steps

-- what is left open: the two are near by the steps of the grades of both enclosures, of which one
-- was rounded
pub record LeavesOpen (left right : Enclosure) (a b : ℕ) : Type 0 where
  pub near : (g h : ℕ) → HasGrade left g → HasGrade right h → AreNear a b (g + h)
  pub rounded : IsExact left → IsExact right → ⊥

-- the one number is at most the other, or above it, or something else is known
abbrev pub Says : Compared → ℕ → ℕ → (otherwise : Type 0) → Type 0
Says AtMost a b otherwise = a ≤ b
Says Above a b otherwise = b < a
Says Unsure a b otherwise = otherwise

-- the judgement where the one has to be at most the other, and where it has to be above
abbrev pub where_at_most : Compared → Judged
where_at_most AtMost = Allowed
where_at_most Above = Wrong
where_at_most Unsure = Unclear

abbrev pub where_above : Compared → Judged
where_above AtMost = Wrong
where_above Above = Allowed
where_above Unsure = Unclear
