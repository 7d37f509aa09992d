-- What an enclosure says of an exact number.
use Rattle.std.specs.Prelude.{◌≡◌, ℕ, ◌-◌, ◌^◌, ◌≤◌}
use Rattle.mk_scaled.specs.Near.{IsNear}
use Rattle.mk_enclose.specs.declared.enclosure.Enclosure.{Enclosure}

-- the two ends
abbrev pub lower_of : Enclosure → ℕ
lower_of e = e.lo

abbrev pub upper_of : Enclosure → ℕ
upper_of e = e.hi

-- the exact number lies between the ends
pub record Encloses (e : Enclosure) (number : ℕ) : Type 0 where
  pub lower : e.lo ≤ number
  pub upper : number ≤ e.hi

-- the upper end is at most the lower one times (1 + 2 ^ -60) ^ grade
pub record HasGrade (e : Enclosure) (grade : ℕ) : Type 0 where
  pub near : IsNear e.lo e.hi grade

-- up to this grade the ends are within one part in 2 ^ 40 of each other
abbrev pub widest_grade : ℕ
widest_grade = 2 ^ 20 - 1

-- nothing was rounded
pub record IsExact (e : Enclosure) : Type 0 where
  pub same : e.lo ≡ e.hi

-- the ends are near each other, by at most so many steps of rounding
pub record IsGradedWithin (e : Enclosure) (most : ℕ) : Type 0 where
  pub grade : ℕ
  pub small : grade ≤ most
  pub has : HasGrade e grade
