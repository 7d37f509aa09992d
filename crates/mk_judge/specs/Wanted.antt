-- Which shares are wanted, by ends that lie apart where enclosures leave them open.
use Rattle.std.specs.Prelude.{ℕ, ◌+◌, ◌*◌, ◌^◌, ◌<◌, ◌≤◌, ◌⊎◌, Option}
use Rattle.mk_net.specs.Bounds.{million, max_share}
use Rattle.mk_exact.specs.Limits.{Side, Inside}
use Rattle.mk_enclose.specs.declared.enclosure.Enclosure.{Enclosure}
use Rattle.mk_enclose.specs.Enclosure.{HasGrade}
use Rattle.mk_quote.specs.declared.side.SideBounds.{SideBounds}
use Rattle.mk_judge.specs.Compared.{AreNear}
use Rattle.mk_judge.specs.declared.wanted.Wanted.{Wanted}

-- the two numbers of one inequality of IsWanted are near: of the first by two steps more than the
-- grades of both weights and of the gain, of the second by the grades of both weights
abbrev pub IsShareNear : Enclosure → Enclosure → Enclosure → Side → ℕ → Type 0
IsShareNear part whole gain side X =
    (g h k : ℕ) → HasGrade part g → HasGrade whole h → HasGrade gain k
    → AreNear (side.least.den * million * side.price.num * (2 ^ 19 + 1))
    (side.least.num * X * side.price.den * 2 ^ 19) (g + h + k + 2)
    ⊎ AreNear (X * side.price.den) (2 ^ 22 * million * side.price.num) (g + h)

-- for some share
pub record IsSomeNear (part whole gain : Enclosure) (side : Side) : Type 0 where
  pub share : ℕ
  pub from : 1 ≤ share
  pub to : share ≤ max_share
  pub near : IsShareNear part whole gain side share

abbrev pub IsWantedNear : SideBounds → Side → Type 0
IsWantedNear bounds side = IsSomeNear bounds.part bounds.whole bounds.factor.gain side

-- no share outside of the outer ends is meant, and each within the inner ones is; where the ends
-- lie apart, something else is known
pub record HasEnds (wanted : Wanted) (IsMeant : ℕ → Type 0) (otherwise : Type 0) : Type 0 where
  pub outer : (X : ℕ) → 1 ≤ X → X ≤ max_share → IsMeant X
      → (wanted.outer_low ≤ X) × (X ≤ wanted.outer_high)
  pub inner : (X : ℕ) → wanted.inner_low ≤ X → X ≤ wanted.inner_high → IsMeant X
  pub low : wanted.outer_low < wanted.inner_low → otherwise
  pub high : wanted.inner_high < wanted.outer_high → otherwise

-- each share that is meant lies inside limits: with none, no share is meant
abbrev pub LieInside : (ℕ → Type 0) → Option (ℕ × ℕ) → Type 0
LieInside IsMeant limits = (X : ℕ) → 1 ≤ X → X ≤ max_share → IsMeant X → Inside limits X

-- some share meets a property on a side
abbrev pub SomeShare : (Side → ℕ → Type 0) → Side → Type 0
SomeShare P side = (X : ℕ) × (1 ≤ X) × (X ≤ max_share) × P side X
