-- What bounds say of a price, and which numbers a judge of its printed interval compares.
use Rattle.std.specs.Prelude.{◌≡◌, ℕ, ◌+◌, ◌-◌, ◌*◌, ◌^◌, ◌<◌, ◌≤◌, ◌⊎◌, ⊤, Bool, IsTrue}
use Rattle.mk_exact.specs.Factors.{Fraction}
use Rattle.mk_scaled.specs.Range.{IsInRange}
use Rattle.mk_enclose.specs.declared.enclosure.Enclosure.{Enclosure}
use Rattle.mk_enclose.specs.Enclosure.{upper_of, Encloses, HasGrade, IsExact}
use Rattle.mk_judge.specs.declared.price.PriceBounds.{PriceBounds}
use Rattle.mk_judge.specs.declared.price.PriceBounds.TheVariants.{Never, Always, Between}
use Rattle.mk_judge.specs.Compared.{AreNear}

-- the bounds enclose a price above nothing and below one; in the small case nothing was rounded
pub record IsPriceBetween (part whole : Enclosure) (small : Bool) (price : Fraction) : Type 0 where
  pub part_holds : Encloses part price.num
  pub whole_holds : Encloses whole price.den
  pub less : price.num < price.den
  pub part_exact : IsTrue small → IsExact part
  pub whole_exact : IsTrue small → IsExact whole

-- the bounds are those of a price
abbrev pub ArePriceBounds : PriceBounds → Bool → Fraction → Type 0
ArePriceBounds Never small price = (price.num ≡ 0) × (1 ≤ price.den)
ArePriceBounds Always small price = (price.num ≡ price.den) × (1 ≤ price.den)
ArePriceBounds (Between part whole) small price = IsPriceBetween part whole small price

-- what is multiplied stays in range
abbrev pub HavePriceRange : PriceBounds → Type 0
HavePriceRange Never = ⊤
HavePriceRange Always = ⊤
HavePriceRange (Between part whole) = IsInRange (upper_of part * 2 ^ 42) × IsInRange (upper_of whole * 2 ^ 42)

-- two numbers that CoversPrice compares are near: of its low end, of its high end, of one part in
-- `near` below the next unit, or of that above the one before
abbrev pub AreNearUnits : ℕ → Fraction → ℕ → ℕ → ℕ → Type 0
AreNearUnits near price low high steps =
    AreNear (low * price.den) (10 ^ 10 * price.num) steps
    ⊎ (AreNear (10 ^ 10 * price.num) (high * price.den) steps
    ⊎ (AreNear ((low + 1) * price.den * near) (10 ^ 10 * price.num * (near - 1)) steps
    ⊎ AreNear (10 ^ 10 * price.num * near) ((high - 1) * price.den * (near - 1)) steps))

-- they are near by two steps more than the grades of both bounds
abbrev pub IsPriceNear : ℕ → PriceBounds → Fraction → ℕ → ℕ → Type 0
IsPriceNear near Never price low high = ⊥
IsPriceNear near Always price low high = ⊥
IsPriceNear near (Between part whole) price low high =
    (g h : ℕ) → HasGrade part g → HasGrade whole h
    → AreNearUnits near price low high (g + h + 2)
