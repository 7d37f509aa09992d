-- What bounds say of one side of a question, and which numbers a judge of its units compares.
use Rattle.std.specs.Prelude.{◌≡◌, ℕ, ◌+◌, ◌-◌, ◌*◌, ◌^◌, ◌<◌, ◌⊎◌, Bool, false, IsTrue}
use Rattle.mk_net.specs.Bounds.{million}
use Rattle.mk_states.specs.Ratios.{unit}
use Rattle.mk_exact.specs.Factors.{Fraction}
use Rattle.mk_exact.specs.Limits.{Side}
use Rattle.mk_enclose.specs.declared.enclosure.Enclosure.{Enclosure}
use Rattle.mk_enclose.specs.declared.factor.Factor.{Factor}
use Rattle.mk_enclose.specs.Enclosure.{HasGrade, IsExact}
use Rattle.mk_enclose.specs.Factor.{paid_in, taken_out}
use Rattle.mk_quote.specs.declared.side.SideBounds.{SideBounds}
use Rattle.mk_quote.specs.Sides.{AreBoundsOf, AreExact}
use Rattle.mk_judge.specs.Compared.{AreNear}

-- the bounds are those of a side; without trades its gain is one, and in the small case nothing
-- was rounded
pub record AreSideBounds (bounds : SideBounds) (small : Bool) (side : Side) : Type 0 where
  pub bounds_of : AreBoundsOf bounds side
  pub idle : bounds.factor.trades ≡ 0
      → side.least.num * 2 ^ taken_out bounds.factor.net ≡ 2 ^ paid_in bounds.factor.net * side.least.den
  pub exact : IsTrue small → AreExact bounds

-- one more trade has few enough bits
pub record HasTradeRange (factor : Factor) : Type 0 where
  pub above : paid_in factor.net < 2 ^ 50
  pub below : 40 * (factor.trades + 1) + taken_out factor.net < 2 ^ 50

-- two numbers that IsFair compares are near, by the steps of the grades of both weights: of the
-- units, or of one unit more
abbrev pub IsFairNear : Enclosure → Enclosure → Fraction → ℕ → ℕ → Type 0
IsFairNear part whole price F X =
    (g h : ℕ) → HasGrade part g → HasGrade whole h
    → AreNear (F * million * price.num) (X * unit * price.den) (g + h)
    ⊎ AreNear ((F + 1) * million * price.num * 2 ^ 30) (X * unit * price.den * (2 ^ 30 - 1)) (g + h)

-- the two numbers that IsSolvent compares are near, by the steps of the grade of the gain, which
-- was rounded; never where the
-- user holds no trade
pub record IsSolvencyNear (factor : Factor) (q : Fraction) (F : ℕ) : Type 0 where
  pub traded : factor.trades ≡ 0 → ⊥
  pub rounded : IsExact factor.gain → ⊥
  pub near : (g : ℕ) → HasGrade factor.gain g → AreNear (unit * q.den) (F * q.num) g

-- one of these, and never in the small case
pub record AreUnitsNear (bounds : SideBounds) (small : Bool) (side : Side) (F X : ℕ) : Type 0 where
  pub large : small ≡ false
  pub near : IsFairNear bounds.part bounds.whole side.price F X
      ⊎ IsSolvencyNear bounds.factor side.least F
