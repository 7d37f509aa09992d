-- Whether no share of some value can well be traded.
use Rattle.std.specs.Prelude.{◌≡◌, Bool, false, IsTrue, List, Any, Option}
use Rattle.std.specs.List.{AllZip}
use Rattle.mk_exact.specs.Limits.{Side, IsWanted, IsFloorSolvent}
use Rattle.mk_spread.specs.Bounds.{NoShare}
use Rattle.mk_quote.specs.declared.side.SideBounds.{SideBounds}
use Rattle.mk_judge.specs.declared.judged.Judged.{Judged}
use Rattle.mk_judge.specs.declared.judged.Judged.TheVariants.{Allowed, Wrong, Unclear}
use Rattle.mk_judge.specs.Wanted.{IsWantedNear}
use Rattle.mk_judge.specs.Distributions.{IsOf, IsSomeWantedNear}

-- no share of a value is wanted, and in the small case none is floor-solvent
abbrev pub HasNoShare : Bool → Option Side → Type 0
HasNoShare small side = NoShare IsWanted side × (IsTrue small → NoShare IsFloorSolvent side)

-- some share is
abbrev pub HasShare : Bool → Option Side → Type 0
HasShare small side =
    (IsTrue small → NoShare IsFloorSolvent side → ⊥) × (small ≡ false → NoShare IsWanted side → ⊥)

abbrev pub SaysAbsent : Judged → Bool → Option SideBounds → Option Side → Type 0
SaysAbsent Allowed small value side = HasNoShare small side
SaysAbsent Wrong small value side = HasShare small side
SaysAbsent Unclear small value side = (small ≡ false) × IsOf IsWantedNear value side

-- the same of some value
abbrev pub SaysSomeAbsent : Judged → Bool → List (Option SideBounds) → List (Option Side) → Type 0
SaysSomeAbsent Allowed small values sides = Any (HasNoShare small) sides
SaysSomeAbsent Wrong small values sides =
    AllZip (λ (side : Option Side) (value : Option SideBounds). HasShare small side) sides values
SaysSomeAbsent Unclear small values sides = (small ≡ false) × IsSomeWantedNear values sides
