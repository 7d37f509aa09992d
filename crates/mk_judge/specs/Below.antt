-- What clauses of this crate cite of the crates below it.
pub use Rattle.std.specs.List.{AllByRecursion, AllZip}
pub use Rattle.mk_cash.specs.Below.{Encloses, Fraction, IsExact, IsInRange, million, number_limit}
pub use Rattle.mk_cash.specs.Below.{sharpness, upper_of}
pub use Rattle.mk_enclose.specs.Enclosure.{HasGrade}
pub use Rattle.mk_exact.specs.{Limits.AreRight, Limits.IsFairAndSolvent, Limits.IsFloorSolvent}
pub use Rattle.mk_exact.specs.{Limits.IsWanted, Limits.IsWithinRange, Limits.Side}
pub use Rattle.mk_exact.specs.{Prices.CoversPrice, Prices.IsFair, Prices.IsSolvent}
pub use Rattle.mk_net.specs.Bounds.{max_share}
pub use Rattle.mk_quote.specs.{Bounds.hit_side, Bounds.miss_side, Sides.AreBoundsOf, Sides.AreExact}
pub use Rattle.mk_quote.specs.{Values.side_in, Values.sides_in}
pub use Rattle.mk_spread.specs.Bounds.{AreFairUnits, AreRightBounds, IsFairFor, IsRightFor}
pub use Rattle.mk_spread.specs.Bounds.{IsRightInterval, NoShare}
pub use Rattle.mk_states.specs.Ratios.{unit}
