-- What clauses of this crate cite of the crates below it.
pub use Rattle.mk_cash.specs.Below.{CoversBound, CoversCash, Encloses, Fraction, IsExact}
pub use Rattle.mk_cash.specs.Below.{IsGradedWithin, IsInRange, max_points_per_bit, max_variables}
pub use Rattle.mk_cash.specs.Below.{million, number_limit, sharpness, two_to, upper_of}
pub use Rattle.mk_enclose.specs.Enclosure.{HasGrade}
pub use Rattle.mk_exact.specs.Accepted.{Covers, IsMost}
pub use Rattle.mk_judge.specs.{Cash.IsOwned, Compared.AreNear, Compared.LeavesOpen, Compared.Says}
pub use Rattle.mk_judge.specs.{Judged.Judges, Powers.HasCashRange, Powers.StandsBeside}
