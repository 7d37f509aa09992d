-- What clauses of this crate cite of the crates below it.
pub use Rattle.mk_enclose.specs.{Enclosure.Encloses, Enclosure.IsExact, Enclosure.IsGradedWithin}
pub use Rattle.mk_enclose.specs.{Enclosure.lower_of, Enclosure.upper_of, Factor.paid_in}
pub use Rattle.mk_enclose.specs.{Factor.StandsFor, Factor.taken_out}
pub use Rattle.mk_exact.specs.{Cash.CoversCash, Factors.Fraction, Factors.IsAtLeastOne}
pub use Rattle.mk_exact.specs.{Risk.CoversBound}
pub use Rattle.mk_net.specs.Bounds.{grade_room, max_points_per_bit, max_variables, million}
pub use Rattle.mk_net.specs.Bounds.{number_limit, sharpness}
pub use Rattle.mk_scaled.specs.{ByRule.power_by, ByRule.rounded_down, ByRule.rounded_up}
pub use Rattle.mk_scaled.specs.{ByRule.whole_log, Near.IsNear, Range.IsInRange, Range.two_to}
