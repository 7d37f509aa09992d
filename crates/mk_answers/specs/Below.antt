-- What clauses of this crate cite of the crates below it.
pub use Rattle.mk_assets.specs.{Below.GivenTree, Below.HasGrade, Below.HasHeldGrade}
pub use Rattle.mk_assets.specs.{Below.max_values, Below.sizes, Holdings.Holding, Holdings.Owns}
pub use Rattle.mk_beliefs.specs.Meanings.{gains_of, rows_of, weights_of}
pub use Rattle.mk_cash.specs.{Below.CoversBound, Below.Encloses, Below.Fraction, Below.grade_room}
pub use Rattle.mk_cash.specs.{Below.IsAtLeastOne, Below.max_points_per_bit, Below.number_limit}
pub use Rattle.mk_cash.specs.{Below.sharpness, Factors.HasPowersInRange}
pub use Rattle.mk_enclose.specs.Enclosure.{widest_grade}
pub use Rattle.mk_engine.specs.Meaning.{Meaning}
pub use Rattle.mk_exact.specs.{Accepted.Covers, Accepted.IsMost, Factors.factor_with}
pub use Rattle.mk_exact.specs.{Factors.HoldsNoTrade, Factors.least_gain, History.Entry}
pub use Rattle.mk_exact.specs.{History.trades, Limits.Side, Proper.IsProper, Risk.least_weight}
pub use Rattle.mk_exact.specs.{Sides.AreSides, Sound.IsSound, Weight.IsSmall}
pub use Rattle.mk_net.specs.{Asked.Asked, Network.IsNetwork, Network.Variable}
pub use Rattle.mk_quote.specs.Questions.{spread_in}
pub use Rattle.mk_spread.specs.Spreads.{asked_of}
pub use Rattle.mk_states.specs.{Events.always, Events.with_target, InitialWeight.initial_total}
