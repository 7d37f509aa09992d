-- What clauses of this crate cite of the crates below it.
pub use Rattle.mk_best.specs.{Below.always, Below.Entry, Below.holds, Below.IsNetwork}
pub use Rattle.mk_best.specs.{Below.IsTreeOf, Below.Meaning, Below.total, Below.Variable}
pub use Rattle.mk_best.specs.{Below.weights_of, Chances.IsPlaced}
pub use Rattle.mk_history.specs.Entries.{change_of}
pub use Rattle.mk_net.specs.{Bounds.max_points_per_bit, Trades.trade_ratio}
pub use Rattle.mk_states.specs.Ratios.{units_of}
pub use Rattle.mk_tree.specs.Given.{GivenTree}
