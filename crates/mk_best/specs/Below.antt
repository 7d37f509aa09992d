-- What clauses of this crate cite of the crates below it.
pub use Rattle.mk_answers.specs.{Below.always, Below.Entry, Below.IsNetwork, Below.IsSmall}
pub use Rattle.mk_answers.specs.{Below.Meaning, Below.sharpness, Below.sizes, Below.trades}
pub use Rattle.mk_answers.specs.{Below.Variable, Below.weights_of, inner.Found.IsBeliefIn}
pub use Rattle.mk_exact.specs.{Prices.CoversPrice, Weight.total}
pub use Rattle.mk_net.specs.Bounds.{max_market_trades}
pub use Rattle.mk_replay.specs.{Below.ArePairsOf, Below.holds, Below.IsTreeOf, Placed.IsPlaced}
pub use Rattle.mk_states.specs.Events.{has}
