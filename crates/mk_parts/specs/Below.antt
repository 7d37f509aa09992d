-- What clauses of this crate cite of the crates below it.
pub use Rattle.mk_history.specs.Entries.{addition_of}
pub use Rattle.mk_replay.specs.{Below.GivenTree, Below.IsTreeOf, Below.weights_of, Placed.IsPlaced}
pub use Rattle.mk_rules.specs.Additions.{longer_network}
