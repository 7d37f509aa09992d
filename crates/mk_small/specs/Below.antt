-- What clauses of this crate cite of the crates below it.
pub use Rattle.mk_exact.specs.{Proper.IsProper, Weight.IsSmall}
pub use Rattle.mk_history.specs.Entries.{change_of}
pub use Rattle.mk_walk.specs.{Below.IsState, Below.ratio_at, Below.sizes, Below.trade_ratio}
pub use Rattle.mk_walk.specs.{Below.weight, Walked.capped}
