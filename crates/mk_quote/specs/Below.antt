-- What clauses of this crate cite of the crates below it.
pub use Rattle.mk_exact.specs.Limits.{Inside, IsWithinRange}
pub use Rattle.mk_net.specs.Bounds.{max_share, million, number_limit}
