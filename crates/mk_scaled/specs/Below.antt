-- What clauses of this crate cite of the crates below it.
pub use Rattle.std.specs.{Cmp.partial_order_from_own_ties, Cmp.Rules.comparing, Int.div_ceil}
pub use Rattle.std.specs.{Option.SomeIff, Ordering.as_partial_cmp, Ordering.nat_cmp}
