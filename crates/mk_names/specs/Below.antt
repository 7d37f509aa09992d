-- What clauses of this crate cite of the crates below it.
pub use Rattle.std.specs.{Cmp.partial_equiv_from_equiv, List.list_all}
