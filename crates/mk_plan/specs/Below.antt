-- What clauses of this crate cite of the crates below it.
pub use Rattle.std.specs.List.{list_all, list_any, range_with_len}
pub use Rattle.mk_scope.specs.Scopes.{LiesIn}
pub use Rattle.mk_sets.specs.Sets.{is_member}
pub use Rattle.mk_sums.specs.Trees.{linked_to}
pub use Rattle.mk_tree.specs.{Checked.IsTreeOf, Given.AreLinked, Given.clique_at, Given.holds}
pub use Rattle.mk_tree.specs.{Given.holds_event, Given.home, Given.link_of}
