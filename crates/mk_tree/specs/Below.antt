-- What clauses of this crate cite of the crates below it.
pub use Rattle.mk_net.specs.{Bounds.max_cells, Bounds.max_clique_cells, Bounds.max_variables}
pub use Rattle.mk_net.specs.{Network.IsNetwork, Network.Variable}
pub use Rattle.mk_sets.specs.Sets.{is_member, IsSubset}
