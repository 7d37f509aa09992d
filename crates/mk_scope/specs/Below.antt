-- What clauses of this crate cite of the crates below it.
pub use Rattle.mk_net.specs.{Bounds.max_clique_cells, Bounds.max_values, Bounds.max_variables}
pub use Rattle.mk_net.specs.{Events.IsEvent, Network.IsNetwork, Network.sizes}
pub use Rattle.mk_sets.specs.Sets.{is_member}
pub use Rattle.mk_states.specs.States.{numbers_below}
pub use Rattle.mk_sums.specs.{Cells.cells, Cells.keep, Joint.variables}
