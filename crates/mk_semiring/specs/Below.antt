-- What clauses of this crate cite of the crates below it.
pub use Rattle.mk_cell.specs.{Cell.AllStand, Cell.AreCells, Cell.IsOwnOf, Cell.Stands}
pub use Rattle.mk_cell.specs.{Passes.plus_below, Products.AreUnrounded, Products.PairsStand}
pub use Rattle.mk_enclose.specs.Enclosure.{widest_grade}
pub use Rattle.mk_net.specs.Bounds.{number_limit}
pub use Rattle.mk_states.specs.Lawful.{Lawful}
