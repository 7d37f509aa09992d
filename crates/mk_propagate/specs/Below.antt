-- What clauses of this crate cite of the crates below it.
pub use Rattle.mk_enclose.specs.Enclosure.{widest_grade}
pub use Rattle.mk_engine.specs.Meaning.{RatioOf, RowsOf, SupportOf}
pub use Rattle.mk_net.specs.Network.{Variable}
pub use Rattle.mk_plan.specs.Shapes.{are_linked, clique_scope, core_scope, IsClique, IsShapeFor}
pub use Rattle.mk_plan.specs.Shapes.{neighbours, separator_between}
pub use Rattle.mk_sums.specs.Trees.{sum_of}
pub use Rattle.mk_table.specs.{Below.cells_in, Below.has_variable, Below.HasEvent}
pub use Rattle.mk_table.specs.{Below.max_clique_cells, Below.trade_ratio, Lists.table_in}
pub use Rattle.mk_table.specs.{Tables.HasRoom, Tables.is_untouched}
pub use Rattle.mk_tree.specs.Given.{max_tree_cliques}
