-- What clauses of this crate cite of the crates below it.
pub use Rattle.std.specs.List.{range_with_len}
pub use Rattle.mk_cell.specs.{Cell.AreCells, Cell.IsCell, Cell.Stands, Cell.StandsAt}
pub use Rattle.mk_cell.specs.{Passes.plus_below}
pub use Rattle.mk_net.specs.{Asked.ratio_pairs, Bounds.max_clique_cells, Named.variable_at}
pub use Rattle.mk_net.specs.{Network.sizes, Trades.trade_ratio}
pub use Rattle.mk_scope.specs.{Cells.cell_in, Cells.cells_beside, Cells.cells_onto}
pub use Rattle.mk_scope.specs.{Cells.cells_where, Cells.values_at, Runs.cells_at, Runs.IsAmong}
pub use Rattle.mk_scope.specs.{Runs.IsBetween, Runs.IsOfRuns, Runs.runs_of, Scopes.cells_in}
pub use Rattle.mk_scope.specs.{Scopes.has_variable, Scopes.HasEvent, Scopes.HasOneEach}
pub use Rattle.mk_scope.specs.{Scopes.HasSized, Scopes.LiesIn, Scopes.Rising}
pub use Rattle.mk_states.specs.{Ratios.units_of, States.plus_over}
pub use Rattle.mk_sums.specs.There.{row_there, share_there, support_there}
