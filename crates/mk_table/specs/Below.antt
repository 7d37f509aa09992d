-- What clauses of this crate cite of the crates below it.
pub use Rattle.mk_cell.specs.Cell.{IsOwnOf}
pub use Rattle.mk_net.specs.{Bounds.max_pairs, Events.speaks_of}
pub use Rattle.mk_passes.specs.{Below.cell_in, Below.cells_beside, Below.cells_in, Below.cells_onto}
pub use Rattle.mk_passes.specs.{Below.cells_where, Below.has_variable, Below.HasEvent}
pub use Rattle.mk_passes.specs.{Below.HasOneEach, Below.HasSized, Below.LiesIn}
pub use Rattle.mk_passes.specs.{Below.max_clique_cells, Below.plus_over, Below.ratio_pairs}
pub use Rattle.mk_passes.specs.{Below.share_there, Below.Stands, Below.support_there}
pub use Rattle.mk_passes.specs.{Below.trade_ratio, Below.values_at, Below.variable_at, Blank.filled}
pub use Rattle.mk_passes.specs.{Blank.one_digits, Blank.one_exponent, Parts.AreBlankOrFull}
pub use Rattle.mk_passes.specs.{Parts.HaveRoom, Parts.IsChanged, Parts.IsFull, Parts.IsTimesCell}
pub use Rattle.mk_passes.specs.{Parts.max_shift, Parts.StandListed}
pub use Rattle.mk_sums.specs.There.{ratio_there}
