use Rattle.std.proofs.Common.{◌≡◌, ◌*◌, length, take, drop, slice_index}
use Rattle.mk_net.specs.Network.{sizes}
use Rattle.mk_sums.specs.Cells.{cells}
use Rattle.mk_scope.specs.inner.Columns.{HaveColumns}
use Rattle.mk_scope.proofs.scope.lay_out.Given as goal

abbrev pub invariant-loop-variable : goal.invariant-loop-variable
invariant-loop-variable l = record {
  span : l.span ≡ cells (slice_index (sizes l.net)) (drop l.variable-index l.variables);
  starts : length l.starts ≡ length l.fn.starts;
  columns : length l.columns ≡ length l.fn.columns;
  start : l.start ≡ l.variable-index * l.count;
  have : HaveColumns (slice_index (sizes l.net)) l.variables (take l.variable-index l.variables) l.first l.starts (take l.start l.columns);
}
