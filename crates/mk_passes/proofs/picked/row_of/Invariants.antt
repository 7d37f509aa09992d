use Rattle.std.proofs.Common.{◌≡◌, ◌<◌, ◌+◌, ◌*◌, ◌^◌, take, fold, slice_index}
use Rattle.mk_net.specs.Network.{sizes}
use Rattle.mk_scope.specs.Cells.{values_at}
use Rattle.mk_passes.proofs.picked.row_of.Given as goal

-- the number so far is that of the parents so far, each of which has at most 16 values
abbrev pub invariant-loop-parent : goal.invariant-loop-parent
invariant-loop-parent l = record {
  number : l.row ≡ fold (λ r p. r * slice_index (sizes l.net) p + values_at l.scope l.cell p) 0 (take l.parent-index l.parent-items);
  small : l.row < 16 ^ l.parent-index;
}
