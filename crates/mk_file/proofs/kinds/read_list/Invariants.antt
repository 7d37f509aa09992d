use Rattle.std.proofs.Common.{map, drop}
use Rattle.toml.specs.View.{view}
use Rattle.mk_file.proofs.Reading.{Reads}
use Rattle.mk_file.proofs.kinds.read_list.Given as goal

abbrev pub invariant-items : goal.invariant-items
invariant-items g l = Reads g.T.Kind.kind (view l.value) (map g.T.Kind.seen l.read.items) (drop l.item-index l.item-items)
