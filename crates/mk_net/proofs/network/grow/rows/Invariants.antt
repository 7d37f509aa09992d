use Rattle.std.proofs.Common.{◌≡◌, map, take}
use Rattle.mk_net.proofs.network.grow.rows.Given as goal

abbrev pub invariant-rows : goal.invariant-rows
invariant-rows l = map (λ row. row.items) l.kept.items ≡ take l.row-index l.rows
