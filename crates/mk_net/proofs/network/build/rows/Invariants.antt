use Rattle.std.proofs.Common.{◌≡◌, map, take}
use Rattle.mk_net.specs.Checked.{share}
use Rattle.mk_net.proofs.network.build.rows.Given as goal

abbrev pub invariant-rows : goal.invariant-rows
invariant-rows l = map (λ row. row.items) l.kept.items ≡ map (map share) (map (λ row. row.items) (take l.row-index l.rows))
