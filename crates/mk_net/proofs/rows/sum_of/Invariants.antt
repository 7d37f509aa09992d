use Rattle.std.proofs.Common.{◌≡◌, ◌+◌, ◌*◌, ◌≤◌, drop, map, sum}
use Rattle.mk_net.specs.Checked.{share}
use Rattle.mk_net.proofs.rows.sum_of.Given as goal

abbrev pub invariant-columns : goal.invariant-columns
invariant-columns l =
    (l.sum + sum (map share (drop l.entry-index l.entries)) ≡ sum (map share l.entries))
    × (l.sum ≤ 1000000 * l.entry-index)
