use Rattle.std.proofs.Common.{◌≡◌, ◌*◌, ◌≤◌, drop}
use Rattle.std.specs.Prelude.{◌^◌}
use Rattle.mk_net.specs.Network.{sizes, choices}
use Rattle.mk_admission.proofs.refusing_rows.lists.Given as goal

abbrev pub invariant-loop-variable : goal.invariant-loop-variable
invariant-loop-variable l =
    (l.lists * choices (sizes l.net) (drop l.variable-index l.variables)
    ≡ choices (sizes l.net) l.variables)
    × (l.lists ≤ 16 ^ l.variable-index)
