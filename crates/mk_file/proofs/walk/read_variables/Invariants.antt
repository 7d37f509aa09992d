use Rattle.std.proofs.Common.{map, drop, ◌+◌}
use Rattle.toml.specs.View.{table_view}
use Rattle.mk_net.specs.Drafts.{draft_of_variable}
use Rattle.mk_file.proofs.Reading.{ReadsVariables}
use Rattle.mk_file.proofs.walk.read_variables.Given as goal

abbrev pub invariant-tables : goal.invariant-tables
invariant-tables l =
    ReadsVariables (map (λ t. table_view t.now) l.tables) (1 + l.index) (map draft_of_variable l.variables.items) (map (λ t. table_view t.now) (drop l.index l.tables))
