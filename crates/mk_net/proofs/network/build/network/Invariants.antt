use Rattle.std.proofs.Common.{◌≡◌, map, take}
use Rattle.mk_net.specs.Stored.{variables_of}
use Rattle.mk_net.specs.Drafts.{drafts_of, draft_of_variable}
use Rattle.mk_net.specs.Checked.{checked_variable}
use Rattle.mk_net.proofs.network.build.network.Given as goal

abbrev pub invariant-variables : goal.invariant-variables
invariant-variables l = variables_of l.variables.entries ≡ map (checked_variable (drafts_of l.draft)) (map draft_of_variable (take l.variable-index l.variable-items))
