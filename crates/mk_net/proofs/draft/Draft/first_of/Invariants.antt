use Rattle.std.proofs.Common.{◌≡◌, ◌+◌, map, drop}
use Rattle.mk_net.specs.Drafts.{draft_of_variable, drafts_of}
use Rattle.mk_net.specs.Firsts.{first_in}
use Rattle.mk_net.specs.inner.Kinds.{fault_at}
use Rattle.mk_net.proofs.draft.Draft.first_of.Given as goal

abbrev pub invariant-variables : goal.invariant-variables
invariant-variables l =
    let fault = fault_at l.kind l.self.zeros (drafts_of l.self) in
    (l.place ≡ l.variable-index)
    × (first_in fault 1 (map draft_of_variable l.self.variables.items)
    ≡ first_in fault (l.place + 1) (map draft_of_variable (drop l.variable-index l.variable-items)))
