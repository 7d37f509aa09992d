use Rattle.std.proofs.Common.{◌≡◌, None, rules}
use Rattle.mk_net.specs.Drafts.{drafts_of}
use Rattle.mk_net.specs.Checked.{count_fault}
use Rattle.mk_net.proofs.Counting.{counted}
use Rattle.mk_net.proofs.draft.Draft.first_fault.Goals as goal

pub later_fault-requires-clause-counted : goal.later_fault-requires-clause-counted
later_fault-requires-clause-counted c =
    let none : count_fault (drafts_of c.args.self.now) ≡ None = search rules in
    counted c.args.self.now.variables.items none
