use Rattle.std.proofs.Common.{◌≡◌, None, rules}
use Rattle.mk_net.specs.Drafts.{drafts_of}
use Rattle.mk_net.specs.Firsts.{first_in}
use Rattle.mk_net.specs.Checked.{width_at, entry_at}
use Rattle.mk_net.proofs.Counting.{widths_counted, shares_counted}
use Rattle.mk_net.proofs.draft.Draft.later_fault.Goals as goal

pub first_of-requires-6-clause-ready : goal.first_of-requires-6-clause-ready
first_of-requires-6-clause-ready c =
    let none : first_in width_at 1 (drafts_of c.args.self.now) ≡ None = search rules in
    (c.requires.numbered, widths_counted c.args.self.now.variables.items c.requires.counted none)

pub first_of-requires-7-clause-ready : goal.first_of-requires-7-clause-ready
first_of-requires-7-clause-ready c =
    let no_width : first_in width_at 1 (drafts_of c.args.self.now) ≡ None = search rules in
    let no_entry : first_in (entry_at c.args.self.now.zeros) 1 (drafts_of c.args.self.now) ≡ None =
    search rules in (
      c.requires.numbered,
      (
        widths_counted c.args.self.now.variables.items c.requires.counted no_width,
        shares_counted c.args.self.now.zeros c.args.self.now.variables.items no_entry,
      ),
    )
