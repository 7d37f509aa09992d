use Rattle.std.proofs.Common.{◌≡◌, ◌+◌, map, drop}
use Rattle.mk_net.specs.Firsts.{first_in}
use Rattle.mk_net.specs.Checked.{entry_of}
use Rattle.mk_net.proofs.draft.VariableDraft.entry_fault.Given as goal

abbrev pub invariant-rows : goal.invariant-rows
invariant-rows l =
    (l.row ≡ l.entries-index)
    × (first_in (λ row entries. first_in (entry_of l.zeros l.place row) 1 entries) 1 (map (λ row. row.items) l.self.rows.items) ≡ first_in (λ row entries. first_in (entry_of l.zeros l.place row) 1 entries) (l.row + 1) (map (λ row. row.items) (drop l.entries-index l.entries-items)))
