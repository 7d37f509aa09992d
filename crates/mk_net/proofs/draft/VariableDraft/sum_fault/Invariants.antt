use Rattle.std.proofs.Common.{◌≡◌, ◌+◌, map, drop}
use Rattle.mk_net.specs.Firsts.{first_in}
use Rattle.mk_net.specs.Checked.{sum_of}
use Rattle.mk_net.proofs.draft.VariableDraft.sum_fault.Given as goal

abbrev pub invariant-rows : goal.invariant-rows
invariant-rows l =
    (l.row ≡ l.entries-index)
    × (first_in (sum_of l.place) 1 (map (λ row. row.items) l.self.rows.items) ≡ first_in (sum_of l.place) (l.row + 1) (map (λ row. row.items) (drop l.entries-index l.entries-items)))
