use Rattle.std.proofs.Common.{◌≤◌, sym, ◌∙◌, subst, arith}
use Rattle.std.specs.Prelude.{All}
use Rattle.mk_net.specs.Bounds.{million}
use Rattle.mk_admission.proofs.AddedRows.{row_sum_fits}
use Rattle.mk_admission.proofs.refusing_rows.rows_are_whole.Goals as goal

pub is_million-requires : goal.is_million-requires
is_million-requires c =
    let row = c.numbers.result.now in
    row_sum_fits row (rw c.numbers.ensures.numbers c.numbers.ensures.few)
    (subst (All (λ n. n ≤ million)) (sym (c.numbers.ensures.numbers ∙ c.row-item.is))
    (c.requires c.loop-row.row-index c.row-item.result (omega arith)))
