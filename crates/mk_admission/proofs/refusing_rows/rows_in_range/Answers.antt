use Rattle.std.proofs.Common.{ap, ap₂, ◌∙◌, arith}
use Rattle.mk_rules.specs.Refusals.{ranges}
use Rattle.mk_record.proofs.Refusing.{error_kept}
use Rattle.mk_admission.proofs.AddedRows.{all_of, row_in_range, row_out_of_range}
use Rattle.mk_admission.proofs.refusing_rows.rows_in_range.Goals as goal

pub loop-row-preserved : goal.loop-row-preserved
loop-row-preserved c =
    let least = c.share_range-least.result.0 in let most = c.share_range-least.result.1 in
    row_in_range least most c.args.rows.now c.loop-row.row-index c.row-item.result
    (omega arith) c.loop-row.invariant
    (c.in_ok-all_in_range.ensures
    ∙ ap (ranges least most) (c.numbers.ensures.numbers ∙ c.row-item.is))

pub returns-in_err-all_in_range : goal.returns-in_err-all_in_range
returns-in_err-all_in_range c =
    let least = c.share_range-least.result.0 in let most = c.share_range-least.result.1 in
    let why = c.in_err-all_in_range.field-0.0 in
    error_kept c.from_residual.result why c.from_residual.ensures.1
    ∙ row_out_of_range least most c.args.rows.now c.loop-row.row-index c.row-item.result
    (omega arith) c.loop-row.invariant why
    (c.in_err-all_in_range.ensures
    ∙ ap (ranges least most) (c.numbers.ensures.numbers ∙ c.row-item.is))
    ∙ ap₂ (λ l m. ranges l m (all_of c.args.rows.now)) c.share_range-least.ensures.least
    c.share_range-least.ensures.most
