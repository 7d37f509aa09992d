use Rattle.std.proofs.Common.{Some, None, ◌∙◌}
use Rattle.mk_record.proofs.Refusing.{error_kept}
use Rattle.mk_record.proofs.SpreadRefusals.{prices_settled, prices_unasked, prices_answered}
use Rattle.mk_record.proofs.refusing_spreads.refuse_prices.Goals as goal

pub returns-in_err-not_settled-clause-refusal : goal.returns-in_err-not_settled-clause-refusal
returns-in_err-not_settled-clause-refusal c pairs given =
    error_kept c.from_residual.result c.in_err-not_settled.field-0.0 c.from_residual.ensures.1
    ∙ prices_settled c.args.file.now c.args.journal.now.history c.args.variable.now
    c.args.condition.now pairs given c.in_err-not_settled.field-0.0 c.in_err-not_settled.ensures

pub returns-in_err-asked-clause-refusal : goal.returns-in_err-asked-clause-refusal
returns-in_err-asked-clause-refusal c pairs given =
    error_kept c.from_residual-in_err-asked.result c.in_err-asked.field-0.0
    c.from_residual-in_err-asked.ensures.1
    ∙ prices_unasked c.args.file.now c.args.journal.now.history c.args.variable.now
    c.args.condition.now pairs given c.in_err-asked.field-0.0 c.in_ok-not_settled.ensures
    c.in_err-asked.ensures.refusal

pub returns-in_err-home-clause-refusal : goal.returns-in_err-home-clause-refusal
returns-in_err-home-clause-refusal c pairs given =
    error_kept c.from_residual-in_err-home.result c.in_err-home.field-0.0
    c.from_residual-in_err-home.ensures.1
    ∙ prices_answered c.args.file.now c.args.journal.now.history c.args.variable.now
    c.args.condition.now pairs given (Some c.in_err-home.field-0.0) c.in_ok-not_settled.ensures
    c.in_ok-asked.ensures.refusal c.in_err-home.ensures.refusal

pub returns-clause-refusal : goal.returns-clause-refusal
returns-clause-refusal c pairs given =
    prices_answered c.args.file.now c.args.journal.now.history c.args.variable.now
    c.args.condition.now pairs given None c.in_ok-not_settled.ensures
    c.in_ok-asked.ensures.refusal c.in_ok-home.ensures.refusal
