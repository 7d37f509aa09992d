use Rattle.std.proofs.Common.{◌∙◌}
use Rattle.mk_record.proofs.Refusing.{edit_refused, error_kept}
use Rattle.mk_record.proofs.refusals.refuse_edit.Goals as goal

pub returns-in_err-home-clause-refusal :
    goal.returns-in_err-home-clause-refusal
returns-in_err-home-clause-refusal g c =
    error_kept c.from_residual-in_err-home.result c.in_err-home.field-0.0
    c.from_residual-in_err-home.ensures.1
    ∙ edit_refused c.args.file.now c.args.journal.now.history c.args.name.now
    c.args.wish.now.question.now c.args.wish.now.to c.args.wish.now.at c.in_err-home.field-0.0
    c.in_ok-not_settled.ensures (c.in_ok-user.ensures.refusal c.args.journal.now.history c.requires.named) c.in_ok-asked.ensures.refusal c.in_ok-not_stale.ensures
    c.in_err-home.ensures.refusal
