use Rattle.std.proofs.Common.{sym, ◌∙◌}
use Rattle.mk_rules.proofs.Unrefused.{variable_known, not_resolved as unresolved}
use Rattle.mk_record.proofs.Refusing.{error_kept, resolution_refused}
use Rattle.mk_record.proofs.refusals.refuse_resolve.Goals as goal

pub returns-in_err-not_resolved-clause-refusal : goal.returns-in_err-not_resolved-clause-refusal
returns-in_err-not_resolved-clause-refusal c =
    let net = c.args.file.now.net in let number = variable_known net c.args.words.now c.in_ok-pair.pair c.in_ok-pair.ensures.named in
    error_kept c.from_residual-in_err-not_resolved.result c.in_err-not_resolved.field-0.0 c.from_residual-in_err-not_resolved.ensures.1
    ∙ resolution_refused net c.args.journal.now.history c.args.words.now _ c.in_ok-not_settled.ensures c.in_ok-pair.ensures.refusal (c.in_err-not_resolved.ensures net number.0 number.1)

pub returns-clause-refusal : goal.returns-clause-refusal
returns-clause-refusal c =
    let net = c.args.file.now.net in let number = variable_known net c.args.words.now c.in_ok-pair.pair c.in_ok-pair.ensures.named in
    resolution_refused net c.args.journal.now.history c.args.words.now _ c.in_ok-not_settled.ensures c.in_ok-pair.ensures.refusal (c.in_ok-not_resolved.ensures net number.0 number.1)

pub returns-clause-pair : goal.returns-clause-pair
returns-clause-pair c =
    let net = c.args.file.now.net in let number = variable_known net c.args.words.now c.in_ok-pair.pair c.in_ok-pair.ensures.named in
    record {
      in_range = c.in_ok-pair.ensures.pair;
      unresolved = unresolved net c.args.journal.now.history c.args.words.now c.in_ok-pair.pair c.in_ok-pair.ensures.named (sym (c.in_ok-not_resolved.ensures net number.0 number.1));
    }
