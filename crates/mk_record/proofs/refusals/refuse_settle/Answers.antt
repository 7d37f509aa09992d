use Rattle.std.proofs.Common.{sym, ◌∙◌}
use Rattle.mk_rules.proofs.Unrefused.{all_resolved as each_resolved, not_faulted}
use Rattle.mk_record.proofs.Refusing.{where_ok}
use Rattle.mk_record.proofs.refusals.refuse_settle.Goals as goal

pub returns-clause-resolved : goal.returns-clause-resolved
returns-clause-resolved c =
    let H = c.args.journal.now.history in
    where_ok c.all_resolved.result (λ none. record {
      resolved = each_resolved c.args.file.now.net H (sym c.all_resolved.ensures ∙ none);
      unsettled = not_faulted _ _ (sym c.in_ok-not_settled.ensures);
    })
