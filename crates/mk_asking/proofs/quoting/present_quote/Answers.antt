use Rattle.std.proofs.Common.{◌∙◌}
use Rattle.mk_record.specs.declared.last_quote.LastQuote.TheVariants.{Limits}
use Rattle.mk_asking.proofs.quoting.present_quote.Goals as goal

pub returns-in-Some-clause-quote : goal.returns-in-Some-clause-quote
returns-in-Some-clause-quote g c =
    let its = c.in-Some.ensures.its in
    let kept = c.requires.quotes c.args.request.now.user (Limits c.in-Some.quote)
    c.in-Some.ensures.some in
    let present = its.same_revision ∙ c.revision.ensures in
    record { same_user = kept.same_user; question = its.same_question; at_present = present; current = kept.current present }
