use Rattle.std.proofs.Common.{◌∙◌}
use Rattle.mk_quote.specs.Questions.{spread_in}
use Rattle.mk_evidence.proofs.EvidencedSpreads.{quote_anew}
use Rattle.mk_evidence.proofs.evidence_of_spreads.quote_of.Goals as goal

pub returns : goal.returns
returns c = λ network tree most answered found. quote_anew network tree
    c.args.journal.now.history c.args.request.now.user (spread_in c.args.request.now.question)
    answered most c.args.bounds.now found c.make.result c.make.ensures.user
    c.make.ensures.question (c.make.ensures.revision ∙ c.revision.ensures) c.make.ensures.sides
