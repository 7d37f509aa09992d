use Rattle.std.proofs.Common.{◌∙◌, subst}
use Rattle.mk_answers.specs.Results.{AreSpreadSidesFor}
use Rattle.mk_quote.specs.Questions.{spread_in}
use Rattle.mk_asking.proofs.SpreadQuotes.{made_of_bounds}
use Rattle.mk_asking.proofs.spread_quoting.spread_quote_by.Goals as goal

pub returns-in-Open : goal.returns-in-Open
returns-in-Open c network tree H present answered are =
    made_of_bounds network tree H c.args.user (spread_in c.args.question) answered c.in-Open.bounds
    (subst (AreSpreadSidesFor network H c.args.user (spread_in c.args.question)) c.in-Open.is are)
    c.make.result c.make.ensures.user c.make.ensures.question (c.make.ensures.revision ∙ present)
    c.make.ensures.sides

pub returns-in-Impossible : goal.returns-in-Impossible
returns-in-Impossible c network tree H present answered are = subst
    (AreSpreadSidesFor network H c.args.user (spread_in c.args.question)) c.in-Impossible.is are

pub returns-in-Sure : goal.returns-in-Sure
returns-in-Sure c network tree H present answered are = subst
    (AreSpreadSidesFor network H c.args.user (spread_in c.args.question)) c.in-Sure.is are
