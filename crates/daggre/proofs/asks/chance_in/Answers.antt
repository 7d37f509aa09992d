use Rattle.std.proofs.Common.{◌∙◌}
use Rattle.daggre.proofs.Wanting.{none_given, some_given}
use Rattle.daggre.proofs.asks.chance_in.Goals as goal

pub returns-in-None : goal.returns-in-None
returns-in-None c = c.chance_of.ensures
    ∙ none_given (λ w. w.now) c.args.words.now c.in-None.ensures.place

pub returns-in-Some : goal.returns-in-Some
returns-in-Some c = c.chance_of-in-Some.ensures
    ∙ some_given (λ w. w.now) c.args.words.now c.in-Some.place c.in-Some.ensures.place
