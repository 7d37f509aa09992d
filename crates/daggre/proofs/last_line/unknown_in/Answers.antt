use Rattle.std.proofs.Common.{ap, sym, ◌∙◌}
use Rattle.daggre.specs.declared.ask.Ask.{Ask}
use Rattle.daggre.specs.LastLine.{first_unknown, pairs_in}
use Rattle.daggre.proofs.Knowing.{unknown_first, unknown_then}
use Rattle.daggre.proofs.last_line.unknown_in.Goals as goal

pub returns-in-Some : goal.returns-in-Some
returns-in-Some c =
    unknown_first c.args.net.now c.in-Chance.want c.in-Chance.given c.in-Some.pair
    (c.in-Some.ensures ∙ ap (first_unknown c.args.net.now) c.pairs.ensures.same)
    ∙ ap (λ (a : Ask). first_unknown c.args.net.now (pairs_in a)) (sym c.in-Chance.is)

pub returns-in-None : goal.returns-in-None
returns-in-None c = c.first_unknown-in-None.ensures
    ∙ ap (first_unknown c.args.net.now) c.pairs-in-None.ensures.same
    ∙ unknown_then c.args.net.now c.in-Chance.want c.in-Chance.given
    (c.in-None.ensures ∙ ap (first_unknown c.args.net.now) c.pairs.ensures.same)
    ∙ ap (λ (a : Ask). first_unknown c.args.net.now (pairs_in a)) (sym c.in-Chance.is)
