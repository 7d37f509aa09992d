use Rattle.daggre.proofs.Knowing.{want_known, given_known}
use Rattle.daggre.proofs.last_line.print_answer.Goals as goal

pub known-want-requires-clause-known : goal.known-want-requires-clause-known
known-want-requires-clause-known c =
    want_known c.args.market.now.market.network c.network.result.now c.args.ask.now
    c.in-Chance.want c.in-Chance.given c.pairs.result.now c.network.ensures c.in-Chance.is
    c.requires.known c.pairs.ensures.same

pub known-given-requires-clause-known : goal.known-given-requires-clause-known
known-given-requires-clause-known c =
    given_known c.args.market.now.market.network c.network-in-Chance.result.now c.args.ask.now
    c.in-Chance.want c.in-Chance.given c.pairs-in-Chance.result.now c.network-in-Chance.ensures c.in-Chance.is
    c.requires.known c.pairs-in-Chance.ensures.same
