use Rattle.daggre.proofs.Transferred.{few_bits}
use Rattle.daggre.proofs.last_line.print_expectation.Goals as goal

pub expect-requires-clause-few_bits : goal.expect-requires-clause-few_bits
expect-requires-clause-few_bits c =
    few_bits c.args.market.now.market c.args.market.now.standing.history _ c.in-Some.number
    c.history-history.ensures.same c.history-history.ensures.safe
