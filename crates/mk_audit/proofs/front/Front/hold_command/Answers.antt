use Rattle.mk_audit.proofs.Found.{still_at, still_there, found_there}
use Rattle.mk_audit.proofs.front.Front.hold_command.Goals as goal

pub returns-then-passes_price-clause-market : goal.returns-then-passes_price-clause-market
returns-then-passes_price-clause-market c =
    still_at c.args.market.now c.passes_price.new.market c.passes_price.ensures.market
    c.passes_price.ensures.standing

pub returns-else-passes_price-clause-market : goal.returns-else-passes_price-clause-market
returns-else-passes_price-clause-market c = λ start at.
    c.hold_line.ensures.market start (still_at c.args.market.now c.passes_price.new.market
    c.passes_price.ensures.market c.passes_price.ensures.standing start at)

pub returns-then-passes_price-clause-known : goal.returns-then-passes_price-clause-known
returns-then-passes_price-clause-known c =
    let m = c.args.market.now in
    let n = c.passes_price.new.market in
    still_there m.market n.market m.standing n.standing c.args.self.now c.passes_price.new.self
    c.passes_price.ensures.market c.passes_price.ensures.standing c.passes_price.ensures.known
    c.requires.known

pub hold_line-requires-clause-known : goal.hold_line-requires-clause-known
hold_line-requires-clause-known c =
    let m = c.args.market.now in
    let n = c.passes_price.new.market in
    still_there m.market n.market m.standing n.standing c.args.self.now c.passes_price.new.self
    c.passes_price.ensures.market c.passes_price.ensures.standing c.passes_price.ensures.known
    c.requires.known

pub returns-else-passes_price-clause-found : goal.returns-else-passes_price-clause-found
returns-else-passes_price-clause-found c = λ line busy asks.
    let m = c.args.market.now in
    let n = c.passes_price.new.market in
    found_there c.hold_line.result m.market n.market m.standing n.standing
    c.hold_line.new.market.standing line c.args.transcript.now c.args.self.now
    c.passes_price.new.self c.hold_line.new.self c.passes_price.ensures.market
    c.passes_price.ensures.standing (c.passes_price.ensures.still c.if-passes_price.false)
    (c.hold_line.ensures.found line busy asks)
