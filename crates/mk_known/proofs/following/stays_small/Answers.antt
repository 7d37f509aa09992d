use Rattle.mk_known.proofs.KnownFollow.{large_stays}
use Rattle.mk_known.proofs.following.stays_small.Goals as goal

pub returns-else-was : goal.returns-else-was
returns-else-was g c = λ before H change proper after next known.
    let m = c.args.market.now in
    let safe = c.history-history.ensures.safe in
    large_stays before m.market H m.standing.history change c.args.was safe.legal.network proper
    safe.proper after next c.if-was.false known
