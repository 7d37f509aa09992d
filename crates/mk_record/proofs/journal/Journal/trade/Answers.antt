use Rattle.std.specs.Prelude.{◌+◌, ◌≤◌}
use Rattle.std.proofs.Common.{arith}
use Rattle.mk_exact.specs.History.{Trade}
use Rattle.mk_net.specs.Trades.{trade_ratio}
use Rattle.mk_record.proofs.Counts.{after, still_limited}
use Rattle.mk_record.proofs.journal.Journal.trade.Goals as goal

pub invariant_of-self : goal.invariant_of-self
invariant_of-self c =
    let room : c.self.inside.trades + 1 ≤ c.self.inside.limits.trades = omega (arith, c.self.invariant.0.trades_made, rw (← c.self.view_is) at c.requires) in (
      rw c.trade.ensures.history (after c.self.inside.accepted.history (Trade c.args.user (trade_ratio c.args.ratio)) c.self.inside.limits _ _ _ _ _ _ c.self.invariant.0 (assumption (c.self.invariant.0.few, room))),
      still_limited _ _ c.self.inside.limits c.trade.ensures.limit c.trade.ensures.users c.trade.ensures.transfers c.self.invariant.1,
      c.self.invariant.2,
    )
