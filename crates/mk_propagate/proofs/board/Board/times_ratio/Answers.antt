use Rattle.std.proofs.Common.{refl, rules}
use Rattle.mk_net.specs.Trades.{trade_ratio}
use Rattle.mk_propagate.specs.inner.Changes.{IsTimesRatio}
use Rattle.mk_propagate.specs.inner.Boards.{Table}
use Rattle.mk_propagate.proofs.Boards.{puts}
use Rattle.mk_propagate.proofs.board.Board.times_ratio.Goals as goal

pub returns : goal.returns
returns g c =
    puts c.self.invariant c.self.view_is (Table c.args.clique) c.requires.clique refl c.times_ratio.new.self
    c.times_ratio.ensures.only (IsTimesRatio (trade_ratio c.args.ratio.now)) (search rules)
