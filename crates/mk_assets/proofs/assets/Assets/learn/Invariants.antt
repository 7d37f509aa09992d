use Rattle.std.proofs.Common.{◌≡◌, ◌+◌}
use Rattle.mk_assets.specs.Holdings.{Holding, Holds, with_first_known}
use Rattle.mk_assets.proofs.assets.Assets.learn.Given as goal

abbrev pub invariant-loop-pair : goal.invariant-loop-pair
invariant-loop-pair g l =
    record {
      stands : (h : Holding) → Holds g.E.Engine.stands_for l.fn.self h → h.meaning.known ≡ l.known
          → g.E.Engine.stands_for l.self.engine (with_first_known (l.fn.self.learnt + l.pair-index) h.meaning);
      trades : l.self.trades ≡ l.fn.self.trades;
      net : l.self.net ≡ l.fn.self.net;
    }
