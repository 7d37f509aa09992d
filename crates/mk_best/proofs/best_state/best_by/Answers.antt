use Rattle.mk_best.specs.inner.Engines.{learned}
use Rattle.mk_best.proofs.Shares.{few_learned}
use Rattle.mk_best.proofs.BestIs.{best_of_given}
use Rattle.mk_best.proofs.best_state.best_by.Goals as goal

pub best_left-requires : goal.best_left-requires
best_left-requires g c =
    let a = c.requires in let H = c.args.history.now.history in
    let given = c.args.given.now in
    record {
      history = learned H given;
      summed = c.in_ok-sums.ensures.stands;
      compared = c.in_ok-maxima.ensures.stands;
      legal = c.in_ok-sums.ensures.network;
      tree_of_it = a.tree;
      few_trades = few_learned H given a.history.few_trades;
    }

pub returns : goal.returns
returns g c =
    let a = c.requires in let net = c.args.net.now in let H = c.args.history.now.history in
    let given = c.args.given.now in
    best_of_given net H given c.in_ok-found.found c.in_ok-sums.ensures.network a.history.proper
    (c.in_ok-found.ensures (learned H given) c.in_ok-sums.ensures.stands
    c.in_ok-maxima.ensures.stands (few_learned H given a.history.few_trades))
