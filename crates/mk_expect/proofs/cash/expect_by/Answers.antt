use Rattle.mk_expect.proofs.Covered.{covers_all}
use Rattle.mk_expect.proofs.cash.expect_by.Goals as goal

pub history_tally-tally-requires : goal.history_tally-tally-requires
history_tally-tally-requires g c =
    let a = c.requires in
    record {
      network = c.args.net.now;
      stands = c.in_ok-engine.ensures.stands;
      legal = c.in_ok-engine.ensures.network;
      tree_of_it = a.tree;
      placed = a.history;
      few_bits = a.few_bits;
    }

pub returns : goal.returns
returns g c =
    covers_all c.args.net.now c.args.history.now.history c.args.points_per_bit c.args.user _ _
    c.history_tally-tally.result c.requires.history.proper
    (c.history_tally-tally.ensures.adds c.args.net.now c.in_ok-engine.ensures.network
    c.in_ok-engine.ensures.stands)
    c.points_of.ensures
