use Rattle.mk_best.specs.inner.Engines.{learned}
use Rattle.mk_best.proofs.Shares.{chance_is, few_learned}
use Rattle.mk_best.proofs.chances.chance_by.Goals as goal

pub chance_left-requires : goal.chance_left-requires
chance_left-requires g c =
    let a = c.requires in let net = c.args.net.now in let H = c.args.history.now.history in
    record {
      history = learned H c.args.given.now;
      stands = c.know_all.ensures net H c.in_ok-engine.ensures.stands;
      legal = c.in_ok-engine.ensures.network;
      tree_of_it = a.tree;
      few_trades = few_learned H c.args.given.now a.history.few_trades;
      in_range = a.want;
    }

pub returns : goal.returns
returns g c =
    let a = c.requires in let net = c.args.net.now in let H = c.args.history.now.history in let
    given = c.args.given.now in
    chance_is net H c.args.want.now given c.chance_left.result c.in_ok-engine.ensures.network
    a.history.proper
    (c.chance_left.ensures (learned H given) (c.know_all.ensures net H
    c.in_ok-engine.ensures.stands)
    (few_learned H given a.history.few_trades))
