use Rattle.std.proofs.Common.{refl, sym, arith, lit<, lit≤}
use Rattle.mk_net.specs.Trades.{trade_ratio}
use Rattle.mk_assets.specs.Holdings.{opening_holding, with_trade, with_deposit, with_withdrawal}
use Rattle.mk_market_trials.proofs.assets.traded.Goals as goal

pub trade-requires-clause-range : goal.trade-requires-clause-range
trade-requires-clause-range g c =
    let coin = c.args.coin.now in let one = coin.one in let sides = coin.sides in
    record {
      holding = opening_holding coin.net coin.tree c.args.known.now;
      holds = c.in_ok-assets.ensures coin.tree c.args.known.now c.in_ok-plan.ensures;
      in_range = rw c.trade-ratio.ensures (record {
        variable = omega (arith, one);
        condition = tt;
        one_each = sym sides;
        positive = (lit≤ tt, (lit≤ tt, tt));
      });
      room = rw coin.plain (lit< tt);
    }

pub deposit-requires : goal.deposit-requires
deposit-requires g c =
    let coin = c.args.coin.now in
    let first = opening_holding coin.net coin.tree c.args.known.now in
    record {
      holding = with_trade (trade_ratio c.trade-ratio.result) first;
      holds = c.trade.ensures.held first
          (c.in_ok-assets.ensures coin.tree c.args.known.now c.in_ok-plan.ensures);
      room = lit≤ tt;
    }

pub withdraw-requires : goal.withdraw-requires
withdraw-requires g c =
    let coin = c.args.coin.now in let few = c.requires.withdrawn in
    let first = opening_holding coin.net coin.tree c.args.known.now in
    let holds = c.trade.ensures.held first
    (c.in_ok-assets.ensures coin.tree c.args.known.now c.in_ok-plan.ensures) in
    record {
      holding = with_deposit 1 (with_trade (trade_ratio c.trade-ratio.result) first);
      holds = c.deposit.ensures.held (with_trade (trade_ratio c.trade-ratio.result) first) holds
          (lit≤ tt);
      room = omega (arith, few);
    }

pub learn-requires : goal.learn-requires
learn-requires g c =
    let coin = c.args.coin.now in let few = c.requires.withdrawn in
    let first = opening_holding coin.net coin.tree c.args.known.now in
    let second = with_trade (trade_ratio c.trade-ratio.result) first in
    let holds = c.trade.ensures.held first
    (c.in_ok-assets.ensures coin.tree c.args.known.now c.in_ok-plan.ensures) in
    record {
      holding = with_withdrawal c.args.withdrawn (with_deposit 1 second);
      holds = c.withdraw.ensures.held (with_deposit 1 second)
          (c.deposit.ensures.held second holds (lit≤ tt)) (omega (arith, few));
      tree_of_it = c.requires.tree;
      same_tree = refl;
      same_known = refl;
      in_range = c.requires.known;
    }

pub returns : goal.returns
returns g c =
    let coin = c.args.coin.now in let few = c.requires.withdrawn in
    let first = opening_holding coin.net coin.tree c.args.known.now in
    let second = with_trade (trade_ratio c.trade-ratio.result) first in
    let holds = c.trade.ensures.held first
    (c.in_ok-assets.ensures coin.tree c.args.known.now c.in_ok-plan.ensures) in
    let third = c.withdraw.ensures.held (with_deposit 1 second)
    (c.deposit.ensures.held second holds (lit≤ tt)) (omega (arith, few)) in
    rw c.trade-ratio.ensures at (c.learn.ensures
    (with_withdrawal c.args.withdrawn (with_deposit 1 second)) third refl refl)
