use Rattle.mk_asking.proofs.Asking.{can_bound_spread, learnt_asked}
use Rattle.mk_asking.proofs.Learnt.{still_in_range}
use Rattle.mk_asking.proofs.spread_quoting.fresh_spread_quote.Goals as goal

pub assets-requires : goal.assets-requires
assets-requires g c = still_in_range c.args.users.now c.learn.new.users c.args.request.now.user c.learn.ensures.names c.requires.user

pub spread_bounds_of-sides-requires : goal.spread_bounds_of-sides-requires
spread_bounds_of-sides-requires g c =
    let a = c.requires in
    can_bound_spread g.P.Engine.stands_for c.args.request.now.user a.in_use.is_open a.in_use.weights
    (c.learn.ensures.learnt c.assets.result.now c.assets.ensures.value) a.answered a.home

pub returns : goal.returns
returns g c =
    let a = c.requires in
    let net = c.args.file.now.net in
    let tree = c.args.file.now.tree in
    let H = c.args.journal.now.history in
    let left = learnt_asked g.A.Engine.stands_for net tree H c.args.users.now c.learn.new.users
    c.args.request.now.user c.assets.result.now c.spread_bounds_of-sides.new.assets
    c.learn.ensures.held c.learn.ensures.names c.learn.ensures.apart c.learn.ensures.quotes
    c.assets.ensures.value c.spread_bounds_of-sides.ensures.kept_assets in
    record {
      prices = c.spread_bounds_of-sides.ensures.kept;
      held = left.held;
      names = left.names;
      apart = left.apart;
      quotes = left.quotes;
      quote = c.spread_quote_by.ensures net tree H c.revision.ensures a.answered
          (c.spread_bounds_of-sides.ensures.sides tree H c.args.request.now.user a.in_use.weights
          (c.learn.ensures.learnt c.assets.result.now c.assets.ensures.value) a.in_use.is_open
          a.answered);
    }
