use Rattle.std.proofs.Common.{◌≡◌, true, is_some, subst, ◌∙◌, ap}
use Rattle.mk_net.specs.Asked.{ratio_pairs}
use Rattle.mk_net.specs.Trades.{trade_ratio}
use Rattle.mk_exact.specs.History as history
use Rattle.mk_tree.specs.Given.{GivenTree, home}
use Rattle.mk_assets.specs.Holdings.{with_first_known}
use Rattle.mk_history.specs.declared.entry.Entry.{Entry}
use Rattle.mk_history.specs.Entries.{change_of}
use Rattle.mk_replay.specs.inner.Taking.{CanTakeBy}
use Rattle.mk_replay.proofs.holdings.take_own.Goals as goal

same_change : (P : history.Entry → Type 0) (e d : Entry) → e ≡ d → P (change_of e)
    → P (change_of d)
same_change P e d same h = subst (λ (e : Entry). P (change_of e)) same h

pub home_of_trade-requires : goal.home_of_trade-requires
home_of_trade-requires g c =
    let a = c.requires in
    let t = same_change (CanTakeBy a.holding.meaning) _ _ c.in-Trade.is a.takes in
    subst (λ (t : GivenTree). is_some (home t (ratio_pairs (trade_ratio c.in-Trade.ratio))) ≡ true)
    a.of_tree t.1

pub trade-requires-clause-home : goal.trade-requires-clause-home
trade-requires-clause-home g c =
    let a = c.requires in
    g.met.A.Engine.home_is_place c.args.assets.now.engine
    (with_first_known c.args.assets.now.learnt a.holding.meaning) c.home_of_trade.result
    (ratio_pairs (trade_ratio c.in-Trade.ratio)) a.holds.stands
    (ap (λ (t : GivenTree). home t (ratio_pairs (trade_ratio c.in-Trade.ratio))) a.of_tree
    ∙ c.home_of_trade.ensures)

pub trade-requires-clause-range : goal.trade-requires-clause-range
trade-requires-clause-range g c =
    let a = c.requires in
    let t = same_change (CanTakeBy a.holding.meaning) _ _ c.in-Trade.is a.takes in
    record { holding = a.holding; holds = a.holds; in_range = t.0; room = t.2 }
