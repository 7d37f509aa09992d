use Rattle.std.proofs.Common.{◌≡◌, true, is_some, subst, ◌∙◌, ap}
use Rattle.mk_net.specs.Asked.{ratio_pairs}
use Rattle.mk_net.specs.Trades.{trade_ratio}
use Rattle.mk_tree.specs.Given.{GivenTree, home}
use Rattle.mk_engine.specs.Meaning.{Meaning}
use Rattle.mk_history.specs.declared.entry.Entry.{Entry}
use Rattle.mk_history.specs.Entries.{change_of}
use Rattle.mk_replay.specs.inner.Taking.{CanTakeBy}
use Rattle.mk_replay.proofs.engines.take.Goals as goal

takes : (m : Meaning) (e d : Entry) → e ≡ d → CanTakeBy m (change_of e) → CanTakeBy m (change_of d)
takes m e d same h = subst (λ (e : Entry). CanTakeBy m (change_of e)) same h

pub home_of_trade-requires : goal.home_of_trade-requires
home_of_trade-requires g c =
    let a = c.requires in let t = takes a.meaning _ _ c.in-Trade.is a.takes in
    subst (λ (t : GivenTree). is_some (home t (ratio_pairs (trade_ratio c.in-Trade.ratio))) ≡ true)
    a.of_tree t.1

pub multiply-requires-clause-home : goal.multiply-requires-clause-home
multiply-requires-clause-home g c =
    let a = c.requires in
    g.met.E.Engine.home_is_place c.args.engine.now a.meaning c.home_of_trade.result
    (ratio_pairs (trade_ratio c.in-Trade.ratio)) a.stands
    (ap (λ (t : GivenTree). home t (ratio_pairs (trade_ratio c.in-Trade.ratio))) a.of_tree
    ∙ c.home_of_trade.ensures)

pub multiply-requires-clause-range : goal.multiply-requires-clause-range
multiply-requires-clause-range g c =
    let a = c.requires in let t = takes a.meaning _ _ c.in-Trade.is a.takes in
    record { meaning = a.meaning; stands = a.stands; in_range = t.0; room = t.2 }
