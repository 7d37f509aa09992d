use Rattle.std.proofs.Common.{length, sym, ap, ◌∙◌}
use Rattle.mk_net.specs.Asked.{ratio_pairs}
use Rattle.mk_net.specs.Trades.{trade_ratio}
use Rattle.mk_states.specs.Events.{always}
use Rattle.mk_exact.specs.Weight.{total}
use Rattle.mk_tree.specs.Given.{home}
use Rattle.mk_tree.proofs.Held.{home_is_held}
use Rattle.mk_answers.proofs.Presence.{some_weight}
use Rattle.mk_expect.specs.inner.Parts.{values_gained, values_owed}
use Rattle.mk_expect.proofs.Covered.{some_bits, some_are_bits}
use Rattle.mk_expect.proofs.Means.{owed_at_most}
use Rattle.mk_best.proofs.Replayed.{no_home}
use Rattle.mk_expect.proofs.Tallied.{rounded_tally, rounded_narrow}
use Rattle.mk_expect.proofs.trades.trade_tally.Goals as goal

pub unreachable-requires : goal.unreachable-requires
unreachable-requires g c =
    let tree = c.args.tree.now in let r = trade_ratio c.args.ratio.now in
    no_home c.home.result (home tree (ratio_pairs r)) c.in_default.is
    (c.home.ensures.home ∙ ap (home tree) c.event.ensures.pairs) c.requires.at_home

pub values_tally-tally-requires : goal.values_tally-tally-requires
values_tally-tally-requires g c =
    let a = c.requires in let tree = c.args.tree.now in let r = trade_ratio c.args.ratio.now in
    record {
      network = a.network;
      tree = tree;
      history = a.history;
      has = a.has;
      in_range = a.in_range;
      held = home_is_held tree c.in-Some.home (ratio_pairs r)
          (sym (c.home.ensures.home ∙ ap (home tree) c.event.ensures.pairs) ∙ c.in-Some.is);
    }

pub returns-clause-tally : goal.returns-clause-tally
returns-clause-tally g c = λ network H has bits are.
    let r = trade_ratio c.args.ratio.now in let n = length c.args.ratio.now.factors.items in
    rounded_tally c.values_tally-tally.result (total network H always)
    (values_gained network H bits r n) (values_owed network H r n)
    (c.values_tally-tally.ensures.tally network c.args.tree.now H has bits are)

pub returns-clause-narrow : goal.returns-clause-narrow
returns-clause-narrow g c =
    let a = c.requires in let r = trade_ratio c.args.ratio.now in
    let n = length c.args.ratio.now.factors.items in
    rounded_narrow c.values_tally-tally.result (total a.network a.history always)
    (values_gained a.network a.history some_bits r n) (values_owed a.network a.history r n)
    (some_weight c.args.whole.now (total a.network a.history always) a.has.of_whole.encloses)
    (c.values_tally-tally.ensures.tally a.network c.args.tree.now a.history a.has some_bits
    some_are_bits)
    (owed_at_most a.network a.history r a.in_range.variable a.in_range.one_each)
    c.values_tally-tally.ensures.thin
