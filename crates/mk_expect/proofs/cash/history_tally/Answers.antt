use Rattle.mk_states.specs.Events.{always}
use Rattle.mk_exact.specs.Weight.{IsSmall, total}
use Rattle.mk_beliefs.specs.Meanings.{weights_of}
use Rattle.mk_answers.proofs.Homes.{nothing_at_root}
use Rattle.mk_best.proofs.Shares.{left_in, in_absent}
use Rattle.mk_expect.proofs.Covered.{some_bits, some_are_bits}
use Rattle.mk_expect.proofs.Placed.{all_fit, some_weighs}
use Rattle.mk_expect.proofs.Prefixes.{all_have_room}
use Rattle.mk_expect.proofs.Shares.{has_whole}
use Rattle.mk_expect.proofs.cash.history_tally.Goals as goal

pub belief-requires-clause-held : goal.belief-requires-clause-held
belief-requires-clause-held g c =
    let a = c.requires in let tree = c.args.tree.now in
    g.met.E.Engine.held_is_answered c.args.engine.now
    (weights_of a.network tree c.args.history.now.history) 1 c.empty.result a.stands
    (nothing_at_root tree c.empty.result c.empty.ensures a.tree_of_it.linked.some)

pub unreachable-requires : goal.unreachable-requires
unreachable-requires g c =
    let a = c.requires in let tree = c.args.tree.now in let H = c.args.history.now.history in
    some_weighs a.network H a.legal a.placed.proper
    (in_absent c.belief.result (IsSmall a.network H) (total a.network H always) c.in_default.is
    (left_in a.network tree H a.legal a.placed.few_trades c.empty.result c.belief.result
    c.empty.ensures (c.belief.ensures.belief (weights_of a.network tree H) a.stands)))

pub entries_tally-requires : goal.entries_tally-requires
entries_tally-requires g c =
    let a = c.requires in let tree = c.args.tree.now in let H = c.args.history.now.history in
    record {
      network = a.network;
      has = has_whole g.E.Engine.stands_for c.args.engine.now c.belief.new.self
          c.belief.ensures.kept a.network tree H c.empty.result c.belief.result
          c.in-Present.whole c.empty.ensures c.in-Present.is a.stands a.legal a.placed.few_trades
          (c.belief.ensures.belief (weights_of a.network tree H) a.stands);
      fits = all_fit a.network tree H a.placed;
      few_bits = a.few_bits;
    }

pub returns-clause-adds : goal.returns-clause-adds
returns-clause-adds g c = λ network legal stands bits are.
    let a = c.requires in let tree = c.args.tree.now in let H = c.args.history.now.history in
    c.entries_tally.ensures network
    (has_whole g.E.Engine.stands_for c.args.engine.now c.belief.new.self c.belief.ensures.kept
    network tree H c.empty.result c.belief.result c.in-Present.whole c.empty.ensures
    c.in-Present.is stands legal a.placed.few_trades
    (c.belief.ensures.belief (weights_of network tree H) stands)) bits are

pub returns-clause-small : goal.returns-clause-small
returns-clause-small g c =
    let a = c.requires in let tree = c.args.tree.now in let H = c.args.history.now.history in
    all_have_room a.network H some_bits c.args.user c.entries_tally.result
    a.few_bits a.placed.few_trades
    (c.entries_tally.ensures a.network
    (has_whole g.E.Engine.stands_for c.args.engine.now c.belief.new.self c.belief.ensures.kept
    a.network tree H c.empty.result c.belief.result c.in-Present.whole c.empty.ensures
    c.in-Present.is a.stands a.legal a.placed.few_trades
    (c.belief.ensures.belief (weights_of a.network tree H) a.stands)) some_bits some_are_bits)
