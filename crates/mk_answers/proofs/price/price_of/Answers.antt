use Rattle.std.proofs.Common.{◌≡◌, [], subst}
use Rattle.mk_states.specs.Events.{holds, with_target}
use Rattle.mk_exact.specs.Weight.{IsSmall, total}
use Rattle.mk_net.specs.Network.{sizes}
use Rattle.mk_net.specs.Zeros.{with_zeros}
use Rattle.std.specs.Prelude.{slice_index}
use Rattle.mk_semiring.specs.declared.held.Held.{Held}
use Rattle.mk_beliefs.specs.Meanings.{weights_of}
use Rattle.mk_answers.specs.inner.Found.{IsBeliefIn}
use Rattle.mk_answers.proofs.Bounding.{can_ask_weights, found_of}
use Rattle.mk_answers.proofs.Homes.{condition_is_held}
use Rattle.mk_answers.proofs.NoZeros.{hit_some, miss_some, condition_some, none_of}
use Rattle.mk_answers.proofs.Sided.{priced}
use Rattle.mk_answers.proofs.Regraded.{graded_of_present}
use Rattle.mk_answers.proofs.Weights.{is_there, hit_in, part_in, sides_in, has_sides, condition_in}
use Rattle.mk_answers.proofs.Weights.{event_graded, others_graded, ends_in_order, interval_covers}
use Rattle.mk_answers.proofs.price.price_of.Goals as goal

pub belief_of_others-rest-requires : goal.belief_of_others-rest-requires
belief_of_others-rest-requires g c =
    let a = c.requires in let network = c.args.net.now in let asked = c.args.asked.now in let m = weights_of network a.tree a.history in
    let sized : c.values-values.result ≡ slice_index (sizes network) asked.target.variable = rw c.target.ensures at c.values-values.ensures in
    can_ask_weights network a.tree a.history 0 a.is_open asked a.answered g.P.Engine.stands_for
    c.belief-part.new.self c.args.at c.values-values.result
    (c.belief-part.ensures.kept m a.stands) a.held sized

pub price_of_sides-requires : goal.price_of_sides-requires
price_of_sides-requires g c =
    let a = c.requires in let network = c.args.net.now in let asked = c.args.asked.now in let m = weights_of network a.tree a.history in
    let sized : c.values-values.result ≡ slice_index (sizes network) asked.target.variable = rw c.target.ensures at c.values-values.ensures in
    has_sides network a.history asked _ _
    (sides_in network a.tree a.history a.is_open asked _ _ _ _ c.event.ensures.pairs
    a.answered.in_order.in_range sized (c.belief-part.ensures.belief m a.stands)
    (c.belief_of_others-rest.ensures.belief m (c.belief-part.ensures.kept m a.stands) sized))

pub returns-then-not-is_empty-clause-price : goal.returns-then-not-is_empty-clause-price
returns-then-not-is_empty-clause-price g c = λ tree H most_trades stands is_open fit answered.
    let network = c.args.net.now in let asked = c.args.asked.now in let m = weights_of network tree H in
    let sized : c.values-values.result ≡ slice_index (sizes network) asked.target.variable = rw c.target.ensures at c.values-values.ensures in
    let on_part = c.belief-part.ensures.belief m stands in
    let on_rest =
    c.belief_of_others-rest.ensures.belief m (c.belief-part.ensures.kept m stands) sized in
    c.price_of_sides.ensures network H most_trades asked is_open.legal is_open.proper
    (sides_in network tree H is_open asked _ _ _ _ c.event.ensures.pairs
    answered.in_order.in_range sized on_part on_rest)
    (event_graded network tree H is_open most_trades fit c.event.result c.belief-part.result
    on_part)
    (others_graded network tree H is_open most_trades fit asked c.values-values.result
    c.belief_of_others-rest.result on_rest)

pub belief-whole-requires-clause-held : goal.belief-whole-requires-clause-held
belief-whole-requires-clause-held g c =
    let a = c.requires in let m = weights_of c.args.net.now a.tree a.history in
    g.met.P.Engine.held_is_answered c.belief-part.new.self m c.args.at c.condition-condition.result
    (c.belief-part.ensures.kept m a.stands)
    (condition_is_held a.tree c.args.at c.args.asked.now c.condition-condition.result
    c.condition-condition.ensures.condition a.held)

pub enclosure_of-requires : goal.enclosure_of-requires
enclosure_of-requires g c =
    let a = c.requires in let network = c.args.net.now in let asked = c.args.asked.now in
    let no_shares : with_zeros network ≡ [] = none_of c.with_zeros.result.now (with_zeros network) c.is_empty.result c.if-not-is_empty.false c.is_empty.ensures c.with_zeros.ensures in
    is_there c.belief-part.result (IsSmall network a.history) (total network a.history (with_target asked))
    (hit_in network a.tree a.history a.is_open asked c.event.result c.belief-part.result c.event.ensures.pairs (c.belief-part.ensures.belief (weights_of network a.tree a.history) a.stands))
    (hit_some network a.tree a.history a.is_open asked a.answered no_shares)

pub enclosure_of-requires-2 : goal.enclosure_of-requires-2
enclosure_of-requires-2 g c =
    let a = c.requires in let network = c.args.net.now in let asked = c.args.asked.now in let m = weights_of network a.tree a.history in
    let no_shares : with_zeros network ≡ [] = none_of c.with_zeros.result.now (with_zeros network) c.is_empty.result c.if-not-is_empty.false c.is_empty.ensures c.with_zeros.ensures in
    is_there c.belief-whole.result (IsSmall network a.history) (total network a.history (holds asked.condition))
    (condition_in network a.tree a.history a.is_open asked c.condition-condition.result c.belief-whole.result c.condition-condition.ensures.condition
    (c.belief-whole.ensures.belief m (c.belief-part.ensures.kept m a.stands)))
    (condition_some network a.tree a.history a.is_open asked a.answered no_shares)

pub parts-requires-clause-part : goal.parts-requires-clause-part
parts-requires-clause-part g c =
    let a = c.requires in let network = c.args.net.now in let asked = c.args.asked.now in let m = weights_of network a.tree a.history in let small = IsSmall network a.history in
    ends_in_order network a.history asked c.enclosure_of.result c.enclosure_of-2.result
    (part_in network a.tree a.history a.is_open asked c.event.result c.belief-part.result c.enclosure_of.result c.event.ensures.pairs c.enclosure_of.ensures (c.belief-part.ensures.belief m a.stands))
    (found_of c.enclosure_of-2.result small _ (subst (λ (b : Held). IsBeliefIn b small (total network a.history (holds asked.condition))) c.enclosure_of-2.ensures
    (condition_in network a.tree a.history a.is_open asked c.condition-condition.result c.belief-whole.result c.condition-condition.ensures.condition
    (c.belief-whole.ensures.belief m (c.belief-part.ensures.kept m a.stands)))))

pub returns-clause-price : goal.returns-clause-price
returns-clause-price g c = λ tree H most_trades stands is_open fit answered.
    let network = c.args.net.now in let asked = c.args.asked.now in let m = weights_of network tree H in let small = IsSmall network H in
    let no_shares : with_zeros network ≡ [] = none_of c.with_zeros.result.now (with_zeros network) c.is_empty.result c.if-not-is_empty.false c.is_empty.ensures c.with_zeros.ensures in
    let on_part = c.belief-part.ensures.belief m stands in
    let on_whole = c.belief-whole.ensures.belief m (c.belief-part.ensures.kept m stands) in
    priced network H most_trades asked
    (condition_some network tree H is_open asked answered no_shares) c.parts.result
    (interval_covers network H asked c.enclosure_of.result c.enclosure_of-2.result
    (part_in network tree H is_open asked c.event.result c.belief-part.result c.enclosure_of.result c.event.ensures.pairs c.enclosure_of.ensures (c.belief-part.ensures.belief m stands))
    (found_of c.enclosure_of-2.result small _ (subst (λ (b : Held). IsBeliefIn b small (total network H (holds asked.condition))) c.enclosure_of-2.ensures
    (condition_in network tree H is_open asked c.condition-condition.result c.belief-whole.result c.condition-condition.ensures.condition
    (c.belief-whole.ensures.belief m (c.belief-part.ensures.kept m stands)))))
    most_trades
    (graded_of_present c.belief-part.result c.enclosure_of.result most_trades c.enclosure_of.ensures
    (event_graded network tree H is_open most_trades fit c.event.result c.belief-part.result
    on_part))
    (graded_of_present c.belief-whole.result c.enclosure_of-2.result most_trades
    c.enclosure_of-2.ensures
    (event_graded network tree H is_open most_trades fit c.condition-condition.result
    c.belief-whole.result on_whole))
    (miss_some network tree H is_open asked answered no_shares) c.parts.result.0 c.parts.result.1
    (assumption c.parts.ensures))
