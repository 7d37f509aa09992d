use Rattle.std.proofs.Common.{◌≡◌, true, ap, sym, ◌∙◌}
use Rattle.std.specs.List.{list_all}
use Rattle.mk_net.specs.declared.words.Pair.{Pair}
use Rattle.mk_net.specs.Asked.{ratio_pairs}
use Rattle.mk_net.specs.Trades.{trade_ratio}
use Rattle.mk_plan.specs.Shapes.{in_core}
use Rattle.mk_propagate.specs.inner.Boards.{table_of, core_of}
use Rattle.mk_propagate.proofs.Followed.{core_event, core_one_each, followed_times, followed_again}
use Rattle.mk_propagate.proofs.Prepared.{core_places_there}
use Rattle.mk_propagate.proofs.Boards.{core_same}
use Rattle.mk_propagate.proofs.sums.follow.Given.{Over}
use Rattle.mk_propagate.proofs.sums.follow.Goals.{After-core_holds}
use Rattle.mk_propagate.proofs.sums.follow.Goals as goal

pub returns-then-not-summed-clause-only : goal.returns-then-not-summed-clause-only
returns-then-not-summed-clause-only g c = core_same c.args.board.now c.args.clique

-- the core has each variable of the ratio
inside : (g : Over) (c : After-core_holds g) → c.core_holds.result ≡ true
    → list_all (λ (p : Pair). in_core c.args.shape.now.tree c.args.clique p.variable)
    (ratio_pairs (trade_ratio c.args.ratio.now)) ≡ true
inside g c holds =
    ap (list_all (λ (p : Pair). in_core c.args.shape.now.tree c.args.clique p.variable))
    (sym c.event.ensures.pairs) ∙ sym c.core_holds.ensures ∙ holds

pub core_times_ratio-requires-clause-ratio : goal.core_times_ratio-requires-clause-ratio
core_times_ratio-requires-clause-ratio g c =
    let shape = c.args.shape.now in let k = c.args.clique in let can = c.requires.can in
    let ratio = trade_ratio c.args.ratio.now in let fits = c.requires.fits in
    let within = inside g (goal.at.core_times_ratio-requires-clause-ratio g c).After-core_holds
    c.if-core_holds.true in
    let core = (core_of c.args.board.now k).scope in
    record {
      event = core_event shape k can.clique ratio within fits.0 fits.1 core can.of_core;
      one_each = core_one_each shape k can.clique ratio within fits.0 fits.1 core can.of_core fits.2;
      room = c.requires.core_room c.if-not-summed.false;
    }

pub returns-then-core_holds-clause-followed : goal.returns-then-core_holds-clause-followed
returns-then-core_holds-clause-followed g c = λ marked.
    let k = c.args.clique in let made = c.core_times_ratio.ensures.made in
    followed_times c.args.shape.now k c.requires.can.clique (trade_ratio c.args.ratio.now)
    (inside g (goal.at.returns-then-core_holds-clause-followed g c).After-core_holds
    c.if-core_holds.true)
    g.R.Semiring.plus_of g.met.R.Semiring.lawful (table_of c.args.board.now k)
    (core_of c.args.board.now k) (core_of c.core_times_ratio.new.self k) made.scope made.shift
    made.numbers made.touched

pub returns-then-is_empty-clause-only : goal.returns-then-is_empty-clause-only
returns-then-is_empty-clause-only g c = core_same c.args.board.now c.args.clique

pub sum_again-requires-clause-places : goal.sum_again-requires-clause-places
sum_again-requires-clause-places g c =
    core_places_there c.args.shape.now c.args.board.now c.args.clique c.requires.can
    c.core_places.result.now c.core_places.ensures

pub returns-else-is_empty-clause-followed : goal.returns-else-is_empty-clause-followed
returns-else-is_empty-clause-followed g c = λ marked.
    let k = c.args.clique in let again = c.sum_again.ensures.made in
    followed_again g.R.Semiring.plus_of g.met.R.Semiring.lawful c.args.shape.now k
    c.requires.can.clique (trade_ratio c.args.ratio.now) (table_of c.args.board.now k)
    (core_of c.args.board.now k) again.was_full (c.requires.shift c.if-not-summed.false)
    (core_of c.sum_again.new.self k) again.scope again.shift again.full again.numbers again.touched
