use Rattle.std.proofs.Common.{◌≡◌, ◌+◌, ◌<◌, ◌++◌, [], ◌∷◌, length, List, subst, sym, ◌∙◌}
use Rattle.std.specs.Prelude.{slice_index_or}
use Rattle.std.proofs.lemmas.List.Elements.{All-take, All-from_recursion}
use Rattle.mk_net.specs.declared.words.Pair.{Pair}
use Rattle.mk_net.specs.inner.KeptEvents.{blank}
use Rattle.mk_states.specs.OfNetwork.{IsPairOf}
use Rattle.mk_engine.specs.Meaning.{ArePairsOf}
use Rattle.mk_beliefs.specs.Meanings.{weights_of}
use Rattle.mk_tree.proofs.Held.{held_take}
use Rattle.mk_answers.proofs.Searching.{has_room, take_more, goes_on, ends_here, never_comes, may_come}
use Rattle.mk_answers.proofs.possible.first_impossible.Goals as goal

pub unreachable-requires : goal.unreachable-requires
unreachable-requires g c =
    let event = c.args.event.now in let place = c.loop-place.place in
    let within : place < length event = rw c.pairs-pair-items.ensures.pairs at c.loop-place-test.true in
    has_room event place blank c.loop-place.held c.pairs-pair-items.ensures.event within c.loop-place.invariant.front
    (rw c.pairs-pair-items.ensures.pairs at c.in_default.ensures.none)

pub belief-requires-clause-held : goal.belief-requires-clause-held
belief-requires-clause-held g c =
    let a = c.requires in let event = c.args.event.now in let place = c.loop-place.place in
    let within : place < length event = rw c.pairs-pair-items.ensures.pairs at c.loop-place-test.true in
    let more : c.in-Some.longer ≡ c.loop-place.held ++ slice_index_or event place blank ∷ [] = rw c.pairs-pair-items.ensures.pairs at c.in-Some.ensures.some in
    g.met.P.Engine.held_is_answered c.loop-place.prices (weights_of a.network a.tree a.history)
    c.args.at c.in-Some.longer (c.loop-place.invariant.kept _ a.stands)
    (held_take a.tree c.args.at (place + 1) event c.in-Some.longer
    (take_more event place blank c.loop-place.held c.in-Some.longer within
    c.loop-place.invariant.front more) a.held)

pub belief-requires-clause-range : goal.belief-requires-clause-range
belief-requires-clause-range g c =
    let a = c.requires in let event = c.args.event.now in let place = c.loop-place.place in
    let within : place < length event = rw c.pairs-pair-items.ensures.pairs at c.loop-place-test.true in
    let more : c.in-Some.longer ≡ c.loop-place.held ++ slice_index_or event place blank ∷ [] = rw c.pairs-pair-items.ensures.pairs at c.in-Some.ensures.some in
    record {
      meaning = weights_of a.network a.tree a.history;
      stands = c.loop-place.invariant.kept _ a.stands;
      in_range =
          subst (λ (ps : List Pair). ArePairsOf a.network ps) (sym (take_more event place blank c.loop-place.held c.in-Some.longer within c.loop-place.invariant.front more))
          (All-take (IsPairOf a.network) (place + 1) event (All-from_recursion (IsPairOf a.network) event a.in_range));
    }

pub returns-in-Absent-clause-first : goal.returns-in-Absent-clause-first
returns-in-Absent-clause-first g c = λ network tree H stands is_open.
    let event = c.args.event.now in let place = c.loop-place.place in let so_far = c.loop-place.invariant in
    let within : place < length event = rw c.pairs-pair-items.ensures.pairs at c.loop-place-test.true in
    let more : c.in-Some.longer ≡ c.loop-place.held ++ slice_index_or event place blank ∷ [] = rw c.pairs-pair-items.ensures.pairs at c.in-Some.ensures.some in
    sym (so_far.behind network tree H stands is_open ∙ ends_here network H event place blank c.loop-place.held c.in-Some.longer within more
    (never_comes network tree H c.in-Some.longer c.belief.result (c.belief.ensures.belief _ (so_far.kept _ stands)).value is_open.legal is_open.proper c.in-Absent.is))

pub loop-place-preserved : goal.loop-place-preserved
loop-place-preserved g c =
    let event = c.args.event.now in let place = c.loop-place.place in let so_far = c.loop-place.invariant in
    let within : place < length event = rw c.pairs-pair-items.ensures.pairs at c.loop-place-test.true in
    let more : c.in-Some.longer ≡ c.loop-place.held ++ slice_index_or event place blank ∷ [] = rw c.pairs-pair-items.ensures.pairs at c.in-Some.ensures.some in
    record {
      kept = λ m h. c.belief.ensures.kept m (so_far.kept m h);
      front = take_more event place blank c.loop-place.held c.in-Some.longer within so_far.front more;
      behind = λ network tree H stands is_open.
          so_far.behind network tree H stands is_open ∙ goes_on network H event place blank c.loop-place.held c.in-Some.longer within more
          (may_come network tree H c.in-Some.longer c.belief.result (c.belief.ensures.belief _ (so_far.kept _ stands)).value c.in_default-belief.field-0 c.in_default-belief.is);
    }
