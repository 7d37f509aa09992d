use Rattle.std.proofs.Common.{List, [], ◌∷◌, take, get_or, sym, subst, ap, ◌∙◌}
use Rattle.std.proofs.lemmas.List.{take_all}
use Rattle.std.proofs.lemmas.List.Elements.{All-get_or}
use Rattle.mk_net.specs.declared.words.Pair.{Pair}
use Rattle.mk_states.specs.OfNetwork.{IsPairOf}
use Rattle.mk_tree.specs.Given.{GivenTree, home}
use Rattle.mk_tree.proofs.Held.{pair_has_home}
use Rattle.mk_replay.specs.Known.{with_all_known}
use Rattle.mk_replay.proofs.Weighed.{none_known, known_more}
use Rattle.mk_replay.proofs.rows.know_all.Goals as goal

abbrev blank : Pair
blank = record { variable = 0; value = 0 }

pub home_of_pair-requires : goal.home_of_pair-requires
home_of_pair-requires g c =
    let a = c.requires in let pairs = c.args.pairs.now in let i = c.loop-pair.pair-index in
    let fits = All-get_or (IsPairOf a.meaning.network) pairs i blank c.loop-pair-test.true
    a.in_range in
    pair_has_home a.meaning.network c.args.tree.now (get_or pairs i blank)
    (a.tree_of_it.covers _ fits.variable)

pub know-requires-clause-home : goal.know-requires-clause-home
know-requires-clause-home g c =
    let a = c.requires in let pairs = c.args.pairs.now in let i = c.loop-pair.pair-index in
    g.met.E.Engine.home_is_place c.loop-pair.engine (with_all_known (take i pairs) a.meaning)
    c.home_of_pair.result _ (c.loop-pair.invariant a.meaning a.stands)
    (ap (λ (t : GivenTree). home t (get_or pairs i blank ∷ [])) a.of_tree
    ∙ c.home_of_pair.ensures)

pub know-requires-clause-range : goal.know-requires-clause-range
know-requires-clause-range g c =
    let a = c.requires in let pairs = c.args.pairs.now in let i = c.loop-pair.pair-index in
    record {
      meaning = with_all_known (take i pairs) a.meaning;
      stands = c.loop-pair.invariant a.meaning a.stands;
      in_range = All-get_or (IsPairOf a.meaning.network) pairs i _ c.loop-pair-test.true
          a.in_range;
    }

pub loop-pair-init : goal.loop-pair-init
loop-pair-init g c = λ m h. subst (g.E.Engine.stands_for c.args.engine.now) (sym (none_known m)) h

pub loop-pair-preserved : goal.loop-pair-preserved
loop-pair-preserved g c = λ m h.
    let pairs = c.args.pairs.now in let i = c.loop-pair.pair-index in
    subst (g.E.Engine.stands_for c.know.new.self)
    (known_more m pairs blank i c.loop-pair-test.true)
    (c.know.ensures (with_all_known (take i pairs) m) (c.loop-pair.invariant m h))

pub returns : goal.returns
returns g c = λ m h.
    subst (λ (ps : List Pair). g.E.Engine.stands_for c.loop-pair.engine (with_all_known ps m))
    (take_all c.loop-pair.pair-index c.args.pairs.now c.loop-pair-test.false)
    (c.loop-pair.invariant m h)
