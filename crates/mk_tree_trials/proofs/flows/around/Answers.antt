use Rattle.mk_tree_trials.proofs.Ready.{into}
use Rattle.mk_tree_trials.proofs.flows.around.Goals as goal

pub again-requires : goal.again-requires
again-requires g c =
    let q = c.towards.ensures c.requires.0 c.requires.1 c.requires.2 in
    (c.requires.0, c.requires.1, record { some = q.some; right = into g.R.Semiring.plus_of c.towards.new.flow q.some.placing c.args.clique q.some.has q.towards })

pub away-requires : goal.away-requires
away-requires g c =
    let q = c.towards.ensures c.requires.0 c.requires.1 c.requires.2 in
    (c.requires.0, c.requires.1, c.again.ensures.collected c.requires.0 c.requires.1 c.args.clique q)

pub again-requires-2 : goal.again-requires-2
again-requires-2 g c =
    let q = c.towards.ensures c.requires.0 c.requires.1 c.requires.2 in
    let kept = c.again.ensures.collected c.requires.0 c.requires.1 c.args.clique q in
    (c.requires.0, c.requires.1, c.away.ensures c.requires.0 c.requires.1 kept)

pub returns : goal.returns
returns g c = λ network count some.
    let kept = c.again.ensures.collected network count c.args.clique (c.towards.ensures network count some) in
    c.again-2.ensures.ready network count c.args.clique (c.away.ensures network count kept)
