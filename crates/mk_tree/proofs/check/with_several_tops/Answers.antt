use Rattle.std.proofs.Common.{◌≡◌, length, arith, subst}
use Rattle.mk_tree.proofs.Tested.{AreTops, tops_grow, tops_end}
use Rattle.mk_tree.proofs.check.with_several_tops.Goals as goal

pub loop-place-preserved : goal.loop-place-preserved
loop-place-preserved c =
    tops_grow (record { cliques = c.args.cliques.now; links = c.args.links.now }) c.loop-place.place c.loop-place.once c.loop-place.twice c.common.result
    c.top_variables-tops.result c.union-once.result c.union-twice.result c.loop-place.invariant c.top_variables-tops.ensures c.common.ensures c.union-twice.ensures c.union-once.ensures

pub returns : goal.returns
returns c =
    let all : c.loop-place.place ≡ length c.args.cliques.now = omega arith in
    tops_end (record { cliques = c.args.cliques.now; links = c.args.links.now }) c.loop-place.once c.loop-place.twice c.requires
    (subst (λ n. AreTops (record { cliques = c.args.cliques.now; links = c.args.links.now }) n c.loop-place.once c.loop-place.twice) all c.loop-place.invariant)
