use Rattle.std.proofs.Common.{◌∙◌, length, sym}
use Rattle.mk_sums.proofs.Hops.{hop_linked, ends}
use Rattle.mk_tree.specs.Given.{link_of}
use Rattle.mk_plan.specs.Shapes.{next_on_way}
use Rattle.mk_tree_engine.proofs.passes.is_stale_towards.Goals as goal

pub is_stale-requires-clause-apart : goal.is_stale-requires-clause-apart
is_stale-requires-clause-apart c = λ e.
    let tree = c.args.shape.now.tree in let k = c.args.k in let clique = c.args.clique in let m = length tree.cliques in
    let links = c.requires.marks.linked.earlier in
    let l = hop_linked (link_of tree) m k clique links c.requires.k.first c.requires.k.last c.requires.clique.first c.requires.clique.last (λ f. c.if-k-clique.true (sym f)) in
    (ends (link_of tree) m (next_on_way tree k clique) k links l).4 (sym (e ∙ c.next.ensures.next))
