use Rattle.std.proofs.Common.{◌&&◌, not, arith, ap₂, ◌∙◌}
use Rattle.mk_sets.specs.Sets.{VarSet, is_member}
use Rattle.mk_tree.proofs.Tested.{linked_earlier, top_after_first}
use Rattle.mk_tree.proofs.check.top_variables.Goals as goal

pub overflow_sub-link-2 : goal.overflow_sub-link-2
overflow_sub-link-2 c =
    (linked_earlier (record { cliques = c.args.cliques.now; links = c.args.links.now }) c.args.place c.requires.linked (omega arith) (omega arith)).0

pub bounds-cliques-link : goal.bounds-cliques-link
bounds-cliques-link c =
    let link = linked_earlier (record { cliques = c.args.cliques.now; links = c.args.links.now }) c.args.place c.requires.linked (omega arith) (omega arith) in
    omega (arith, link.0, link.1)

pub returns : goal.returns
returns c x =
    c.without.ensures x
    ∙ ap₂ (λ (own other : VarSet). is_member own x && not (is_member other x)) c.index-cliques-place.is c.index-cliques-link.is
    ∙ top_after_first (record { cliques = c.args.cliques.now; links = c.args.links.now }) c.args.place x _ _ c.requires.linked (omega arith) (omega arith)
