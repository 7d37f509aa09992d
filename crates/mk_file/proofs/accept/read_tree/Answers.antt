use Rattle.std.proofs.Common.{Some, None, length, ap, ◌∙◌}
use Rattle.std.proofs.lemmas.List.{length-map}
use Rattle.std.proofs.lemmas.Result.{err_from_is_err_and}
use Rattle.mk_net.specs.Drafts.{drafts_of}
use Rattle.mk_file.specs.Cliques.{of_tree}
use Rattle.mk_file.specs.inner.Views.{draft_of}
use Rattle.mk_file.proofs.Grown.{names_are, linked_tree, cliques_stop, links_stop, tree_is, trees_are}
use Rattle.mk_file.proofs.accept.read_tree.Goals as goal

pub read_cliques-requires-clause-names : goal.read_cliques-requires-clause-names
read_cliques-requires-clause-names c = rw c.requires.checked (names_are c.args.draft.now.draft.zeros (drafts_of c.args.draft.now.draft) c.requires.faultless)

pub returns-in_err-cliques-clause-fault : goal.returns-in_err-cliques-clause-fault
returns-in_err-cliques-clause-fault c =
    let returned = err_from_is_err_and c.from_residual.result c.from_residual.ensures.1 in
    rw (returned.1, returned.2) (λ known. cliques_stop (draft_of c.args.draft.now) c.args.net.now _ c.requires.checked
    (rw c.deref.ensures.value at (c.in_err-cliques.ensures.fault known)))

pub returns-in_err-links-clause-fault : goal.returns-in_err-links-clause-fault
returns-in_err-links-clause-fault c =
    let returned = err_from_is_err_and c.from_residual-in_err-links.result c.from_residual-in_err-links.ensures.1 in
    rw (returned.1, returned.2) (λ known. links_stop (draft_of c.args.draft.now) c.args.net.now _ c.requires.checked
    (rw c.deref.ensures.value at c.in_ok-cliques.ensures.faultless) (rw c.deref-2.ensures.value at (c.in_err-links.ensures.fault known)))

pub from_cliques-requires-clause-linked : goal.from_cliques-requires-clause-linked
from_cliques-requires-clause-linked c =
    let sets = rw c.deref.ensures.value at c.in_ok-cliques.ensures.sets in
    rw (c.deref-3.ensures.value, c.deref-4.ensures.value) (linked_tree (draft_of c.args.draft.now) c.in_ok-cliques.cliques.items c.in_ok-links.links.items c.requires.counted
    (ap (λ xs. length xs) sets ∙ length-map _ _) (rw c.deref-2.ensures.value at c.in_ok-links.ensures.links) (rw c.deref-2.ensures.value at c.in_ok-links.ensures.faultless))

pub returns-in_err-from_cliques-clause-fault : goal.returns-in_err-from_cliques-clause-fault
returns-in_err-from_cliques-clause-fault c =
    let draft = draft_of c.args.draft.now in
    let fault = c.in_err-from_cliques.field-0.0 in
    let returned = err_from_is_err_and c.from_residual-in_err-from_cliques.result c.from_residual-in_err-from_cliques.ensures.1 in
    let given = tree_is draft c.args.net.now c.deref-3.result.now c.deref-4.result.now c.requires.checked
    (c.deref-3.ensures.value ∙ (rw c.deref.ensures.value at c.in_ok-cliques.ensures.sets)) (c.deref-4.ensures.value ∙ (rw c.deref-2.ensures.value at c.in_ok-links.ensures.links)) in
    rw (returned.1, returned.2) (λ known. trees_are draft c.args.net.now _ (Some fault) c.requires.checked
    (rw c.deref.ensures.value at c.in_ok-cliques.ensures.faultless) (rw c.deref-2.ensures.value at c.in_ok-links.ensures.faultless) given
    (c.in_err-from_cliques.ensures.fault (λ memory. known (ap of_tree memory))))

pub returns-clause-given : goal.returns-clause-given
returns-clause-given c = c.in_ok-from_cliques.ensures.same
    ∙ tree_is (draft_of c.args.draft.now) c.args.net.now c.deref-3.result.now c.deref-4.result.now c.requires.checked
    (c.deref-3.ensures.value ∙ (rw c.deref.ensures.value at c.in_ok-cliques.ensures.sets)) (c.deref-4.ensures.value ∙ (rw c.deref-2.ensures.value at c.in_ok-links.ensures.links))

pub returns-clause-whole : goal.returns-clause-whole
returns-clause-whole c =
    let given = c.in_ok-from_cliques.ensures.same
    ∙ tree_is (draft_of c.args.draft.now) c.args.net.now c.deref-3.result.now c.deref-4.result.now c.requires.checked
    (c.deref-3.ensures.value ∙ (rw c.deref.ensures.value at c.in_ok-cliques.ensures.sets)) (c.deref-4.ensures.value ∙ (rw c.deref-2.ensures.value at c.in_ok-links.ensures.links)) in
    trees_are (draft_of c.args.draft.now) c.args.net.now c.in_ok-from_cliques.field-0 None c.requires.checked
    (rw c.deref.ensures.value at c.in_ok-cliques.ensures.faultless) (rw c.deref-2.ensures.value at c.in_ok-links.ensures.faultless) given c.in_ok-from_cliques.ensures.faultless
