use Rattle.std.proofs.Common.{◌≡◌, None, rules}
use Rattle.mk_tree.specs.Tests.{tree_fault}
use Rattle.mk_tree.proofs.Faultless.{tree_without_fault}
use Rattle.mk_tree.proofs.tree.Tree.from_cliques.Goals as goal

pub returns-clause-tree : goal.returns-clause-tree
returns-clause-tree c =
    let none : tree_fault c.args.net.now (record { cliques = c.args.cliques.now; links = c.args.links.now }) ≡ None = search rules in
    let cliques : c.in_ok-to_vec.field-0.items ≡ c.args.cliques.now = search rules in
    let links : c.in_ok-to_vec-2.field-0.items ≡ c.args.links.now = search rules in
    rw (cliques, links) (tree_without_fault c.args.net.now (record { cliques = c.args.cliques.now; links = c.args.links.now }) c.requires.linked c.requires.of_network none)
