use Rattle.std.proofs.Common.{◌≡◌, ◌≤◌, Some, length, sym, ap, ◌∙◌}
use Rattle.std.specs.Prelude.{is_some}
use Rattle.std.proofs.lemmas.List.{length-map}
use Rattle.mk_net.specs.Bounds.{max_clique_cells}
use Rattle.mk_tree.specs.Tests.{members, cells_of}
use Rattle.mk_admission.proofs.AddedCliques.{set_below, others_few, own_is, own_is_covered}
use Rattle.mk_admission.proofs.AddedCliques.{counted_cells}
use Rattle.mk_admission.proofs.refusing_additions.own_cells.Goals as goal

pub clique_cells-requires : goal.clique_cells-requires
clique_cells-requires c =
    record {
      of_network =
          set_below c.args.file.now.net c.args.add.now.clique.items c.shared-others.result
          c.shared-others.ensures;
    }

pub unwrap-cells-requires : goal.unwrap-cells-requires
unwrap-cells-requires c =
    let file = c.args.file.now in let placed = c.requires.placed in
    let last : c.args.add.now.link ≤ length file.tree.cliques =
    rw (← length-map file.tree.cliques (members file.net)) placed.last in
    let few = others_few file c.args.add.now c.shared-others.result c.variables.ensures.network
    c.requires.tree placed.untaken placed.first last placed.running c.shared-others.ensures in
    let there : c.clique_cells.result ≡ Some (cells_of file.net c.shared-others.result) =
    counted_cells c.clique_cells.result (cells_of file.net c.shared-others.result) max_clique_cells
    c.clique_cells.ensures few in
    ap is_some there

pub returns-clause-cells : goal.returns-clause-cells
returns-clause-cells c =
    let file = c.args.file.now in let placed = c.requires.placed in
    let last : c.args.add.now.link ≤ length file.tree.cliques =
    rw (← length-map file.tree.cliques (members file.net)) placed.last in
    let others = c.shared-others.result in
    let few = others_few file c.args.add.now others c.variables.ensures.network c.requires.tree
    placed.untaken placed.first last placed.running c.shared-others.ensures in
    let there : Some c.unwrap-cells.result ≡ Some (cells_of file.net others) =
    sym c.unwrap-cells.ensures
    ∙ counted_cells c.clique_cells.result (cells_of file.net others) max_clique_cells
    c.clique_cells.ensures few in
    let same : c.unwrap-cells.result ≡ cells_of file.net others = cc in
    own_is file c.args.add.now others c.variables.ensures.network c.requires.tree placed.untaken
    placed.first last placed.running c.shared-others.ensures
    (own_is_covered c.args.add.now placed.covered) c.unwrap-cells.result c.len.result same
    c.len.ensures.value
