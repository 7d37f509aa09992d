use Rattle.std.proofs.Common.{◌-◌, subst, sym}
use Rattle.mk_tree_engine.specs.inner.Marks.{AreMarkedUp}
use Rattle.mk_tree_engine.proofs.Marking.{turn_own, turn_root, own_down, all_up, all_down}
use Rattle.mk_tree_engine.proofs.marks.mark_each.Goals as goal
use Rattle.mk_tree_engine.proofs.marks.mark_each.Goals.{then-clique-gt1, else-clique-gt1}

pub returns-clause-up : goal.returns-clause-up
returns-clause-up c =
    let tree = c.args.shape.now.tree in let clique = c.args.clique in let links = c.cliques.ensures.linked in
    let up = c.args.up.now in let down = c.args.down.now in let ups = c.mark_earlier.new.up in let downs = c.mark_earlier.new.down in
    all_up tree links clique c.requires.clique up down c.requires.marks c.if-clique-gt1.up
    (elim c.if-clique-gt1.branch [
      | then-clique-gt1 w ↦
          subst (AreMarkedUp tree clique (clique - 1) up) (sym w.up-is)
          (turn_own tree links clique c.requires.clique up down ups downs c.requires.marks c.mark_earlier.ensures.up c.mark_earlier.ensures.down w.if-clique-gt1.true).0
      | else-clique-gt1 w ↦
          subst (AreMarkedUp tree clique (clique - 1) up) (sym w.up-is)
          (turn_root tree links clique c.requires.clique up down ups downs c.requires.marks c.mark_earlier.ensures.up c.mark_earlier.ensures.down w.if-clique-gt1.false).0
    ])

pub returns-clause-down : goal.returns-clause-down
returns-clause-down c =
    let tree = c.args.shape.now.tree in let links = c.cliques.ensures.linked in
    let up = c.args.up.now in let down = c.args.down.now in
    let marked = own_down tree links c.args.clique c.requires.clique up down c.mark_earlier.new.up c.mark_earlier.new.down c.requires.marks c.mark_earlier.ensures.up c.mark_earlier.ensures.down in
    all_down tree links c.args.clique c.requires.clique up down c.requires.marks c.mark_earlier.new.down c.mark_from.new.marks marked c.mark_from.ensures
