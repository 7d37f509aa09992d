use Rattle.std.proofs.Common.{◌≡◌, ◌≢◌, ℕ, ◌+◌, ◌-◌, ◌<◌, ◌≤◌, Bool, List, slice_index, sym, ap, subst, ◌∙◌, arith}
use Rattle.mk_tree.specs.Given.{GivenTree}
use Rattle.mk_plan.specs.Shapes.{next_on_way}
use Rattle.mk_tree_engine.specs.inner.Marks.{AreMarkedUp, AreMarkedDown}
use Rattle.mk_tree_engine.proofs.Marking.{earlier_up, earlier_down}
use Rattle.mk_tree_engine.proofs.marks.mark_earlier.Goals as goal
use Rattle.mk_tree_engine.proofs.marks.mark_earlier.Goals.{then-ways-place, else-ways-place}

-- what is equal to marks that are set has them set
both_at : {tree : GivenTree} {clique passed : ℕ} {up down ups downs now_up now_down : List Bool}
    → now_up ≡ ups → now_down ≡ downs
    → AreMarkedUp tree clique passed up ups × AreMarkedDown tree clique passed down downs
    → AreMarkedUp tree clique passed up now_up × AreMarkedDown tree clique passed down now_down
both_at {tree} {clique} {passed} {up} {down} e f marks = (
  subst (λ v. AreMarkedUp tree clique passed up v) (sym e) marks.0,
  subst
      (λ v. AreMarkedDown tree clique passed down v) (sym f) marks.1,
)

pub loop-k-preserved : goal.loop-k-preserved
loop-k-preserved c =
    let tree = c.args.shape.now.tree in let clique = c.args.clique in let k = c.loop-k.k in let links = c.cliques.ensures.linked in
    let up = c.args.up.now in let down = c.args.down.now in let ups = c.loop-k.up in let downs = c.loop-k.down in
    let next = slice_index c.ways_to-ways.result.now (k - 2 + 1) in
    let from : 2 ≤ k = c.loop-k.auto.k in let earlier : k < clique = c.loop-k-test.true in
    let place : k - 1 ≡ k - 2 + 1 = omega (arith, from) in
    let is : k ≢ clique → next ≡ next_on_way tree k clique = λ d.
    ap (slice_index c.ways_to-ways.result.now) (sym place) ∙ c.ways_to-ways.ensures.next_is k (omega (arith, from)) (omega (arith, earlier, c.requires.clique.last)) d in
    let t : AreMarkedUp tree clique (k + 1 - 2) up c.if-ways-place.up
    × AreMarkedDown tree clique (k + 1 - 2) down c.if-ways-place.down =
    elim c.if-ways-place.branch [
      | then-ways-place w ↦
          both_at w.up-is w.down-is
          (earlier_up tree links clique c.requires.clique k from earlier next is up down ups downs
          c.requires.marks c.loop-k.invariant.up c.loop-k.invariant.down w.if-ways-place.true)
      | else-ways-place w ↦
          both_at w.up-is w.down-is
          (earlier_down tree links clique c.requires.clique k from earlier next is up down ups downs
          c.requires.marks c.loop-k.invariant.up c.loop-k.invariant.down w.if-ways-place.false)
    ] in
    record { within = omega (arith, from, earlier); up = t.0; down = t.1 }

pub returns-clause-up : goal.returns-clause-up
returns-clause-up c =
    let e : c.loop-k.k - 2 ≡ c.args.clique - 2 = omega (arith, c.loop-k-test.false, c.loop-k.auto.k, c.loop-k.invariant.within) in
    subst (λ m. AreMarkedUp c.args.shape.now.tree c.args.clique m c.args.up.now c.loop-k.up) e c.loop-k.invariant.up

pub returns-clause-down : goal.returns-clause-down
returns-clause-down c =
    let e : c.loop-k.k - 2 ≡ c.args.clique - 2 = omega (arith, c.loop-k-test.false, c.loop-k.auto.k, c.loop-k.invariant.within) in
    subst (λ m. AreMarkedDown c.args.shape.now.tree c.args.clique m c.args.down.now c.loop-k.down) e c.loop-k.invariant.down
