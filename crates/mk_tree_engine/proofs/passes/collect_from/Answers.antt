use Rattle.std.proofs.Common.{◌≡◌, ℕ, ◌<◌, sym, ap, subst, ◌∙◌}
use Rattle.mk_plan.specs.Shapes.{ShapeOf, IsClique, next_on_way}
use Rattle.mk_tree_engine.specs.inner.Marks.{marked}
use Rattle.mk_tree_engine.specs.inner.Passes.{AreCollected, is_off_way, number_on_way}
use Rattle.mk_tree_engine.proofs.Walking.{next_is_clique, way_shorter, walk_begins, walk_sends, walk_step, walk_ends}
use Rattle.mk_tree_engine.proofs.passes.collect_from.Goals as goal

-- the next clique, in the words of the tree that the walk began with
same_next : (next k clique : ℕ) (shape made mid first : ShapeOf) → next ≡ next_on_way shape.tree k clique → shape ≡ made → made ≡ mid → mid ≡ first → next_on_way first.tree k clique ≡ next
same_next next k clique shape made mid first n e f h = sym (n ∙ ap (λ (s : ShapeOf). next_on_way s.tree k clique) (e ∙ f ∙ h))

pub loop-k-init : goal.loop-k-init
loop-k-init g c =
    let old = marked c.args.flow.now c.args.marks.now.up.items c.args.marks.now.down.items in
    record { clique_is = c.requires.current.clique_is; made = walk_begins g.R.Semiring.plus_of c.args.clique old c.requires.could c.args.from c.requires.current }

pub make_towards-requires-clause-send : goal.make_towards-requires-clause-send
make_towards-requires-clause-send g c =
    let old = marked c.args.flow.now c.args.marks.now.up.items c.args.marks.now.down.items in
    let mid = marked c.loop-k.flow c.loop-k.marks.up.items c.loop-k.marks.down.items in
    walk_sends g.R.Semiring.plus_of c.args.clique old c.requires.could mid c.loop-k.k c.loop-k.invariant.clique_is c.loop-k.invariant.made c.loop-k-test.true

pub loop-k-smaller : goal.loop-k-smaller
loop-k-smaller g c =
    let tree = c.args.flow.now.shape.tree in let clique = c.args.clique in let k = c.loop-k.k in
    let e = same_next c.next-k.result k clique c.shape.result.now c.make_towards.new.flow.shape c.loop-k.flow.shape c.args.flow.now.shape c.next-k.ensures.next c.shape.ensures
    c.make_towards.ensures.kept.same_shape c.loop-k.invariant.made.kept.same_shape in
    subst (λ (n : ℕ). number_on_way tree n clique < number_on_way tree k clique) e
    (way_shorter tree c.requires.could.marks_of.linked clique c.requires.could.clique_is k c.loop-k.invariant.clique_is c.loop-k-test.true)

pub loop-k-preserved : goal.loop-k-preserved
loop-k-preserved g c =
    let plus = g.R.Semiring.plus_of in let tree = c.args.flow.now.shape.tree in let clique = c.args.clique in let k = c.loop-k.k in
    let old = marked c.args.flow.now c.args.marks.now.up.items c.args.marks.now.down.items in
    let mid = marked c.loop-k.flow c.loop-k.marks.up.items c.loop-k.marks.down.items in
    let new = marked c.make_towards.new.flow c.make_towards.new.marks.up.items c.make_towards.new.marks.down.items in
    let e = same_next c.next-k.result k clique c.shape.result.now c.make_towards.new.flow.shape c.loop-k.flow.shape c.args.flow.now.shape c.next-k.ensures.next c.shape.ensures
    c.make_towards.ensures.kept.same_shape c.loop-k.invariant.made.kept.same_shape in
    record {
      clique_is = subst (IsClique tree) e (next_is_clique tree c.requires.could.marks_of.linked clique c.requires.could.clique_is k c.loop-k.invariant.clique_is c.loop-k-test.true);
      made = subst (λ (n : ℕ). AreCollected plus clique (is_off_way tree n clique) old new) e
          (walk_step plus clique old c.requires.could mid k c.loop-k.invariant.clique_is c.loop-k.invariant.made c.loop-k-test.true new c.make_towards.ensures);
    }

pub returns : goal.returns
returns g c =
    let old = marked c.args.flow.now c.args.marks.now.up.items c.args.marks.now.down.items in
    let mid = marked c.loop-k.flow c.loop-k.marks.up.items c.loop-k.marks.down.items in
    walk_ends g.R.Semiring.plus_of c.args.clique old c.requires.could mid c.loop-k.k c.loop-k.invariant.clique_is c.loop-k.invariant.made c.loop-k-test.false
