use Rattle.std.proofs.Common.{rules, ◌≡◌, refl, sym, subst, length}
use Rattle.mk_propagate.proofs.Calls.{flow_over}
use Rattle.mk_propagate.proofs.Placed.{starts_kept, starts_over}
use Rattle.mk_propagate.specs.declared.gathered.Gathered.{Gathered}
use Rattle.mk_propagate.specs.declared.gathered.Gathered.TheVariants.{Nothing}
use Rattle.mk_propagate.proofs.Marks.{all_alike, none_summed, one_mark_each}
use Rattle.mk_propagate.specs.Flows.{HasPlaced}
use Rattle.mk_propagate.specs.Placings.{nothing_placed}
use Rattle.mk_propagate.specs.inner.Boards.{BoardOf}
use Rattle.mk_propagate.specs.inner.Kept.{IsFlow}
use Rattle.mk_propagate.proofs.flow.Flow.start.Goals as goal

pub invariant_of-result : goal.invariant_of-result
invariant_of-result g c = c.board.invariant

pub invariant_of-result-2 : goal.invariant_of-result-2
invariant_of-result-2 g c =
    let tree = c.in_ok-clone.field-0.value.tree in
    let long : c.cliques-2.result ≡ length tree.cliques = search rules in
    let long_too : c.cliques-3.result ≡ length tree.cliques = search rules in
    let same : c.in_ok-clone.field-0.value ≡ c.deref-of.result.now = search rules in
    let long_of : c.cliques-2.result ≡ length c.deref-of.result.now.tree.cliques = search rules in
    let all = c.in_ok-vec.ensures.items_if_clones_equal (λ y h. h) in
    subst (λ (b : BoardOf). IsFlow g.R.Semiring.plus_of
    (flow_over c.in_ok-clone.field-0.value c.in_ok-vec.field-0.items 0 0 b)
    b.products c.in_ok-vec-2.field-0.items c.count_cells.result) (sym c.board.view_is)
    (record {
      kept =
          starts_kept _ c.deref-of.result.now c.in_ok-board.board.products c.count_cells.result same
          c.cliques.ensures.linked (none_summed c.deref-of.result.now.tree c.in_ok-vec.field-0.items
          c.cliques-2.result all long_of)
          c.in_ok-board.ensures.tables c.in_ok-board.ensures.cores
          (one_mark_each c.deref-of.result.now.tree c.in_ok-vec.field-0.items c.cliques-2.result all
          long_of) c.in_ok-board.ensures.products c.in_ok-board.ensures.upward
          c.in_ok-board.ensures.downward c.count_cells.ensures;
      gathered_are =
          all_alike Gathered tree Nothing _ c.in_ok-board.board.products c.in_ok-vec-2.field-0.items
          c.cliques-3.result (c.in_ok-vec-2.ensures.items_if_clones_equal (λ y h. h)) long_too
          (λ k t. tt);
    })

pub returns-clause-placed : goal.returns-clause-placed
returns-clause-placed g c = λ network fits.
    let same : c.in_ok-clone.field-0.value ≡ c.deref-of.result.now = search rules in
    let given : c.args.shape.now.value ≡ c.deref-of.result.now = search rules in
    let long_of : c.cliques-2.result ≡ length c.deref-of.result.now.tree.cliques = search rules in
    let all = c.in_ok-vec.ensures.items_if_clones_equal (λ y h. h) in
    subst (λ (b : BoardOf). HasPlaced g.R.Semiring.plus_of
    (flow_over c.in_ok-clone.field-0.value c.in_ok-vec.field-0.items 0 0 b)
    (nothing_placed network)) (sym c.board.view_is)
    (starts_over g.R.Semiring.plus_of _ c.deref-of.result.now c.args.shape.now.value same given
    c.in_ok-board.ensures.tables
    (none_summed c.deref-of.result.now.tree c.in_ok-vec.field-0.items c.cliques-2.result all
    long_of) refl network fits)
