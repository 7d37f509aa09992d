use Rattle.std.proofs.Common.{◌≡◌, ◌+◌, ◌*◌, List, ℕ, map, length, slice_index, ap, sym, ◌∙◌, true, false}
use Rattle.mk_scope.specs.Scopes.{size_in}
use Rattle.mk_scope.specs.inner.Strides.{cells_with, values_moved}
use Rattle.mk_scope.specs.Runs.{runs_of}
use Rattle.mk_scope.proofs.Doubled.{cells_with_few}
use Rattle.mk_scope.proofs.Listed.{values_of_moved}
use Rattle.mk_scope.proofs.Onto.{bases_count, cells_apart, onto_cells}
use Rattle.mk_scope.proofs.Ready.{tail_some}
use Rattle.mk_scope.proofs.Runs.{runs_single}
use Rattle.mk_scope.proofs.scope.Scope.cells_onto.Goals as goal

pub cells_moved-requires : goal.cells_moved-requires
cells_moved-requires c = c.no_tail.ensures.tail c.args.self.now (values_moved c.args.self.now c.args.part.now true)

pub returns-clause-bases : goal.returns-clause-bases
returns-clause-bases c =
    let items = c.cells_moved.new.cells.items in
    let bases : items ≡ cells_with (size_in c.args.self.now) (values_moved c.args.self.now c.args.part.now true) c.args.self.now.variables =
    sym (runs_single items) ∙ ap (λ r. runs_of r items) (sym c.no_tail.ensures.single) ∙ c.cells_moved.ensures in
    ap (λ (ys : List ℕ). length ys) bases ∙ bases_count c.args.part.now c.args.self.now c.cells.ensures.scope c.cells-2.ensures.scope c.requires

pub returns-clause-onto : goal.returns-clause-onto
returns-clause-onto c = λ d l.
    let items = c.cells_moved.new.cells.items in let run = c.tail_outside-tail.result.cells in
    let bases : items ≡ cells_with (size_in c.args.self.now) (values_moved c.args.self.now c.args.part.now true) c.args.self.now.variables =
    sym (runs_single items) ∙ ap (λ r. runs_of r items) (sym c.no_tail.ensures.single) ∙ c.cells_moved.ensures in
    ap (λ (ys : List ℕ). map (λ k. slice_index ys d + k) (runs_of run c.cells_moved-2.new.cells.items)) bases
    ∙ ap (map (λ k. slice_index (cells_with (size_in c.args.self.now) (values_moved c.args.self.now c.args.part.now true) c.args.self.now.variables) d + k)) c.cells_moved-2.ensures
    ∙ onto_cells c.args.part.now c.args.self.now c.cells.ensures.scope c.cells-2.ensures.scope c.requires d l

pub returns-clause-few : goal.returns-clause-few
returns-clause-few c =
    let whole = c.args.self.now in
    rw c.cells_moved-2.ensures (cells_with_few (size_in whole) (values_moved whole c.args.part.now false) (values_of_moved whole c.args.part.now c.cells-2.ensures.scope false) whole.variables)

pub returns-clause-some : goal.returns-clause-some
returns-clause-some c =
    tail_some c.args.self.now c.cells-2.ensures.scope _ _ _ c.tail_outside-tail.ensures

pub returns-clause-beside : goal.returns-clause-beside
returns-clause-beside c =
    let items = c.cells_moved.new.cells.items in let run = c.tail_outside-tail.result.cells in let whole = c.args.self.now in let part = c.args.part.now in
    let bases : items ≡ cells_with (size_in whole) (values_moved whole part true) whole.variables =
    sym (runs_single items) ∙ ap (λ r. runs_of r items) (sym c.no_tail.ensures.single) ∙ c.cells_moved.ensures in
    ap (λ (ys : List ℕ). length ys * length (runs_of run c.cells_moved-2.new.cells.items)) bases
    ∙ ap (λ (ys : List ℕ). length (cells_with (size_in whole) (values_moved whole part true) whole.variables) * length ys) c.cells_moved-2.ensures
    ∙ cells_apart part whole c.cells.ensures.scope c.cells-2.ensures.scope c.requires
