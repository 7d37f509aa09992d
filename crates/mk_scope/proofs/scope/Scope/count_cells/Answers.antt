use Rattle.std.proofs.Common.{◌≡◌, ◌<◌, ◌+◌, length, slice_index, drop, arith, ap, ◌∙◌}
use Rattle.mk_scope.specs.Scopes.{size_in, cells_in}
use Rattle.mk_scope.specs.Cells.{values_at, cell_in}
use Rattle.mk_scope.proofs.Numbered.{number_from, variable_there, counted_kept, number_all}
use Rattle.mk_scope.proofs.scope.Scope.count_cells.Goals as goal

pub column-values-requires : goal.column-values-requires
column-values-requires c =
    let l : c.loop-place.place < length c.self.inside.variables.items = omega (arith, c.self.inside.variables.ok.0, c.loop-place-test.true) in
    variable_there _ c.args.self.now c.args.whole.now c.self.view_is c.requires.lies_in c.loop-place.place c.index.result.now l c.index.ensures

pub loop-place-init : goal.loop-place-init
loop-place-init c = record {
  one_each = c.requires.one_each;
  counted = λ k m.
      let none = c.requires.none k (omega (arith, m, c.requires.one_each)) in
      let all : number_from (size_in c.args.self.now) (values_at c.args.whole.now k) c.args.self.now.variables 0 ≡ cell_in c.args.self.now c.args.whole.now k = omega arith in
      ap (λ n. number_from (size_in c.args.self.now) (values_at c.args.whole.now k) c.args.self.now.variables n) none ∙ all;
}

pub count_values-requires-clause-few : goal.count_values-requires-clause-few
count_values-requires-clause-few c = λ k m.
    let l : c.loop-place.place < length c.self.inside.variables.items = omega (arith, c.self.inside.variables.ok.0, c.loop-place-test.true) in
    let n : k < cells_in c.args.whole.now = omega (arith, m, c.loop-place.invariant.one_each) in
    let r = counted_kept _ c.args.self.now c.args.whole.now c.self.invariant.scope_is c.self.view_is c.requires.lies_in k n c.loop-place.place c.index-in-loop-place.result.now c.index.result.now (slice_index c.column-values.result.now k) (slice_index c.loop-place.numbers k)
    l c.index-in-loop-place.ensures c.index.ensures (c.loop-place.invariant.counted k n) (c.column-values.ensures.values k n) in
    r.small

pub loop-place-preserved : goal.loop-place-preserved
loop-place-preserved c = record {
  one_each = c.count_values.ensures.one_each ∙ c.loop-place.invariant.one_each;
  counted = λ k n.
      let l : c.loop-place.place < length c.self.inside.variables.items = omega (arith, c.self.inside.variables.ok.0, c.loop-place-test.true) in
      let r = counted_kept _ c.args.self.now c.args.whole.now c.self.invariant.scope_is c.self.view_is c.requires.lies_in k n c.loop-place.place c.index-in-loop-place.result.now c.index.result.now (slice_index c.column-values.result.now k) (slice_index c.loop-place.numbers k)
      l c.index-in-loop-place.ensures c.index.ensures (c.loop-place.invariant.counted k n) (c.column-values.ensures.values k n) in
      ap (λ v. number_from (size_in c.args.self.now) (values_at c.args.whole.now k) (drop (c.loop-place.place + 1) c.args.self.now.variables) v) (c.count_values.ensures.counted k (omega (arith, n, c.loop-place.invariant.one_each)))
      ∙ r.next;
}

pub returns : goal.returns
returns c = record {
  one_each = c.loop-place.invariant.one_each;
  cell = λ k n.
      number_all _ c.args.self.now c.args.whole.now k c.loop-place.place (slice_index c.loop-place.numbers k) c.self.view_is (omega (arith, c.self.inside.variables.ok.0, c.loop-place-test.false)) (c.loop-place.invariant.counted k n);
}
