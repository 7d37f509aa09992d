use Rattle.std.proofs.Common.{◌≡◌, ◌<◌, ◌≤◌, ◌+◌, ◌-◌, ◌*◌, ◌/◌, List, ℕ, set, slice_index, length, get_or, take, arith, subst, ◌∙◌, take_all}
use Rattle.std.proofs.Math.Nat.{mul-le-mul_right}
use Rattle.std.proofs.lemmas.List.{length-set, length-take-le}
use Rattle.mk_net.specs.Network.{sizes}
use Rattle.mk_scope.specs.inner.Columns.{HaveColumns}
use Rattle.mk_scope.proofs.Members.{rising_apart}
use Rattle.mk_scope.proofs.Writing.{bounds_of, next_stride, more_columns, IsWritten, column_next}
use Rattle.mk_scope.proofs.Values.{listed_at}
use Rattle.mk_scope.proofs.scope.lay_out.Goals as goal

pub nonzero_div-stride : goal.nonzero_div-stride
nonzero_div-stride c =
    let net = c.args.net.now in let xs = c.args.variables.now in
    let b = bounds_of net c.variables.ensures.network xs c.requires.of_network (get_or xs c.loop-variable.variable-index 0) (listed_at xs c.loop-variable.variable-index 0 c.loop-variable-test.true) in
    omega (arith, b.0, c.values.ensures)

pub write_column-requires : goal.write_column-requires
write_column-requires c =
    let net = c.args.net.now in let xs = c.args.variables.now in let i = c.loop-variable.variable-index in
    let n = next_stride (slice_index (sizes net)) xs (bounds_of net c.variables.ensures.network xs c.requires.of_network) i _ _ c.loop-variable-test.true c.loop-variable.invariant.span c.values.ensures in
    let next : (i + 1) * c.args.count ≡ i * c.args.count + c.args.count = omega arith in
    let room : (i + 1) * c.args.count ≤ length xs * c.args.count = mul-le-mul_right c.args.count (omega (arith, c.loop-variable-test.true)) in
    record {
      there = omega (arith, next, room, c.loop-variable.invariant.start, c.loop-variable.invariant.columns, c.requires.columns);
      stride = n.stride_pos;
      few = n.few;
      some = n.some;
      within = omega (arith, n.within, c.requires.cells);
      exact = n.exact;
    }

pub loop-variable-preserved : goal.loop-variable-preserved
loop-variable-preserved c =
    let net = c.args.net.now in let xs = c.args.variables.now in let i = c.loop-variable.variable-index in let size = slice_index (sizes net) in
    let bounds = bounds_of net c.variables.ensures.network xs c.requires.of_network in
    let n = next_stride size xs bounds i _ _ c.loop-variable-test.true c.loop-variable.invariant.span c.values.ensures in
    let x = get_or xs i 0 in let start = c.loop-variable.start in let count = c.args.count in
    let reached = c.requires.starts i 0 c.loop-variable-test.true in
    let there : x - c.args.first < length c.loop-variable.starts = omega (arith, reached.0, reached.1, c.loop-variable.invariant.starts) in
    let next : (i + 1) * count ≡ i * count + count = omega arith in
    let room : (i + 1) * count ≤ length xs * count = mul-le-mul_right count (omega (arith, c.loop-variable-test.true)) in
    let within : start + count ≤ length c.loop-variable.columns = omega (arith, next, room, c.loop-variable.invariant.start, c.loop-variable.invariant.columns, c.requires.columns) in
    let before = take start c.loop-variable.columns in let after = take (start + count) c.write_column.new.columns in
    let written = column_next start count c.loop-variable.span (c.loop-variable.span / c.values.result) c.loop-variable.columns c.write_column.new.columns within
    c.write_column.ensures.long c.write_column.ensures.before c.write_column.ensures.written in
    let front : length before ≡ start = length-take-le start c.loop-variable.columns (omega (arith, within)) in
    let more = more_columns size xs bounds (rising_apart xs c.requires.rising) i _ _ c.args.first c.loop-variable.starts before after c.loop-variable-test.true c.loop-variable.invariant.span n.stride_is
    reached.0 there (subst (λ k. IsWritten k c.loop-variable.span (c.loop-variable.span / c.values.result) before after) c.requires.cells written) c.loop-variable.invariant.have in
    record {
      span = n.stride_is;
      starts = rw length-set c.loop-variable.invariant.starts;
      columns = c.write_column.ensures.long ∙ c.loop-variable.invariant.columns;
      start = omega (arith, next, c.loop-variable.invariant.start);
      have = subst (λ k. HaveColumns size xs (take (i + 1) xs) c.args.first (set c.loop-variable.starts (x - c.args.first) k) after) front more;
    }

pub returns : goal.returns
returns c =
    let xs = c.args.variables.now in let i = c.loop-variable.variable-index in let size = slice_index (sizes c.args.net.now) in
    let all : length xs * c.args.count ≤ i * c.args.count = mul-le-mul_right c.args.count c.loop-variable-test.false in
    let whole = take_all c.loop-variable.start c.loop-variable.columns (omega (arith, all, c.loop-variable.invariant.start, c.loop-variable.invariant.columns, c.requires.columns)) in
    subst (λ (ys : List ℕ). HaveColumns size xs ys c.args.first c.loop-variable.starts c.loop-variable.columns) (take_all i xs c.loop-variable-test.false)
    (subst (λ (ys : List ℕ). HaveColumns size xs (take i xs) c.args.first c.loop-variable.starts ys) whole c.loop-variable.invariant.have)
