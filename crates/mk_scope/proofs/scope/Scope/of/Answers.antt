use Rattle.std.proofs.Common.{◌≡◌, ◌*◌, ◌≤◌, List, ℕ, length, slice_index, arith, ap, subst, sym, ◌∙◌}
use Rattle.std.proofs.Math.Nat.{mul-le-mul}
use Rattle.std.proofs.lemmas.List.{with_items_is}
use Rattle.mk_net.specs.Network.{sizes}
use Rattle.mk_sums.specs.Cells.{cells}
use Rattle.mk_scope.specs.inner.Columns.{HaveColumns}
use Rattle.mk_scope.proofs.Opened.{held, held_within, held_rising, held_few, cells_are, kept_of}
use Rattle.mk_scope.proofs.scope.Scope.of.Goals as goal

pub sizes_of-requires : goal.sizes_of-requires
sizes_of-requires c =
    rw (c.deref.ensures.value, c.in_ok-variables.ensures) (held_within c.args.net.now c.variables.ensures.network c.args.set.now)

pub cells_of-cells-requires : goal.cells_of-cells-requires
cells_of-cells-requires c =
    let net = c.args.net.now in let set = c.args.set.now in
    rw (c.deref-2.ensures.value, c.in_ok-variables.ensures) (record {
      of_network = held_within net c.variables.ensures.network set;
      few_cells = omega (arith, cells_are net c.variables.ensures.network set, c.requires.few_cells);
    })

pub reach-first-requires : goal.reach-first-requires
reach-first-requires c =
    rw (c.deref-3.ensures.value, c.in_ok-variables.ensures) (held_rising c.args.net.now c.variables.ensures.network c.args.set.now)

pub overflow_mul-len : goal.overflow_mul-len
overflow_mul-len c =
    let net = c.args.net.now in let set = c.args.set.now in
    let e : c.cells_of-cells.result ≡ cells (slice_index (sizes net)) (held net c.variables.ensures.network set) =
    c.cells_of-cells.ensures ∙ ap (cells (slice_index (sizes net))) (c.deref-2.ensures.value ∙ c.in_ok-variables.ensures) in
    let few : c.cells_of-cells.result ≤ 4096 = omega (arith, e, cells_are net c.variables.ensures.network set, c.requires.few_cells) in
    let listed = ap (λ (ys : List ℕ). length ys) c.in_ok-variables.ensures in
    let small : c.len.result ≤ 256 = omega (arith, c.len.ensures, c.in_ok-variables.variables.ok.0, listed, held_few net c.variables.ensures.network set) in
    let bound : c.len.result * c.cells_of-cells.result ≤ 256 * 4096 = mul-le-mul small few in
    omega (arith, bound)

pub lay_out-requires-clause-of_network : goal.lay_out-requires-clause-of_network
lay_out-requires-clause-of_network c =
    rw (c.deref-4.ensures.value, c.in_ok-variables.ensures) (held_within c.args.net.now c.variables.ensures.network c.args.set.now)

pub lay_out-requires-clause-rising : goal.lay_out-requires-clause-rising
lay_out-requires-clause-rising c =
    rw (c.deref-4.ensures.value, c.in_ok-variables.ensures) (held_rising c.args.net.now c.variables.ensures.network c.args.set.now)

pub lay_out-requires-clause-few_variables : goal.lay_out-requires-clause-few_variables
lay_out-requires-clause-few_variables c =
    rw (c.deref-4.ensures.value, c.in_ok-variables.ensures) (held_few c.args.net.now c.variables.ensures.network c.args.set.now)

pub lay_out-requires-clause-starts : goal.lay_out-requires-clause-starts
lay_out-requires-clause-starts c =
    rw (c.deref-4.ensures.value ∙ sym c.deref-3.ensures.value) (λ k d l. let within = c.reach-first.ensures k d l in (within.0, omega (arith, within.1, c.in_ok-starts.ensures.len)))

pub lay_out-requires-clause-few_cells : goal.lay_out-requires-clause-few_cells
lay_out-requires-clause-few_cells c =
    let net = c.args.net.now in
    let e : c.cells_of-cells.result ≡ cells (slice_index (sizes net)) (held net c.variables.ensures.network c.args.set.now) =
    c.cells_of-cells.ensures ∙ ap (cells (slice_index (sizes net))) (c.deref-2.ensures.value ∙ c.in_ok-variables.ensures) in
    omega (arith, e, cells_are net c.variables.ensures.network c.args.set.now, c.requires.few_cells)

pub invariant_of-result : goal.invariant_of-result
invariant_of-result c =
    let net = c.args.net.now in let set = c.args.set.now in let size = slice_index (sizes net) in
    let e : c.cells_of-cells.result ≡ cells size (held net c.variables.ensures.network set) =
    c.cells_of-cells.ensures ∙ ap (cells size) (c.deref-2.ensures.value ∙ c.in_ok-variables.ensures) in
    let have = subst (λ (xs : List ℕ). HaveColumns size xs xs c.reach-first.result.0 c.lay_out.new.starts c.lay_out.new.columns) (c.deref-4.ensures.value ∙ c.in_ok-variables.ensures) c.lay_out.ensures in
    let k = kept_of net c.variables.ensures.network set c.requires.few_cells c.cells_of-cells.result c.reach-first.result.0 c.lay_out.new.starts c.lay_out.new.columns e have in
    let starts = with_items_is c.in_ok-starts.starts c.lay_out.new.starts (omega (arith, c.lay_out.auto.starts, c.deref_mut.ensures.len)) in
    let columns = with_items_is c.in_ok-columns.columns c.lay_out.new.columns (omega (arith, c.lay_out.auto.columns, c.deref_mut-2.ensures.len)) in
    rw (c.in_ok-sizes.ensures, c.deref.ensures.value, c.in_ok-variables.ensures, starts, columns) k
