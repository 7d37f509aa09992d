use Rattle.std.proofs.Common.{◌≡◌, ◌<◌, ℕ, List, Bool, length, slice_index, subst, sym, ap, arith}
use Rattle.mk_net.specs.Trades.{trade_ratio}
use Rattle.mk_states.specs.Ratios.{units_of}
use Rattle.mk_sums.specs.There.{holds_there}
use Rattle.mk_cell.specs.Cell.{StandsAt}
use Rattle.mk_scope.specs.Scopes.{cells_in}
use Rattle.mk_scope.specs.Cells.{values_at}
use Rattle.mk_passes.specs.Parts.{IsTimes}
use Rattle.mk_scope.specs.Runs.{IsAmong}
use Rattle.mk_passes.proofs.Changes.{left_cell, whole_cell, written_among}
use Rattle.mk_scope.proofs.Chosen.{chosen_below, chosen_apart}
use Rattle.mk_scope.proofs.Kept.{place_of_units, event_last}
use Rattle.mk_passes.proofs.times.times_units.Goals as goal

-- each of the chosen cells is one of the scope's
cell_below : (chosen : List ℕ) (passes : List ℕ) (n i : ℕ) → chosen ≡ passes → ((k : ℕ) → k < length passes → slice_index passes k < n) → i < length chosen → slice_index chosen i < n
cell_below chosen passes n i e h l = subst (λ (ys : List ℕ). i < length ys → slice_index ys i < n) (sym e) (h i) l

pub bounds-values-cell : goal.bounds-values-cell
bounds-values-cell c =
    let scope = c.args.scope.now in
    let l = cell_below c.args.chosen.now _ (cells_in scope) c.loop-place.place c.requires.chosen (chosen_below (λ k. holds_there c.args.ratio.now.condition (values_at scope k)) (cells_in scope)) (omega (arith, c.loop-place-test.true)) in
    omega (arith, l, c.column-values.ensures.cells)

pub column-values-requires : goal.column-values-requires
column-values-requires c =
    event_last c.args.scope.now c.args.ratio.now.condition (record { variable = c.args.ratio.now.variable; value = 0 }) c.requires.event

pub bounds-units-value : goal.bounds-units-value
bounds-units-value c =
    let scope = c.args.scope.now in
    let l = cell_below c.args.chosen.now _ (cells_in scope) c.loop-place.place c.requires.chosen (chosen_below (λ k. holds_there c.args.ratio.now.condition (values_at scope k)) (cells_in scope)) (omega (arith, c.loop-place-test.true)) in
    let cell = slice_index c.args.chosen.now c.loop-place.place in
    let below : slice_index c.column-values.result.now cell < length c.args.ratio.now.factors.items =
    subst (λ v. v < length c.args.ratio.now.factors.items) (sym (c.column-values.ensures.values cell l)) (place_of_units scope (trade_ratio c.args.ratio.now) c.requires.event c.requires.one_each cell l) in
    omega (arith, below, c.unit_cells-units.ensures.few)

pub bounds-units-value-in-loop-place : goal.bounds-units-value-in-loop-place
bounds-units-value-in-loop-place c =
    let scope = c.args.scope.now in
    let l = cell_below c.args.chosen.now _ (cells_in scope) c.loop-place.place c.requires.chosen (chosen_below (λ k. holds_there c.args.ratio.now.condition (values_at scope k)) (cells_in scope)) (omega (arith, c.loop-place-test.true)) in
    let cell = slice_index c.args.chosen.now c.loop-place.place in
    let below : slice_index c.column-values.result.now cell < length c.args.ratio.now.factors.items =
    subst (λ v. v < length c.args.ratio.now.factors.items) (sym (c.column-values.ensures.values cell l)) (place_of_units scope (trade_ratio c.args.ratio.now) c.requires.event c.requires.one_each cell l) in
    omega (arith, below, c.unit_cells-units.ensures.few)

pub times_at-requires-clause-within : goal.times_at-requires-clause-within
times_at-requires-clause-within c =
    let scope = c.args.scope.now in
    let l = cell_below c.args.chosen.now _ (cells_in scope) c.loop-place.place c.requires.chosen (chosen_below (λ k. holds_there c.args.ratio.now.condition (values_at scope k)) (cells_in scope)) (omega (arith, c.loop-place-test.true)) in
    omega (arith, l, c.requires.full.as_many_digits, c.loop-place.invariant.as_many_digits)

pub times_at-requires-clause-within_exponents : goal.times_at-requires-clause-within_exponents
times_at-requires-clause-within_exponents c =
    let scope = c.args.scope.now in
    let l = cell_below c.args.chosen.now _ (cells_in scope) c.loop-place.place c.requires.chosen (chosen_below (λ k. holds_there c.args.ratio.now.condition (values_at scope k)) (cells_in scope)) (omega (arith, c.loop-place-test.true)) in
    omega (arith, l, c.requires.full.as_many_exponents, c.loop-place.invariant.as_many_exponents)

-- a chosen cell was not reached before
new_cell : (chosen passes : List ℕ) (i : ℕ) → chosen ≡ passes → ((k j : ℕ) → k < j → j < length passes → slice_index passes k ≡ slice_index passes j → ⊥) → i < length chosen
    → (k : ℕ) → k < i → slice_index chosen k ≡ slice_index chosen i → ⊥
new_cell chosen passes i e h l = subst (λ (ys : List ℕ). i < length ys → (k : ℕ) → k < i → slice_index ys k ≡ slice_index ys i → ⊥) (sym e) (λ m k p. h k i p m) l

pub times_at-requires-clause-cell : goal.times_at-requires-clause-cell
times_at-requires-clause-cell c =
    let scope = c.args.scope.now in let i = c.loop-place.place in
    let passes : ℕ → Bool = λ k. holds_there c.args.ratio.now.condition (values_at scope k) in
    let m : i < length c.args.chosen.now = omega (arith, c.loop-place-test.true) in
    let l = cell_below c.args.chosen.now _ (cells_in scope) i c.requires.chosen (chosen_below passes (cells_in scope)) m in
    let new = new_cell c.args.chosen.now _ i c.requires.chosen (chosen_apart passes (cells_in scope)) m in
    left_cell _ (IsAmong c.args.chosen.now i) c.args.digits.now c.args.exponents.now c.loop-place.digits c.loop-place.exponents c.requires.room.0 1 (slice_index c.args.chosen.now i) c.requires.room.1 c.loop-place.invariant
    (λ p. new p.0 p.1 p.2) (omega (arith, l, c.requires.full.as_many_digits))

pub times_at-requires-clause-other : goal.times_at-requires-clause-other
times_at-requires-clause-other c =
    let scope = c.args.scope.now in
    let l = cell_below c.args.chosen.now _ (cells_in scope) c.loop-place.place c.requires.chosen (chosen_below (λ k. holds_there c.args.ratio.now.condition (values_at scope k)) (cells_in scope)) (omega (arith, c.loop-place-test.true)) in
    let cell = slice_index c.args.chosen.now c.loop-place.place in
    let below : slice_index c.column-values.result.now cell < length c.args.ratio.now.factors.items =
    subst (λ v. v < length c.args.ratio.now.factors.items) (sym (c.column-values.ensures.values cell l)) (place_of_units scope (trade_ratio c.args.ratio.now) c.requires.event c.requires.one_each cell l) in
    whole_cell 40 _ _ _ (omega arith) (c.unit_cells-units.ensures.stand (slice_index c.column-values.result.now cell) below)

pub loop-place-preserved : goal.loop-place-preserved
loop-place-preserved c =
    let scope = c.args.scope.now in let i = c.loop-place.place in
    let passes : ℕ → Bool = λ k. holds_there c.args.ratio.now.condition (values_at scope k) in
    let m : i < length c.args.chosen.now = omega (arith, c.loop-place-test.true) in
    let cell = slice_index c.args.chosen.now i in
    let l = cell_below c.args.chosen.now _ (cells_in scope) i c.requires.chosen (chosen_below passes (cells_in scope)) m in
    let units : ℕ → ℕ = λ k. units_of (trade_ratio c.args.ratio.now) (values_at scope k c.args.ratio.now.variable) in
    let value = slice_index c.column-values.result.now cell in
    let below : value < length c.args.ratio.now.factors.items =
    subst (λ v. v < length c.args.ratio.now.factors.items) (sym (c.column-values.ensures.values cell l)) (place_of_units scope (trade_ratio c.args.ratio.now) c.requires.event c.requires.one_each cell l) in
    let made = c.unit_cells-units.ensures.stand value below in
    written_among (λ k d e x y. IsTimes d e 40 (units k) 0 x y) c.args.chosen.now c.args.digits.now c.args.exponents.now c.loop-place.digits c.loop-place.exponents c.times_at.new.digits c.times_at.new.exponents
    i cell (omega arith) (new_cell c.args.chosen.now _ i c.requires.chosen (chosen_apart passes (cells_in scope)) m)
    (omega (arith, l, c.requires.full.as_many_digits)) (omega (arith, l, c.requires.full.as_many_exponents)) c.loop-place.invariant c.times_at.ensures.digits c.times_at.ensures.exponents
    (c.times_at.ensures.times 40 (units cell) 0
    (subst (λ w. StandsAt 40 (slice_index c.unit_cells-units.result.digits value) (slice_index c.unit_cells-units.result.exponents value) w 0) (ap (λ v. slice_index c.args.ratio.now.factors.items v) (c.column-values.ensures.values cell l)) made))
