use Rattle.std.proofs.Common.{ℕ, zero, suc, ◌<◌, [], ◌∷◌, slice_index, refl, arith}
use Rattle.mk_cell.specs.Cell.{StandsAt, AllStand}
use Rattle.mk_cell.specs.inner.Laws.{all_have_room, stands_with_more}
use Rattle.mk_number_trials.proofs.semirings.value_over.Goals as goal

-- the first number at 0, and the second at each other place
abbrev numbers : ℕ → ℕ → ℕ → ℕ
numbers a b zero = a
numbers a b (suc c) = b

module _ (m x n y a b : ℕ) (left : StandsAt 40 m x a 0) (right : StandsAt 40 n y b 0) where
  at_place : (c : ℕ) → c < 2 → StandsAt 40 (slice_index (m ∷ n ∷ []) c) (slice_index (x ∷ y ∷ []) c) (numbers a b c) 0
  at_place zero l = left
  at_place (suc zero) l = right
  at_place (suc (suc c)) l = absurd (omega arith)

  two_cells : AllStand 40 (m ∷ n ∷ []) (x ∷ y ∷ []) (numbers a b) 0
  two_cells = record { each = at_place }

pub over-requires : goal.over-requires
over-requires g c =
    all_have_room 40 _ _ (numbers c.args.a c.args.b) 0 (omega arith) (omega arith) refl (two_cells _ _ _ _ c.args.a c.args.b c.of_whole-left.ensures c.of_whole-right.ensures)

pub of_cell-requires-clause-stands : goal.of_cell-requires-clause-stands
of_cell-requires-clause-stands g c =
    (_, stands_with_more 40 _ _ _ 2 3 (omega arith) (c.over.ensures 40 (numbers c.args.a c.args.b) 0 (two_cells _ _ _ _ c.args.a c.args.b c.of_whole-left.ensures c.of_whole-right.ensures)))
