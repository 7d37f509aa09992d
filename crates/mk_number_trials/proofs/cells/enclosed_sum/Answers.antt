use Rattle.std.proofs.Common.{ℕ, zero, suc, ◌<◌, [], ◌∷◌, slice_index, refl, arith}
use Rattle.mk_cell.specs.Cell.{StandsAt, AllStand}
use Rattle.mk_cell.specs.inner.Laws.{all_have_room, stands_with_more}
use Rattle.mk_number_trials.proofs.cells.enclosed_sum.Goals as goal

-- two numbers by their place
abbrev values : ℕ → ℕ → ℕ → ℕ
values a b zero = a
values a b (suc c) = b

each : (q e r d a b c : ℕ) → StandsAt 0 q e a 0 → StandsAt 0 r d b 0 → c < 2 → StandsAt 0 (slice_index (q ∷ r ∷ []) c) (slice_index (e ∷ d ∷ []) c) (values a b c) 0
each q e r d a b zero h l k = h
each q e r d a b (suc zero) h l k = l
each q e r d a b (suc (suc c)) h l k = absurd (omega arith)

both : (q e r d a b : ℕ) → StandsAt 0 q e a 0 → StandsAt 0 r d b 0 → AllStand 0 (q ∷ r ∷ []) (e ∷ d ∷ []) (values a b) 0
both q e r d a b h l = record { each = λ c k. each q e r d a b c h l k }

pub sum-requires : goal.sum-requires
sum-requires c =
    all_have_room 0 _ _ (values c.args.a c.args.b) 0 (omega arith) (omega arith) refl (both _ _ _ _ c.args.a c.args.b c.of_whole-left.ensures c.of_whole-right.ensures)

pub enclosure-requires-clause-stands : goal.enclosure-requires-clause-stands
enclosure-requires-clause-stands c =
    (_, stands_with_more 0 _ _ _ 2 3 (omega arith) (c.sum.ensures 0 (values c.args.a c.args.b) 0 (both _ _ _ _ c.args.a c.args.b c.of_whole-left.ensures c.of_whole-right.ensures)))
