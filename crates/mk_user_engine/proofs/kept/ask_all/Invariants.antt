use Rattle.std.proofs.Common.{◌≡◌, ◌<◌, ℕ, true, false, length, slice_index_or}
use Rattle.mk_user_engine.proofs.kept.ask_all.Given as goal

abbrev pub invariant-loop-cell : goal.invariant-loop-cell
invariant-loop-cell l = (length l.asked ≡ length l.fn.asked) × ((c : ℕ) → c < l.cell
    → slice_index_or l.asked c false ≡ true)
