-- There is room for one change more.
use Rattle.std.specs.Prelude.{◌≡◌, ℕ, ◌<◌, List, length}
use Rattle.std.proofs.Common.{arith}
use Rattle.std.proofs.lemmas.List.{length-map}
use Rattle.mk_exact.specs.History.{Entry}
use Rattle.mk_history.specs.declared.change.Change.{Change}
use Rattle.mk_history.specs.declared.history.Limits.{Limits}
use Rattle.mk_history.specs.inner.Kept.{Lists, entry_kept}
use Rattle.mk_history.specs.inner.Counted.{entries_kept, AreKept, HasRoom}
use Rattle.mk_history.proofs.Counts.{HasPlace, few_changes}

module _ (lists : Lists) (changes : List Change) (limits : Limits) (n : ℕ) (kept : AreKept lists changes limits)
    (size : n ≡ length changes) where
  pub room_for_one : (e : Entry) (most names pairs factors questions : ℕ) → HasPlace (entries_kept lists changes) limits e
      → HasRoom limits most names pairs factors questions → n < most
  room_for_one e most names pairs factors questions place room =
      omega (
        arith,
        few_changes (entries_kept lists changes) limits e kept.within place,
        size,
        length-map changes (entry_kept lists),
        room.for_changes,
      )
