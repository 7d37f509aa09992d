use Rattle.std.proofs.Common.{◌≡◌, sym, subst}
use Rattle.mk_disk.specs.Memory.{FileState, MemoryState, opened_name, after_event}
use Rattle.mk_disk.proofs.Events.{seen_kept}
use Rattle.mk_disk.proofs.memory.MemoryDisk.note.Goals as goal

pub invariant_of-self-2 : goal.invariant_of-self-2
invariant_of-self-2 c =
    let keeps = subst (λ (d : MemoryState). (s : FileState)
    → (after_event (opened_name d) c.args.event s).seen ≡ s.seen) (sym c.self.view_is)
    c.requires in (
      c.self.invariant.0,
      seen_kept _ _ _ c.args.event _ c.in_ok-push.ensures.items keeps
          c.self.invariant.1,
    )
