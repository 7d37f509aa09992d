use Rattle.std.proofs.Common.{◌≡◌, ◌∙◌, sym, ap, rules}
use Rattle.mk_disk.specs.Memory.{FileState, opened_name}
use Rattle.mk_disk.specs.declared.event.Event.TheVariants.{Write}
use Rattle.mk_disk.proofs.Events.{file_push, seen_written}
use Rattle.mk_disk.proofs.memory.MemoryDisk.note_write.Goals as goal

pub invariant_of-self-2 : goal.invariant_of-self-2
invariant_of-self-2 c =
    let named = c.in_ok-name.ensures ∙ ap opened_name (sym c.self.view_is) in
    let copied : c.in_ok-bytes.bytes.items ≡ c.args.bytes.now = search rules in
    let after = file_push _ _ _ (Write c.in_ok-name.name c.args.at c.in_ok-bytes.bytes)
    c.in_ok-push.ensures.items in
    let shown = seen_written _ _ _ _ _ _ _ _ named copied
    (c.deref.ensures.value ∙ c.self.invariant.1) c.in_ok-seen.ensures in
    (c.self.invariant.0, shown ∙ sym (ap (λ (s : FileState). s.seen) after))
