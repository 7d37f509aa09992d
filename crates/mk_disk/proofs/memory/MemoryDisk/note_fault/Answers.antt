use Rattle.std.specs.Prelude.{string_bytes}
use Rattle.mk_disk.specs.Memory.{opened_name}
use Rattle.mk_disk.proofs.Events.{fault_keeps}
use Rattle.mk_disk.proofs.memory.MemoryDisk.note_fault.Goals as goal

pub note-requires : goal.note-requires
note-requires c s = fault_keeps (string_bytes c.in_ok-name.name) (opened_name c.take_name.new.self)
    c.args.at c.args.len s
