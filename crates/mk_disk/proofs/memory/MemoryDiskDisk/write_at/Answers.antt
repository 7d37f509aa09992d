use Rattle.std.proofs.Common.{ap}
use Rattle.mk_disk.specs.Memory.{MemoryState}
use Rattle.mk_disk.proofs.Telling.{called_failing}
use Rattle.mk_disk.proofs.memory.MemoryDiskDisk.write_at.Goals as goal

pub returns-then-begin-clause-called : goal.returns-then-begin-clause-called
returns-then-begin-clause-called c =
    let fails = c.begin.ensures.fails.0 c.if-begin.true in
    called_failing _ _ _ c.self.inside.calls c.begin.new.self c.fail_write.new.self.calls _ (ap (λ (d : MemoryState). d.calls) c.self.view_is) c.begin.ensures.counts fails
    c.fail_write.ensures.later c.fail_write.ensures.failed
