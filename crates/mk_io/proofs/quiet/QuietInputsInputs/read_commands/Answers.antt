use Rattle.mk_io.proofs.InMemory.{reads_piece}
use Rattle.mk_io.proofs.quiet.QuietInputsInputs.read_commands.Goals as goal

pub returns-clause-reads : goal.returns-clause-reads
returns-clause-reads c =
    rw (← c.self.view_is) (reads_piece c.self.inside.commands.items _ _ _ _ _ _ c.deref.ensures.value c.self.invariant.0 c.requires c.copy_piece-count.auto.buf c.copy_piece-count.ensures.count c.copy_piece-count.ensures.bytes)
