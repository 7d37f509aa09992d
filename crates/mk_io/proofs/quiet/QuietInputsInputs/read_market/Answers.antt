use Rattle.std.proofs.Common.{◌∙◌}
use Rattle.mk_io.proofs.InMemory.{reads_piece, bytes_at_read}
use Rattle.mk_io.proofs.quiet.QuietInputsInputs.read_market.Goals as goal

pub returns-in-Some-clause-reads : goal.returns-in-Some-clause-reads
returns-in-Some-clause-reads c =
    let within = rw c.in-Some.is at c.self.invariant.2 in
    let bytes = c.as_slice-bytes.ensures.value ∙ bytes_at_read _ _ _ _ c.in-Some.is within.0 c.index.ensures in
    rw (← c.self.view_is) (reads_piece _ _ _ _ _ _ _ bytes c.self.invariant.0 c.requires c.copy_piece-count.auto.buf c.copy_piece-count.ensures.count c.copy_piece-count.ensures.bytes)
