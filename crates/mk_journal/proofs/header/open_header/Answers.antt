use Rattle.std.proofs.Common.{◌∷◌}
use Rattle.mk_journal.specs.Store.{begun}
use Rattle.mk_journal.specs.inner.MomentLaws.{weaken}
use Rattle.mk_journal.proofs.Stages.{ok_map}
use Rattle.mk_journal.proofs.Heads.{headed_kept, torn_open, begun_then}
use Rattle.mk_journal.proofs.header.open_header.Goals as goal

pub returns-clause-settled : goal.returns-clause-settled
returns-clause-settled g c n market named headed =
    ok_map c.write_synced.result (begun_then headed) (c.write_synced.ensures.kept n (headed.is.gate ∷ begun market) named (headed_kept headed))

pub returns-clause-any_moment : goal.returns-clause-any_moment
returns-clause-any_moment g c n market named headed =
    weaken (torn_open headed) (c.write_synced.ensures.any_moment n (headed.is.gate ∷ begun market) named (headed_kept headed))
