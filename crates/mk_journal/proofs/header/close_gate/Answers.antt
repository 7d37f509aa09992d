use Rattle.mk_journal.specs.inner.MomentLaws.{weaken}
use Rattle.mk_journal.proofs.Stages.{ok_map}
use Rattle.mk_journal.proofs.Heads.{torn_close, cleared_then}
use Rattle.mk_journal.proofs.header.close_gate.Goals as goal

pub returns-clause-cleared : goal.returns-clause-cleared
returns-clause-cleared g c n market f named short kept = ok_map c.write_synced.result (cleared_then market f short) (c.write_synced.ensures.kept n f named kept)

pub returns-clause-any_moment : goal.returns-clause-any_moment
returns-clause-any_moment g c n market f named short kept = weaken (torn_close market f short) (c.write_synced.ensures.any_moment n f named kept)
