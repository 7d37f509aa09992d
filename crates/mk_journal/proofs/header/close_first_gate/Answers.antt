use Rattle.mk_journal.specs.inner.MomentLaws.{weaken}
use Rattle.mk_journal.proofs.Stages.{ok_map}
use Rattle.mk_journal.proofs.Heads.{torn_first_gate, gate_closed_then}
use Rattle.mk_journal.proofs.header.close_first_gate.Goals as goal

pub returns-clause-headed : goal.returns-clause-headed
returns-clause-headed g c n market f named place there unstarted kept =
    ok_map c.write_synced.result (gate_closed_then market f c.args.at there unstarted place) (c.write_synced.ensures.kept n f named kept)

pub returns-clause-any_moment : goal.returns-clause-any_moment
returns-clause-any_moment g c n market f named place there unstarted kept =
    weaken (torn_first_gate market f c.args.at there unstarted place) (c.write_synced.ensures.any_moment n f named kept)
