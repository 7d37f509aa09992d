use Rattle.std.proofs.Common.{◌∷◌}
use Rattle.mk_journal.specs.inner.MomentLaws.{weaken}
use Rattle.mk_journal.proofs.Stages.{ok_map}
use Rattle.mk_journal.proofs.Heads.{cleared_kept, torn_header, headed_then}
use Rattle.mk_journal.proofs.header.write_header.Goals as goal

pub returns-clause-headed : goal.returns-clause-headed
returns-clause-headed g c n market named body cleared =
    ok_map c.write_synced.result (headed_then cleared c.args.body.now body) (c.write_synced.ensures.kept n (0 ∷ cleared.is.rest) named (cleared_kept cleared))

pub returns-clause-any_moment : goal.returns-clause-any_moment
returns-clause-any_moment g c n market named body cleared =
    weaken (torn_header cleared c.args.body.now body) (c.write_synced.ensures.any_moment n (0 ∷ cleared.is.rest) named (cleared_kept cleared))
