use Rattle.mk_io.proofs.AtOnce.{cuts_at_once}
use Rattle.mk_io.proofs.cut.cut_line.Goals as goal

pub returns-in-Some-clause-cut : goal.returns-in-Some-clause-cut
returns-in-Some-clause-cut g c =
    cuts_at_once 1025 c.args.room c.in-Some.end c.put.new.self c.args.pending.now c.pass.new.self _ _ _ c.as_slice.ensures c.as_slice-in-Some.ensures c.in-Some.ensures c.if-end-room.true c.put.ensures c.pass.ensures
