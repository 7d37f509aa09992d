use Rattle.std.proofs.Common.{arith}
use Rattle.std.proofs.lemmas.Result.{err_from_is_err_and}
use Rattle.mk_io.proofs.Told.{wrote_none, wrote_more, wrote_front, wrote_part}
use Rattle.mk_io.proofs.outside.write_all.Goals as goal

pub loop-done-init : goal.loop-done-init
loop-done-init g c = wrote_none _ _ _

pub loop-done-preserved : goal.loop-done-preserved
loop-done-preserved g c = let w = c.in_ok-done.ensures.writes in wrote_more _ _ _ _ _ _ _ _ _ c.loop-done.invariant w c.in_ok-done.ensures.cause.kept

pub returns-in_err-done-clause-front : goal.returns-in_err-done-clause-front
returns-in_err-done-clause-front g c =
    let p = err_from_is_err_and c.from_residual.result c.from_residual.ensures.1 in
    rw p.1 (wrote_front _ _ _ _ _ _ _ c.loop-done.invariant c.in_err-done.ensures.writes.failed)

pub returns-in_err-done-clause-part : goal.returns-in_err-done-clause-part
returns-in_err-done-clause-part g c =
    let p = err_from_is_err_and c.from_residual.result c.from_residual.ensures.1 in
    rw p.1 (wrote_part _ _ _ _ _ _ _ c.loop-done.invariant (omega arith)
    c.in_err-done.ensures.writes.failed)
