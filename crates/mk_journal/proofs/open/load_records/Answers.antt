use Rattle.std.proofs.lemmas.Result.{err_from_is_err_and}
use Rattle.mk_journal.proofs.open.load_records.Goals as goal

pub returns-in_err-bytes-clause-plain : goal.returns-in_err-bytes-clause-plain
returns-in_err-bytes-clause-plain g c market f =
    let p = err_from_is_err_and c.from_residual.result c.from_residual.ensures.1 in
    rw (p.1, p.2) (c.in_err-bytes.ensures.plain market f)
