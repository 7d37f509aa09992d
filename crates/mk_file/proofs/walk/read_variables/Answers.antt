use Rattle.std.proofs.Common.{arith}
use Rattle.std.proofs.lemmas.Result.{err_from_is_err_and}
use Rattle.mk_file.proofs.Reading.{stops_at}
use Rattle.mk_file.proofs.walk.read_variables.Goals as goal

pub returns-in_err-read_variable : goal.returns-in_err-read_variable
returns-in_err-read_variable c =
    let returned = err_from_is_err_and c.from_residual.result c.from_residual.ensures.1 in
    rw (returned.1, returned.2) (λ known.
    stops_at _ c.tables.index _ c.args.tables.now c.index-tables-index.result _ c.tables.invariant (omega arith) c.index-tables-index.is (c.in_err-read_variable.ensures known))
