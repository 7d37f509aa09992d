use Rattle.std.proofs.Common.{◌*◌}
use Rattle.mk_cell.proofs.Own.{own_below}
use Rattle.mk_semiring.proofs.held.of_cell.Goals as goal

pub returns-in-Some-clause-exact : goal.returns-in-Some-clause-exact
returns-in-Some-clause-exact c = λ v s h.
    let w = c.requires.own c.if-untouched.true in
    (c.in-Some.ensures).exact w.0 w.1 (own_below c.args.cell.digits c.args.cell.exponent c.args.shift v w.0 (3 * c.args.grade) s w.1 h)
