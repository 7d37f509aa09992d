use Rattle.std.proofs.Common.{◌+◌, ◌*◌, ◌<◌, All, length}
use Rattle.mk_scope.specs.Scopes.{cells_in}
use Rattle.mk_table.specs.Lists.{table_in}
use Rattle.mk_scope.specs.Cells.{cells_where}
use Rattle.mk_passes.proofs.Blocked.{all_listed}
use Rattle.mk_scope.proofs.Reached.{where_within}
use Rattle.mk_table.proofs.Whole.{total_own}
use Rattle.mk_table.proofs.tables.Tables.total.Goals as goal

pub returns-clause-stands : goal.returns-clause-stands
returns-clause-stands g c = λ f n h.
    let now = table_in c.args.self.now c.args.k in let chosen = cells_where now.scope c.args.event.now in
    let within : All (λ k. 0 + k < length now.digits) chosen = rw c.plus_where.ensures.full.as_many_digits (where_within now.scope c.args.event.now) in
    c.plus_where.ensures.stands now.shift f n (all_listed now.shift now.digits now.exponents f n 0 chosen within h.stand)

pub returns-clause-own : goal.returns-clause-own
returns-clause-own g c = λ untouched f n h.
    let now = table_in c.args.self.now c.args.k in let R = g.R.Semiring in
    total_own R.plus_of g.met.R.Semiring.lawful now.scope c.args.event.now now.touched now.digits now.exponents c.plus_where.ensures.full untouched now.shift f n (record { stand = h.stand; own = h.own })
    c.plus_where.result.digits c.plus_where.result.exponent (n + 2 * cells_in now.scope) (λ j p s. c.plus_where.ensures.stands j p n s)
