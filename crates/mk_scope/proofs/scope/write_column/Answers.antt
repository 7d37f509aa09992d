use Rattle.std.proofs.Common.{◌+◌, ◌-◌, ◌<◌, ◌∙◌, length, slice_index, arith, refl}
use Rattle.std.proofs.lemmas.List.{length-set, get_or-set_other}
use Rattle.mk_scope.proofs.Writing.{column_again}
use Rattle.mk_scope.proofs.scope.write_column.Goals as goal

pub loop-cell-preserved : goal.loop-cell-preserved
loop-cell-preserved c =
    let xs = c.loop-cell.columns in let at = c.args.start + c.loop-cell.cell in let value = slice_index xs (at - c.args.span) in
    let before = c.loop-cell.invariant in
    let within : at < length xs = omega (arith, before.long, c.requires.there, c.loop-cell-test.true) in
    record {
      long = rw length-set before.long;
      before = λ k l. get_or-set_other xs at k value 0 (λ e. omega (arith, e, l)) ∙ before.before k l;
      written = column_again c.args.start c.args.span c.args.stride c.loop-cell.cell value xs c.requires.some c.loop-cell.auto.cell within refl before.written;
    }
