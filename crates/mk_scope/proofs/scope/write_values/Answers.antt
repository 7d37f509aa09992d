use Rattle.std.proofs.Common.{◌≡◌, ◌+◌, ◌*◌, ◌∙◌, ap, sym, slice_index, arith}
use Rattle.mk_scope.proofs.Writing.{values_more}
use Rattle.mk_scope.proofs.scope.write_values.Goals as goal

pub loop-value-preserved : goal.loop-value-preserved
loop-value-preserved c =
    let value = c.loop-value.value in let stride = c.args.stride in let before = c.loop-value.invariant in
    let next : (value + 1) * stride ≡ value * stride + stride = omega arith in
    record {
      first = omega (arith, before.first, next);
      long = c.write_run.ensures.long ∙ before.long;
      before = λ k l. c.write_run.ensures.before k (omega (arith, l, before.first)) ∙ before.before k l;
      written = values_more c.args.start stride value c.loop-value.columns c.write_run.new.columns before.written (λ k l. c.write_run.ensures.before k (omega (arith, l, before.first)))
          (λ k l. ap (λ n. slice_index c.write_run.new.columns (n + k)) (sym before.first) ∙ c.write_run.ensures.written k l);
    }
