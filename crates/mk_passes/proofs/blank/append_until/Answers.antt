use Rattle.std.proofs.Common.{arith, ap, sym, ◌∙◌}
use Rattle.mk_passes.specs.Blank.{filled}
use Rattle.mk_passes.proofs.Filled.{filled_full, filled_push}
use Rattle.mk_passes.proofs.blank.append_until.Goals as goal

pub loop-preserved : goal.loop-preserved
loop-preserved g c = record {
  long = omega (arith, c.push_reserved.ensures.len, c.loop.invariant.long);
  room = c.push_reserved.ensures.capacity ∙ c.loop.invariant.room;
  same = ap (λ ys. filled c.args.value c.args.count ys) c.push_reserved.ensures.items
      ∙ filled_push c.args.value c.args.count c.loop.values.items (omega (arith, c.loop.values.ok.0, c.loop.invariant.long, c.loop-test.true))
      ∙ c.loop.invariant.same;
}

pub returns-clause-items : goal.returns-clause-items
returns-clause-items g c =
    sym (filled_full c.args.value c.args.count c.loop.values.items (omega (arith, c.loop.values.ok.0, c.loop.invariant.long, c.loop-test.false))) ∙ c.loop.invariant.same
