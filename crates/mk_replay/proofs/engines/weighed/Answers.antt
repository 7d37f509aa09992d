use Rattle.std.proofs.Common.{◌≡◌, ℕ, length, subst, arith, refl}
use Rattle.mk_replay.proofs.Weighed.{rows_below, rows_more, rows_counted}
use Rattle.mk_replay.proofs.engines.weighed.Goals as goal

pub weigh-requires : goal.weigh-requires
weigh-requires g c =
    let net = c.args.net.now in let tree = c.requires.0 in let k = c.loop-variable.variable in
    let end = c.variables-variable-end.ensures in
    record {
      meaning = rows_below net tree k;
      stands = c.loop-variable.invariant tree c.requires.1;
      of_network = refl;
      in_range = omega (arith, c.loop-variable-test.true, end.count);
      room = omega (
        arith,
        rows_counted net tree k,
        c.loop-variable-test.true,
        end.count,
        end.network.few,
      );
    }

pub loop-variable-preserved : goal.loop-variable-preserved
loop-variable-preserved g c = λ tree planned.
    let net = c.args.net.now in let k = c.loop-variable.variable in
    subst (g.E.Engine.stands_for c.weigh.new.self) (rows_more net tree k)
    (c.weigh.ensures (rows_below net tree k) (c.loop-variable.invariant tree planned) refl)

pub returns-clause-stands : goal.returns-clause-stands
returns-clause-stands g c = λ tree planned.
    let net = c.args.net.now in
    let done : c.loop-variable.variable ≡ length net =
    omega (
      arith,
      c.loop-variable-test.false,
      c.variables-variable-end.ensures.count,
      c.loop-variable.auto.variable-end,
    ) in
    subst (λ (k : ℕ). g.E.Engine.stands_for c.loop-variable.engine (rows_below net tree k)) done
    (c.loop-variable.invariant tree planned)
