use Rattle.std.proofs.Common.{◌≡◌, ℕ, length, subst, arith, refl}
use Rattle.mk_engine.specs.Meaning.{Meaning}
use Rattle.mk_parts.proofs.Openings.{first_rows, one_more, count_of_rows, all_rows}
use Rattle.mk_parts.proofs.opening.weighed.Goals as goal

pub weigh-requires : goal.weigh-requires
weigh-requires g c =
    let net = c.args.file.now.net in let tree = c.args.file.now.tree in let k = c.loop-variable.variable in
    record {
      meaning = first_rows net tree k;
      stands = c.loop-variable.invariant;
      of_network = refl;
      in_range = omega (arith, c.loop-variable-test.true, c.variables-variable-end.ensures.count);
      room = omega (arith, count_of_rows net tree k, c.loop-variable-test.true, c.variables-variable-end.ensures.count, c.variables-variable-end.ensures.network.few);
    }

pub loop-variable-preserved : goal.loop-variable-preserved
loop-variable-preserved g c =
    let net = c.args.file.now.net in let tree = c.args.file.now.tree in let k = c.loop-variable.variable in
    subst (λ (m : Meaning). g.E.Engine.stands_for c.weigh.new.self m) (one_more net tree k)
    (c.weigh.ensures (first_rows net tree k) c.loop-variable.invariant refl)

pub returns-clause-stands : goal.returns-clause-stands
returns-clause-stands g c =
    let net = c.args.file.now.net in let tree = c.args.file.now.tree in
    let done : c.loop-variable.variable ≡ length net =
    omega (arith, c.loop-variable-test.false, c.variables-variable-end.ensures.count, c.loop-variable.auto.variable-end) in
    subst (g.E.Engine.stands_for c.loop-variable.engine) (all_rows net tree)
    (subst (λ (k : ℕ). g.E.Engine.stands_for c.loop-variable.engine (first_rows net tree k)) done c.loop-variable.invariant)
