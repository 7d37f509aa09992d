use Rattle.std.specs.Prelude.{◌||◌}
use Rattle.mk_sets.proofs.Bits.{in_union}
use Rattle.mk_sets.proofs.Members.{joined, either_fits}
use Rattle.mk_sets.proofs.sets.VarSet.union.Goals as goal

pub invariant_of-result : goal.invariant_of-result
invariant_of-result c = record {
  low_fits = either_fits c.self.inside.low c.other.inside.low c.self.invariant.low_fits c.other.invariant.low_fits;
  high_fits = either_fits c.self.inside.high c.other.inside.high c.self.invariant.high_fits c.other.invariant.high_fits;
}

pub returns : goal.returns
returns c = joined c.self.inside c.args.self.now c.self.view_is c.self.invariant c.other.inside c.args.other.now c.other.view_is c.other.invariant
    (λ p q. p || q) _ (invariant_of-result c) (in_union c.self.inside c.other.inside)
