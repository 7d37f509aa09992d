use Rattle.std.specs.Prelude.{◌&&◌}
use Rattle.mk_sets.proofs.Bits.{in_common}
use Rattle.mk_sets.proofs.Members.{joined, common_fits}
use Rattle.mk_sets.proofs.sets.VarSet.common.Goals as goal

pub returns : goal.returns
returns c = joined c.self.inside c.args.self.now c.self.view_is c.self.invariant c.other.inside c.args.other.now c.other.view_is c.other.invariant
    (λ p q. p && q) _ (record {
      low_fits = common_fits c.self.inside.low c.other.inside.low c.self.invariant.low_fits c.other.invariant.low_fits;
      high_fits = common_fits c.self.inside.high c.other.inside.high c.self.invariant.high_fits c.other.invariant.high_fits;
    }) (in_common c.self.inside c.other.inside)
