use Rattle.std.specs.Prelude.{◌&&◌, not}
use Rattle.std.specs.Int.{bit_not, w128}
use Rattle.std.proofs.Common.{arith}
use Rattle.mk_sets.proofs.Bits.{in_first_alone}
use Rattle.mk_sets.proofs.Members.{joined, common_fits}
use Rattle.mk_sets.proofs.sets.VarSet.without.Goals as goal

pub returns : goal.returns
returns c =
    let a = c.self.inside in
    let b = c.other.inside in
    joined a c.args.self.now c.self.view_is c.self.invariant b c.args.other.now c.other.view_is c.other.invariant
    (λ p q. p && not q) _ (record {
      low_fits = common_fits a.low (bit_not w128 b.low) c.self.invariant.low_fits (omega arith);
      high_fits = common_fits a.high (bit_not w128 b.high) c.self.invariant.high_fits (omega arith);
    }) (in_first_alone a b c.self.invariant.low_fits c.self.invariant.high_fits c.other.invariant.low_fits c.other.invariant.high_fits)
