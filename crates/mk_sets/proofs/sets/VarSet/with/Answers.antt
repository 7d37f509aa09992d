use Rattle.std.proofs.Common.{◌-◌, rules, arith}
use Rattle.mk_sets.proofs.Bits.{with_low, with_high}
use Rattle.mk_sets.proofs.Members.{more_fits, member_more, set_with}
use Rattle.mk_sets.proofs.sets.VarSet.with.Goals as goal

pub invariant_of-t-4 : goal.invariant_of-t-4
invariant_of-t-4 c = record {
  low_fits = more_fits c.self.inside.low c.args.variable c.self.invariant.low_fits;
  high_fits = c.self.invariant.high_fits;
}

pub invariant_of-result : goal.invariant_of-result
invariant_of-result c = record {
  low_fits = c.self.invariant.low_fits;
  high_fits = more_fits c.self.inside.high (c.args.variable - 128) c.self.invariant.high_fits;
}

pub returns-then-variable-lt128-clause-members : goal.returns-then-variable-lt128-clause-members
returns-then-variable-lt128-clause-members c = member_more c.self.inside c.args.self.now c.self.view_is c.self.invariant _ c.args.variable
    (invariant_of-t-4 c) (λ x. with_low c.self.inside c.args.variable x (search (rules, arith)))

pub returns-then-variable-lt128-clause-set : goal.returns-then-variable-lt128-clause-set
returns-then-variable-lt128-clause-set c = set_with c.self.inside c.args.self.now c.self.view_is c.self.invariant _ c.args.variable
    (invariant_of-t-4 c) (λ x. with_low c.self.inside c.args.variable x (search (rules, arith)))

pub returns-else-variable-lt128-clause-members : goal.returns-else-variable-lt128-clause-members
returns-else-variable-lt128-clause-members c = member_more c.self.inside c.args.self.now c.self.view_is c.self.invariant _ c.args.variable
    (invariant_of-result c) (λ x. with_high c.self.inside c.args.variable x (search (rules, arith)) (search (rules, arith)))

pub returns-else-variable-lt128-clause-set : goal.returns-else-variable-lt128-clause-set
returns-else-variable-lt128-clause-set c = set_with c.self.inside c.args.self.now c.self.view_is c.self.invariant _ c.args.variable
    (invariant_of-result c) (λ x. with_high c.self.inside c.args.variable x (search (rules, arith)) (search (rules, arith)))
