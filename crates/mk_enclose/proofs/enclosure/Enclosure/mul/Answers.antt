use Rattle.std.proofs.Common.{◌*◌, ap₂, le_trans}
use Rattle.std.proofs.Math.Nat.{one-le-mul}
use Rattle.mk_scaled.specs.Near.{near-mul}
use Rattle.mk_enclose.proofs.Grades.{near_rounded, both_exact}
use Rattle.mk_enclose.proofs.enclosure.Enclosure.mul.Goals as goal

pub returns-clause-grade : goal.returns-clause-grade
returns-clause-grade c = λ g h k l.
    let s = c.args.self.now in
    let o = c.args.other.now in
    record {
      near = near_rounded _ _ _ _ _ (one-le-mul s.positive o.positive) (one-le-mul (le_trans s.positive s.ordered) (le_trans o.positive o.ordered)) (near-mul _ _ _ _ g h k.near l.near) c.mul_down.ensures c.mul_up.ensures;
    }

pub returns-clause-exact : goal.returns-clause-exact
returns-clause-exact c = λ k l h. record {
  same = both_exact _ _ _ _ (one-le-mul c.args.self.now.positive c.args.other.now.positive) (ap₂ (λ x y. x * y) k.same l.same) h c.mul_down.ensures c.mul_up.ensures;
}
