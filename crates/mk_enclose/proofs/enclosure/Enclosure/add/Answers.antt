use Rattle.std.proofs.Common.{◌+◌, ap₂, arith}
use Rattle.mk_enclose.proofs.Grades.{near_rounded, near_sum, both_exact}
use Rattle.mk_enclose.proofs.enclosure.Enclosure.add.Goals as goal

pub returns-clause-grade : goal.returns-clause-grade
returns-clause-grade c = λ g h k l.
    let p = c.args.self.now.positive in
    let q = c.args.self.now.ordered in
    record {
      near = near_rounded _ _ _ _ _ (omega arith) (omega arith) (near_sum _ _ _ _ g h k.near l.near) c.add_down.ensures c.add_up.ensures;
    }

pub returns-clause-exact : goal.returns-clause-exact
returns-clause-exact c = λ k l h.
    let p = c.args.self.now.positive in
    record {
      same = both_exact _ _ _ _ (omega arith) (ap₂ (λ x y. x + y) k.same l.same) h c.add_down.ensures c.add_up.ensures;
    }
