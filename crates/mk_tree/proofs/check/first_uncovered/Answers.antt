use Rattle.std.proofs.Common.{arith, rules}
use Rattle.mk_tree.specs.Tests.{is_covered}
use Rattle.mk_tree.proofs.Found.{failing_at, none_failing}
use Rattle.mk_tree.proofs.check.first_uncovered.Goals as goal

pub returns-then-not-is_covered-clause-first : goal.returns-then-not-is_covered-clause-first
returns-then-not-is_covered-clause-first c =
    failing_at c.args.net.now (is_covered c.args.net.now c.args.cliques.now) c.loop-variable.variable (search (rules, arith)) (search rules) c.loop-variable.invariant

pub returns-clause-first : goal.returns-clause-first
returns-clause-first c = none_failing c.args.net.now (is_covered c.args.net.now c.args.cliques.now) (λ x within. c.loop-variable.invariant x (omega (arith, within)))
