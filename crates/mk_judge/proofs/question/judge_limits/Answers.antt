use Rattle.std.proofs.Common.{Bool}
use Rattle.std.specs.Bool.{⊤, IsTrue}
use Rattle.mk_exact.specs.Limits.{Side}
use Rattle.mk_quote.specs.declared.bounds.Bounds.{Bounds}
use Rattle.mk_quote.specs.Bounds.{EncloseSides, AreAllExact}
use Rattle.mk_judge.specs.Questions.{AreTwoSides}
use Rattle.mk_judge.proofs.Righting.{right_for, not_small}
use Rattle.mk_judge.proofs.question.judge_limits.Goals as goal

enclosed : (bounds : Bounds) (small : Bool) (hit miss : Side) → AreTwoSides bounds small hit miss
    → EncloseSides bounds hit miss
enclosed bounds small hit miss sides = record {
  of_hit = sides.of_hit.bounds_of;
  of_miss = sides.of_miss.bounds_of;
}

exactly : (bounds : Bounds) (small : Bool) (hit miss : Side) → AreTwoSides bounds small hit miss
    → IsTrue small → AreAllExact bounds
exactly bounds small hit miss sides said = record {
  hit = sides.of_hit.exact said;
  miss = sides.of_miss.exact said;
}

pub returns-then-small-clause-allowed : goal.returns-then-small-clause-allowed
returns-then-small-clause-allowed c e hit miss sides =
    right_for ⊤ _ hit miss c.args.limits (λ _. tt)
    (c.judge_exact_limits.ensures.allowed e hit miss (enclosed _ _ hit miss sides)
    (exactly _ _ hit miss sides c.if-small.true))

pub returns-then-small-clause-wrong : goal.returns-then-small-clause-wrong
returns-then-small-clause-wrong c e hit miss sides right =
    c.judge_exact_limits.ensures.wrong e hit miss (enclosed _ _ hit miss sides)
    (exactly _ _ hit miss sides c.if-small.true)
    (right_for _ ⊤ hit miss c.args.limits (λ _. c.if-small.true) right)

pub returns-else-small-clause-allowed : goal.returns-else-small-clause-allowed
returns-else-small-clause-allowed c e hit miss sides =
    right_for ⊥ _ hit miss c.args.limits (not_small c.args.small c.if-small.false)
    (rw e at (c.judge_large_limits.ensures hit miss (rw c.if-small.false at sides)))

pub returns-else-small-clause-wrong : goal.returns-else-small-clause-wrong
returns-else-small-clause-wrong c e hit miss sides right =
    (rw e at (c.judge_large_limits.ensures hit miss (rw c.if-small.false at sides)))
    (right_for _ ⊥ hit miss c.args.limits (λ no. absurd no) right)
