use Rattle.mk_exact.specs.Weight.{IsSmall}
use Rattle.mk_spread.proofs.When.{bounds_when}
use Rattle.mk_quote.specs.Values.{AreEachExact}
use Rattle.mk_answers.proofs.laws.right_bounds_by_bounds.Goals as goal

pub returns : goal.returns
returns c = λ network H u spread values sides intervals are_sides for right. record {
  sides = sides;
  are_sides = are_sides;
  right = bounds_when (IsSmall network H) (AreEachExact values) for.exact sides intervals (right sides for.sides for.graded);
}
