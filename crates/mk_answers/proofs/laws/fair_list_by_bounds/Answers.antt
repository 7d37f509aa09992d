use Rattle.mk_exact.specs.Weight.{IsSmall}
use Rattle.mk_spread.proofs.When.{units_when}
use Rattle.mk_quote.specs.Values.{AreEachExact}
use Rattle.mk_answers.proofs.laws.fair_list_by_bounds.Goals as goal

pub returns : goal.returns
returns c = λ network H u spread values sides Xs Fs are_sides for fair. record {
  sides = sides;
  are_sides = are_sides;
  units = units_when (IsSmall network H) (AreEachExact values) for.exact sides Xs Fs (fair sides for.sides for.graded);
}
