use Rattle.mk_answers.proofs.Weaker.{right_by_bounds}
use Rattle.mk_answers.proofs.laws.right_by_bounds.Goals as goal

pub returns : goal.returns
returns c = λ network H u asked bounds hit miss limits sides for. right_by_bounds network H u asked bounds hit miss sides for limits
