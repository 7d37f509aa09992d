use Rattle.mk_answers.proofs.Weaker.{fair_by_bounds}
use Rattle.mk_answers.proofs.laws.fair_by_bounds.Goals as goal

pub returns : goal.returns
returns c = λ network H u asked bounds hit miss X F_t F_n sides for. fair_by_bounds network H u asked bounds hit miss sides for X F_t F_n
