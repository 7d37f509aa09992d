use Rattle.mk_quote.proofs.Rightness.{judged_is_fair}
use Rattle.mk_quote.proofs.bounds.Bounds.judge.Goals as goal

pub returns-clause-fair : goal.returns-clause-fair
returns-clause-fair c =
    judged_is_fair c.args.self.now c.hit_side.result c.miss_side.result c.args.x _ _ c.requires.positive c.requires.at_most c.hit_side.ensures c.miss_side.ensures
    (c.in_ok-hit.ensures.0) (c.in_ok-miss.ensures.0) (c.in_ok-hit.ensures.1) (c.in_ok-miss.ensures.1)
