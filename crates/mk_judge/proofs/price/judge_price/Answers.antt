use Rattle.mk_judge.proofs.price.judge_price.Goals as goal

pub returns-else-small-clause-unclear : goal.returns-else-small-clause-unclear
returns-else-small-clause-unclear c e price is =
    let between = rw (c.in-Between.is, c.if-small.false) at is in
    rw c.in-Between.is (rw e at (c.graded.ensures price between))
