use Rattle.mk_judge.proofs.distribution.judge_spread_units.Goals as goal

pub returns-clause-unclear : goal.returns-clause-unclear
returns-clause-unclear c e sides are = let told = rw (c.as_slice.ensures.value, e) at
    c.judge_each_units.ensures in (told sides are).1

pub returns-clause-clear : goal.returns-clause-clear
returns-clause-clear c e sides are = let told = rw (c.as_slice.ensures.value, e) at
    c.judge_each_units.ensures in (told sides are).0
