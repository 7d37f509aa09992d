use Rattle.mk_spread.proofs.Exist.{given_right}
use Rattle.mk_judge.proofs.Placing.{absent_right, not_absent}
use Rattle.mk_judge.proofs.distribution.judge_intervals.Goals as goal

pub returns-in-Some-clause-allowed : goal.returns-in-Some-clause-allowed
returns-in-Some-clause-allowed c e sides are =
    let told = rw (c.as_slice-parts.ensures.value, e) at c.judge_each_interval.ensures in
    rw c.in-Some.is (given_right _ sides c.in-Some.intervals.now (told sides are))

pub returns-in-Some-clause-wrong : goal.returns-in-Some-clause-wrong
returns-in-Some-clause-wrong c e sides are right =
    let told = rw (c.as_slice-parts.ensures.value, e) at c.judge_each_interval.ensures in
    told sides are (rw c.in-Some.is at right).given

pub returns-in-Some-clause-unclear : goal.returns-in-Some-clause-unclear
returns-in-Some-clause-unclear c e sides are =
    let told = rw (c.as_slice-parts.ensures.value, e) at c.judge_each_interval.ensures in
    rw c.in-Some.is ((told sides are).1)

pub returns-in-Some-clause-clear : goal.returns-in-Some-clause-clear
returns-in-Some-clause-clear c e sides are = let told = rw (c.as_slice-parts.ensures.value, e) at
    c.judge_each_interval.ensures in (told sides are).0

pub returns-in-None-clause-allowed : goal.returns-in-None-clause-allowed
returns-in-None-clause-allowed c e sides are =
    let told = rw (c.as_slice-parts.ensures.value, e) at c.judge_some_absent.ensures in
    rw c.in-None.is (absent_right c.args.small sides (told sides are))

pub returns-in-None-clause-wrong : goal.returns-in-None-clause-wrong
returns-in-None-clause-wrong c e sides are right =
    let told = rw (c.as_slice-parts.ensures.value, e) at c.judge_some_absent.ensures in
    not_absent c.args.small sides _ (told sides are) (rw c.in-None.is at right)

pub returns-in-None-clause-unclear : goal.returns-in-None-clause-unclear
returns-in-None-clause-unclear c e sides are =
    let told = rw (c.as_slice-parts.ensures.value, e) at c.judge_some_absent.ensures in
    rw c.in-None.is ((told sides are).1)

pub returns-in-None-clause-clear : goal.returns-in-None-clause-clear
returns-in-None-clause-clear c e sides are = let told = rw (c.as_slice-parts.ensures.value, e) at
    c.judge_some_absent.ensures in (told sides are).0
