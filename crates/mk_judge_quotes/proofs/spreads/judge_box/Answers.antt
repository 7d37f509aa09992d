use Rattle.mk_judge_quotes.proofs.spreads.judge_box.Goals as goal

pub returns-in-Some : goal.returns-in-Some
returns-in-Some c = rw (c.in-Some.is, ← c.as_slice.ensures.value) (record {
  allowed = c.judge_intervals.ensures.allowed;
  wrong = c.judge_intervals.ensures.wrong;
  unclear = c.judge_intervals.ensures.unclear;
  clear = c.judge_intervals.ensures.clear;
})

pub returns-in-None : goal.returns-in-None
returns-in-None c = rw c.in-None.is (record {
  allowed = c.judge_intervals-in-None.ensures.allowed;
  wrong = c.judge_intervals-in-None.ensures.wrong;
  unclear = c.judge_intervals-in-None.ensures.unclear;
  clear = c.judge_intervals-in-None.ensures.clear;
})
