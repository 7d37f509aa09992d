use Rattle.mk_verify.proofs.judging.judge.Goals as goal

pub returns-in_default : goal.returns-in_default
returns-in_default g c =
    let judged = c.judge_unquoted.ensures.judged.however_quoted c.args.known.now.quotes in
    record { same = c.judge_unquoted.ensures.same; judged = judged.where_stands }
