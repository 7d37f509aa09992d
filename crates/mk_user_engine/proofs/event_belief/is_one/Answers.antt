use Rattle.std.proofs.Common.{inr, eq-eqb}
use Rattle.std.proofs.lemmas.Bool.{both_ways}
use Rattle.mk_user_engine.proofs.GroupCells.{one_alone}
use Rattle.mk_user_engine.proofs.event_belief.is_one.Goals as goal

pub returns-then-kept-one-clause-other : goal.returns-then-kept-one-clause-other
returns-then-kept-one-clause-other c = λ e. inr (λ s.
    let k = c.args.kept.least in let o = c.args.one in
    let same = one_alone k.digits k.exponent o.digits o.exponent s c.requires in
    absurd (c.if-kept-one.true same.0))

pub returns-clause-other : goal.returns-clause-other
returns-clause-other c = λ e. inr (λ s.
    let k = c.args.kept.least in let o = c.args.one in
    let same = one_alone k.digits k.exponent o.digits o.exponent s c.requires in
    both_ways _ e (eq-eqb k.exponent o.exponent same.1))
