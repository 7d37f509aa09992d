use Rattle.mk_user_engine.proofs.Staying.{pairs_of}
use Rattle.mk_user_engine.proofs.engine.UserEngineEngineMinProd.belief.Goals as goal

pub returns-else-self-clause-belief : goal.returns-else-self-clause-belief
returns-else-self-clause-belief c = λ m s.
    let e = c.args.self.now in let a = c.requires.range in let stays = c.if-self.false
    in let b = s.narrow stays in
    c.belief-else-self.ensures.belief m b.lists (pairs_of e stays a.meaning a.stands m s
    c.args.event.now a.in_range)

pub returns-else-self-clause-apart : goal.returns-else-self-clause-apart
returns-else-self-clause-apart c = λ m s apart small.
    let e = c.args.self.now in let a = c.requires.range in let stays = c.if-self.false
    in let b = s.narrow stays in
    c.belief-else-self.ensures.apart m b.lists (pairs_of e stays a.meaning a.stands m s
    c.args.event.now a.in_range) apart small
