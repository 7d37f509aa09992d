use Rattle.mk_user_engine.proofs.Gathering.{gathered_none, gathered_by_name, gathered_by_join}
use Rattle.mk_user_engine.proofs.groups.Groups.gather.Goals as goal

pub returns-in-None-clause-kept : goal.returns-in-None-clause-kept
returns-in-None-clause-kept c =
    let made = c.name.ensures in
    gathered_by_name c.args.self.now.list.items c.name.new.self.list.items c.args.place
    c.args.variable c.name.result made.as_many made.named made.left

pub returns-then-other-place-clause-kept : goal.returns-then-other-place-clause-kept
returns-then-other-place-clause-kept c =
    gathered_none c.args.self.now.list.items c.args.place

pub returns-else-other-place-clause-grown : goal.returns-else-other-place-clause-grown
returns-else-other-place-clause-grown c = λ sizes is size.
    let made = c.join.ensures in made.grown sizes is

pub returns-else-other-place-clause-kept : goal.returns-else-other-place-clause-kept
returns-else-other-place-clause-kept c =
    let made = c.join.ensures in
    gathered_by_join c.args.self.now c.join.new.self c.args.place c.in-Some.other c.join.result
    made.joined made.left
