use Rattle.std.proofs.Common.{subst, ◌∙◌, rules}
use Rattle.mk_io.specs.Outside.{AddsFront}
use Rattle.mk_session.proofs.Telling.{told_nothing, told_all, told_front, told_none}
use Rattle.mk_session.proofs.waiting.write_unless.Goals as goal

pub returns-then-may_wait-clause-told : goal.returns-then-may_wait-clause-told
returns-then-may_wait-clause-told g c = told_nothing

pub returns-in-Err-clause-told : goal.returns-in-Err-clause-told
returns-in-Err-clause-told g c =
    told_none g.J.Keeper.holds g.met.J.Keeper.then_passes g.met.J.Keeper.fewer_pass
    c.keep.ensures.any_moment g.met.J.Keeper.fewer_are_left g.met.J.Keeper.last_is_left
    (record { later = c.in-Err.ensures.cause.later; rose = c.in-Err.ensures.cause.failed })

pub returns-in-Err-write_all-clause-told : goal.returns-in-Err-write_all-clause-told
returns-in-Err-write_all-clause-told g c =
    let cause = c.in-Err-write_all.ensures.cause in
    told_front g.J.Keeper.holds g.met.J.Keeper.then_passes g.met.J.Keeper.fewer_pass
    c.keep.ensures.any_moment c.in-Ok.ensures.kept g.met.J.Keeper.fewer_are_left
    g.met.J.Keeper.held_is_left
    c.in-Ok.ensures.cause.ok (record { later = cause.later; rose = cause.failed })
    (subst (AddsFront (g.S.Sink.written c.args.out.now) (g.S.Sink.written c.write_all.new.out))
    (c.as_bytes.ensures.value ∙ c.deref.ensures.0) c.in-Err-write_all.ensures.front)

pub returns-in-Ok-write_all-clause-told : goal.returns-in-Ok-write_all-clause-told
returns-in-Ok-write_all-clause-told g c =
    told_all g.J.Keeper.holds g.met.J.Keeper.then_passes g.met.J.Keeper.fewer_pass
    c.keep.ensures.any_moment c.in-Ok.ensures.kept c.in-Ok.ensures.ready c.in-Ok.ensures.cause.ok
    c.in-Ok-write_all.ensures.cause.kept (search rules) (search rules)
