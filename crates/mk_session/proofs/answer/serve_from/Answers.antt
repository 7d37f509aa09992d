use Rattle.std.proofs.Common.{[], length, sym, subst, ◌∙◌}
use Rattle.mk_io.specs.Outside.{AddsFront}
use Rattle.mk_session.specs.Transcript.{started}
use Rattle.mk_session.specs.Left.{LeavesSince}
use Rattle.mk_session.proofs.Serving.{begun_at, served_when_ended, whole_when_done}
use Rattle.mk_session.proofs.Serving.{broken_at_head}
use Rattle.mk_session.proofs.Turns.{left_at_head}
use Rattle.mk_session.proofs.answer.serve_from.Goals as goal

pub returns-in-Ok-clause-served : goal.returns-in-Ok-clause-served
returns-in-Ok-clause-served g c = λ market all here told begins.
    let now = c.args.market.now in
    let start = started market now.standing c.args.keeping.recovered in
    served_when_ended c.keep_lines.result start c.keep_lines.new.market.standing all
    (g.I.Inputs.commands c.keep_lines.new.inputs) (g.S.Sink.written c.args.out.now)
    (g.S.Sink.written c.keep_lines.new.out)
    (c.keep_lines.ensures.ended start all (g.S.Sink.written c.args.out.now) (begun_at market now
    c.args.keeping.recovered _ c.as_bytes.result.now _ _ _ here begins told c.in-Ok.ensures.whole
    (c.as_bytes.ensures.value ∙ c.deref.ensures.0 ∙ c.print_head.ensures market here)))

pub returns-in-Ok-clause-done : goal.returns-in-Ok-clause-done
returns-in-Ok-clause-done g c = λ done market all here told begins.
    let now = c.args.market.now in
    let start = started market now.standing c.args.keeping.recovered in
    whole_when_done c.keep_lines.result start c.keep_lines.new.market.standing all
    (g.I.Inputs.commands c.keep_lines.new.inputs) (g.S.Sink.written c.args.out.now)
    (g.S.Sink.written c.keep_lines.new.out) done
    (c.keep_lines.ensures.ended start all (g.S.Sink.written c.args.out.now) (begun_at market now
    c.args.keeping.recovered _ c.as_bytes.result.now _ _ _ here begins told c.in-Ok.ensures.whole
    (c.as_bytes.ensures.value ∙ c.deref.ensures.0 ∙ c.print_head.ensures market here)))

pub returns-in-Ok-clause-left : goal.returns-in-Ok-clause-left
returns-in-Ok-clause-left g c = λ market all name bytes kept here told begins held.
    let now = c.args.market.now in
    let start = started market now.standing c.args.keeping.recovered in
    c.keep_lines.ensures.left start all name bytes (g.S.Sink.written c.args.out.now) kept
    (begun_at market now c.args.keeping.recovered _ c.as_bytes.result.now _ _ _ here begins told
    c.in-Ok.ensures.whole
    (c.as_bytes.ensures.value ∙ c.deref.ensures.0 ∙ c.print_head.ensures market here))
    (subst (λ k. g.J.Keeper.holds k c.args.disk.now name bytes kept [])
    (sym c.new-conversation.ensures.keeper) held)

pub returns-clause-served : goal.returns-clause-served
returns-clause-served g c = λ market all here told begins.
    let now = c.args.market.now in
    broken_at_head (started market now.standing c.args.keeping.recovered) begins all
    (g.I.Inputs.commands c.args.inputs.now) (g.S.Sink.written c.args.out.now)
    (g.S.Sink.written c.write_all.new.out) told
    (subst (AddsFront (g.S.Sink.written c.args.out.now) (g.S.Sink.written c.write_all.new.out))
    (c.as_bytes.ensures.value ∙ c.deref.ensures.0 ∙ c.print_head.ensures market here)
    c.in-Err.ensures.front)

pub returns-clause-left : goal.returns-clause-left
returns-clause-left g c = λ market all name bytes kept here told begins held.
    let now = c.args.market.now in
    left_at_head (started market now.standing c.args.keeping.recovered) all
    (g.S.Sink.written c.args.out.now) (g.S.Sink.written c.write_all.new.out) kept
    (LeavesSince (g.J.Keeper.leaves c.args.disk.now name bytes)
    (g.J.Keeper.passes c.args.disk.now c.args.disk.now name bytes) (length kept))
    (subst (AddsFront (g.S.Sink.written c.args.out.now) (g.S.Sink.written c.write_all.new.out))
    (c.as_bytes.ensures.value ∙ c.deref.ensures.0 ∙ c.print_head.ensures market here)
    c.in-Err.ensures.front)
    (record {
      now = g.met.J.Keeper.held_is_left c.args.keeping.keeper c.args.disk.now name bytes kept []
          held;
      any_moment = g.met.J.Keeper.held_passes c.args.keeping.keeper c.args.disk.now name bytes kept
          [] held;
    })
