use Rattle.std.proofs.Common.{◌∷◌, [], arith, refl}
use Rattle.mk_io.specs.Stream.{text, long}
use Rattle.mk_io.specs.declared.lines.Next.TheVariants.{Line, Long}
use Rattle.mk_reply.specs.declared.reply.Reply.TheVariants.{Refused}
use Rattle.mk_reply.specs.declared.refusal.Refusal.TheVariants.{Long as TooLong}
use Rattle.mk_rules.specs.Transcript.{LongLine}
use Rattle.mk_session.specs.Texts.{reply_line}
use Rattle.mk_session.specs.Left.{LeavesSince}
use Rattle.mk_session.specs.inner.Keeping.{HoldsSince}
use Rattle.mk_session.proofs.Answering.{one_replied, one_answered}
use Rattle.mk_session.proofs.Endings.{going_answer, steady}
use Rattle.mk_session.proofs.Gathering.{gathered_when_said}
use Rattle.mk_session.proofs.Spoken.{long_tells, left_as_held}
use Rattle.mk_session.proofs.Turns.{turn_after, turn_over, ready_more}
use Rattle.mk_session.proofs.answer.Conversation.answer_next.Goals as goal

pub returns-in-Line-clause-turn : goal.returns-in-Line-clause-turn
returns-in-Line-clause-turn g c =
    let going = going_answer Line c.args.self.now.lines c.next.new.self
    (g.I.Inputs.commands c.args.inputs.now) (g.I.Inputs.commands c.next.new.inputs) (λ e. (cc))
    c.requires.goes_on c.in-Line.ensures.answer in
    turn_after _ _ _ _ _ _ _ _ c.answer_text.result c.end_after.result (text c.next.new.self.line)
    c.next.new.self c.end_after.ensures c.answer_text.ensures.lines going.0 c.next.ensures.within
    going.1 (steady Line c.args.self.now.lines (g.I.Inputs.faults c.args.inputs.now)
    (g.I.Inputs.faults c.next.new.inputs) (λ e. (cc)) c.in-Line.ensures.cause)
    c.answer_text.ensures.ready c.answer_text.ensures.cause c.answer_text.ensures.answered
    c.answer_text.ensures.front c.answer_text.ensures.tells

pub returns-in-Long-clause-turn : goal.returns-in-Long-clause-turn
returns-in-Long-clause-turn g c =
    let now = c.args.market.now.standing in
    let told = c.say.ensures.told in
    let going = going_answer Long c.args.self.now.lines c.next.new.self
    (g.I.Inputs.commands c.args.inputs.now) (g.I.Inputs.commands c.next.new.inputs) (λ e. (cc))
    c.requires.goes_on c.in-Long.ensures.answer in
    turn_after _ _ _ _ _ _ _ _ c.say.result c.end_after-in-Long.result long c.next.new.self
    c.end_after-in-Long.ensures c.say.ensures.lines going.0 c.next.ensures.within
    going.1.0 (steady Long c.args.self.now.lines (g.I.Inputs.faults c.args.inputs.now)
    (g.I.Inputs.faults c.next.new.inputs) (λ e. (cc)) c.in-Long.ensures.cause)
    (λ n few is. ready_more c.say.result (g.J.Keeper.is_ready c.say.new.self.keeper c.say.new.disk)
    (g.met.J.Keeper.ready_after c.say.new.self.keeper c.say.new.disk) n
    (told.ready n (omega (arith, few)) is))
    told.cause
    (λ file here. gathered_when_said c.say.result file now (long ∷ []) now
    (reply_line (Refused TooLong)) _ _ _ _
    (λ sound. one_answered file now (long ∷ []) now (Refused TooLong)
    (one_replied file now long LongLine (Refused TooLong) refl tt refl)) told.gathers)
    told.front
    (λ file here begun name bytes first least all held.
    long_tells c.say.result file (g.S.Sink.written c.args.out.now)
    (g.S.Sink.written c.say.new.out) c.args.self.now.waiting.bytes c.say.new.self.waiting.bytes
    least all
    (HoldsSince (g.J.Keeper.holds c.say.new.self.keeper c.say.new.disk name bytes)
    (g.J.Keeper.passes begun c.say.new.disk name bytes) first)
    (LeavesSince (g.J.Keeper.leaves c.say.new.disk name bytes)
    (g.J.Keeper.passes begun c.say.new.disk name bytes) first) now
    (told.tells begun name bytes first least all held))

pub returns-in_default-clause-turn : goal.returns-in_default-clause-turn
returns-in_default-clause-turn g c =
    turn_over _ _ c.next.new.self (g.I.Inputs.commands c.next.new.inputs)
    (g.I.Inputs.faults c.next.new.inputs) _ _ _ _ _
    (λ begun name bytes. left_as_held
    (g.J.Keeper.holds c.args.self.now.keeper c.args.disk.now name bytes)
    (g.J.Keeper.leaves c.args.disk.now name bytes)
    (g.J.Keeper.passes begun c.args.disk.now name bytes)
    (g.met.J.Keeper.fewer_are_left c.args.disk.now name bytes)
    (g.met.J.Keeper.held_is_left c.args.self.now.keeper c.args.disk.now name bytes))
    c.requires.goes_on c.requires.none_waits c.next.result c.end_by.result c.end_by.ensures
    c.in_default.not-Line c.in_default.not-Long c.next.ensures.answer c.next.ensures.cause
    c.next.ensures.held
