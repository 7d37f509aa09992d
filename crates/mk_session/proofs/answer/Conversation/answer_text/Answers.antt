use Rattle.std.proofs.Common.{◌≡◌, ◌==◌, ℕ, List, [], ◌∷◌, true, refl, sym, ap, subst, ◌∙◌}
use Rattle.std.proofs.Common.{inl, OnOk}
use Rattle.std.proofs.lemmas.List.{append-nil}
use Rattle.arrayvec.specs.ArrayString.{ArrayString}
use Rattle.mk_session.specs.Left.{LeavesSince}
use Rattle.mk_session.specs.inner.Keeping.{HoldsSince}
use Rattle.mk_session.specs.inner.Progress.{Gathers}
use Rattle.mk_session.proofs.Spoken.{blank_spoken, text_tells, untaken}
use Rattle.std.specs.List.{list_all}
use Rattle.mk_io.specs.Stream.{text}
use Rattle.mk_session.specs.Transcript.{AreAnswered}
use Rattle.mk_session.proofs.Answering.{blank_answered}
use Rattle.mk_session.proofs.Gathering.{gathers_none, gathered_when_said}
use Rattle.mk_session.proofs.answer.Conversation.answer_text.Goals as goal

pub returns-then-is_blank-clause-answered : goal.returns-then-is_blank-clause-answered
returns-then-is_blank-clause-answered g c = λ start here.
    let m = c.args.market.now in
    let line = c.args.self.now.lines.line in
    let blank : list_all (λ b. b == 32) line ≡ true = ap (λ (l : List ℕ). list_all (λ b. b == 32) l)
    (sym c.line.ensures) ∙ sym c.is_blank.ensures ∙ c.if-is_blank.true in
    record {
      output = [];
      answered = λ sound. blank_answered start m.standing (text line) (rw blank refl);
      gathers = gathers_none (g.S.Sink.written c.args.out.now) c.args.self.now.waiting.bytes;
    }

pub returns-in-Ok-clause-answered : goal.returns-in-Ok-clause-answered
returns-in-Ok-clause-answered g c = λ start here.
    let m = c.args.market.now in
    let line = c.args.self.now.lines.line in
    gathered_when_said c.put_line.result start m.standing (text line ∷ [])
    c.make_answer.new.market.standing c.as_str-line.result.now _ _ _ _
    (λ sound. subst (AreAnswered start m.standing (text line ∷ [])
    c.make_answer.new.market.standing) (sym c.as_str-line.ensures.value)
    (c.in-Ok.ensures.answered start here sound))
    (subst (λ (w : ArrayString). OnOk c.put_line.result (Gathers (g.S.Sink.written c.args.out.now)
    (g.S.Sink.written c.put_line.new.out) w.bytes c.as_str-line.result.now
    c.put_line.new.waiting.bytes)) c.in-Ok.ensures.waiting c.put_line.ensures.gathers)

pub returns-then-is_blank-clause-tells : goal.returns-then-is_blank-clause-tells
returns-then-is_blank-clause-tells g c = λ start here begun name bytes first least all held.
    let m = c.args.market.now in
    let line = c.args.self.now.lines.line in
    let blank : list_all (λ b. b == 32) line ≡ true = ap (λ (l : List ℕ). list_all (λ b. b == 32) l)
    (sym c.line.ensures) ∙ sym c.is_blank.ensures ∙ c.if-is_blank.true in
    blank_spoken start m.standing (text line) (rw blank refl) _
    (inl (
      refl,
      sym (append-nil c.args.self.now.waiting.bytes),
      subst (λ (l : List (List ℕ)). HoldsSince (g.J.Keeper.holds c.args.self.now.keeper
          c.args.disk.now name bytes) (g.J.Keeper.passes begun c.args.disk.now name bytes) first
          least l) (sym (append-nil all)) held,
    ))

pub returns-in-Ok-clause-tells : goal.returns-in-Ok-clause-tells
returns-in-Ok-clause-tells g c = λ start here begun name bytes first least all held.
    text_tells c.put_line.result start (g.S.Sink.written c.args.out.now)
    (g.S.Sink.written c.put_line.new.out) c.args.self.now.waiting.bytes
    c.put_line.new.waiting.bytes least all
    (HoldsSince (g.J.Keeper.holds c.put_line.new.keeper c.put_line.new.disk name bytes)
    (g.J.Keeper.passes begun c.put_line.new.disk name bytes) first)
    (LeavesSince (g.J.Keeper.leaves c.put_line.new.disk name bytes)
    (g.J.Keeper.passes begun c.put_line.new.disk name bytes) first)
    c.args.market.now.standing c.make_answer.new.market.standing
    (text c.args.self.now.lines.line ∷ []) c.make_answer.new.self.line.bytes
    c.as_str-line.result.now c.make_answer.new.self.waiting.bytes
    (HoldsSince (g.J.Keeper.holds c.make_answer.new.self.keeper c.make_answer.new.disk name bytes)
    (g.J.Keeper.passes begun c.make_answer.new.disk name bytes) first least)
    c.as_str-line.ensures.value
    (ap (λ (w : ArrayString). w.bytes) c.in-Ok.ensures.waiting)
    (λ all is. c.put_line.ensures.tells begun name bytes first least all is)
    (c.in-Ok.ensures.spoken start here begun name bytes first least all held)

pub returns-in-Err-clause-tells : goal.returns-in-Err-clause-tells
returns-in-Err-clause-tells g c = λ start here begun name bytes first least all held.
    untaken start c.args.market.now.standing
    c.make_answer.new.market.standing (text c.args.self.now.lines.line ∷ [])
    (g.S.Sink.written c.args.out.now) c.args.self.now.waiting.bytes
    c.make_answer.new.self.waiting.bytes c.make_answer.new.self.line.bytes least all
    (HoldsSince (g.J.Keeper.holds c.make_answer.new.self.keeper c.make_answer.new.disk name
    bytes) (g.J.Keeper.passes begun c.make_answer.new.disk name bytes) first)
    (LeavesSince (g.J.Keeper.leaves c.make_answer.new.disk name bytes)
    (g.J.Keeper.passes begun c.make_answer.new.disk name bytes) first)
    (c.in-Err.ensures.spoken start here begun name bytes first least all held)
