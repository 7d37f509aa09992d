use Rattle.std.proofs.Common.{◌≡◌, List, ◌++◌, length, refl, ap, ◌∙◌, MatchResult, true}
use Rattle.arrayvec.specs.ArrayString.{ArrayString}
use Rattle.mk_io.specs.Stream.{text, is_not_blank}
use Rattle.mk_exact.specs.History.{Entry}
use Rattle.mk_exact.specs.Market.{present}
use Rattle.mk_restore.specs.Restoring.{change_of}
use Rattle.mk_session.specs.Left.{records_of, LeavesSince}
use Rattle.mk_session.specs.inner.Keeping.{IsSpoken, HoldsSince}
use Rattle.mk_session.proofs.Spoken.{answered_when_spoken, one_spoken, spoken_as, made_when_spoken}
use Rattle.mk_session.proofs.answer.Conversation.make_answer.Goals as goal

pub returns-clause-answered : goal.returns-clause-answered
returns-clause-answered g c = λ start here.
    let line = c.args.self.now.lines.line in
    let busy : is_not_blank (text line) ≡ true = rw c.requires.busy refl in
    answered_when_spoken start c.args.market.now.standing (text line)
    c.print_answer.new.market.standing c.keep_change.new.self.line.bytes busy
    (spoken_as start _ _ line _ _ _ c.line.ensures
    (ap (λ (w : ArrayString). w.bytes) c.keep_change.ensures.line)
    (c.print_answer.ensures.spoken start here))

pub returns-clause-spoken : goal.returns-clause-spoken
returns-clause-spoken g c = λ start here begun name bytes first least all held.
    let m = c.args.market.now in
    let line = c.args.self.now.lines.line in
    let new = c.print_answer.new.market.standing in
    let output = c.keep_change.new.self.line.bytes in
    let busy : is_not_blank (text line) ≡ true = rw c.requires.busy refl in
    let same : output ≡ c.print_answer.new.print.bytes =
    ap (λ (w : ArrayString). w.bytes) c.keep_change.ensures.line in
    let spoken : IsSpoken start m.standing (text line) new output =
    spoken_as start _ _ line _ _ _ c.line.ensures same (c.print_answer.ensures.spoken start here) in
    let was : c.length-before.result ≡ length m.standing.history =
    c.length-before.ensures ∙ ap (λ (l : List Entry). length l) c.history.ensures.same in
    let holds = g.J.Keeper.holds c.keep_change.new.self.keeper c.keep_change.new.disk name bytes in
    let leaves = g.J.Keeper.leaves c.keep_change.new.disk name bytes in
    let passes = g.J.Keeper.passes begun c.keep_change.new.disk name bytes in
    let changes = change_of (present start m.standing.history) m.standing.history spoken.asked
    spoken.reply in
    one_spoken start m.standing (text line) new output busy spoken
    (λ text records. (output ≡ text) × MatchResult c.keep_change.result
    (λ _. HoldsSince holds passes first least (all ++ records))
    (λ _. LeavesSince leaves passes first (all ++ records) least)) (
      refl,
      c.keep_change.ensures.taken begun name bytes first least all (records_of changes) held
          (made_when_spoken start m.standing line new c.print_answer.new.print.bytes output
          c.length-before.result was same spoken),
    )
