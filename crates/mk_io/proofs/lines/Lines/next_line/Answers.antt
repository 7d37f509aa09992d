use Rattle.std.proofs.Common.{refl, ap, arith}
use Rattle.mk_io.specs.Cutting.{Cutting}
use Rattle.mk_io.proofs.Answered.{gives_whole, gives_last, stops_full}
use Rattle.mk_io.proofs.lines.Lines.next_line.Goals as goal

pub returns-in-Full-clause-answer : goal.returns-in-Full-clause-answer
returns-in-Full-clause-answer g c =
    let old : Cutting = record {
      left = c.self.inside.pending;
      line = c.self.inside.text;
      given = c.self.inside.given;
      spent = c.self.inside.spent;
      last = c.self.inside.last;
    } in
    rw (c.stop-in-Full.ensures.answer, ← c.self.view_is) (stops_full old c.stop-in-Full.new.self _ _ _ _ _ _ c.in-Full.ensures.cut (omega (arith, c.self.invariant.1)) (ap (λ (x : Cutting). x.last) c.stop-in-Full.ensures.stays) (ap (λ (x : Cutting). x.line) c.stop-in-Full.ensures.stays))

pub returns-in-Whole-clause-answer : goal.returns-in-Whole-clause-answer
returns-in-Whole-clause-answer g c =
    rw (← c.self.view_is) (gives_whole _ _ _ _ _ _ _ _ c.in-Whole.ensures.cut c.give.ensures.settled refl refl)

pub returns-in-Last-clause-answer : goal.returns-in-Last-clause-answer
returns-in-Last-clause-answer g c =
    let there = rw (← c.self.view_is) at c.requires.there in
    rw (← c.self.view_is) (gives_last _ _ _ _ _ _ _ _ c.in-Last.ensures.cut c.give-in-Last.ensures.settled refl refl there)
