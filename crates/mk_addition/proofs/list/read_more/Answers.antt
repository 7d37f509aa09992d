use Rattle.std.proofs.Common.{◌≡◌, ◌-◌, ◌+◌, [], ◌∷◌, arith, sym, ◌∙◌, length-append, refl}
use Rattle.mk_text.proofs.ReadingLaws.{items_none_more, items_read, items_stuck, items_all}
use Rattle.mk_text.proofs.Rests.{rest_of_rest}
use Rattle.mk_addition.specs.Reading.{more}
use Rattle.mk_addition.proofs.list.read_more.Goals as goal

pub returns-then-not-skip-clause-found : goal.returns-then-not-skip-clause-found
unfolding more
returns-then-not-skip-clause-found g c =
    let none = items_none_more c.args.separator.now g.T.Readable.reads
    (g.row.N - c.things.counter) c.things.list.items c.things.reader
    c.if-not-skip.ensures.passed in
    rw (c.if-not-skip.ensures.kept refl) (sym c.things.invariant.left ∙ none)

pub returns-in_err-next-clause-found : goal.returns-in_err-next-clause-found
unfolding more
returns-in_err-next-clause-found g c =
    let stuck = items_stuck c.args.separator.now g.T.Readable.reads
    (g.row.N - c.things.counter) c.things.list.items c.things.reader c.skip.new.self
    (omega arith) c.if-not-skip.ensures.passed c.in_err-next.ensures.found in
    rw c.from_residual.ensures (sym c.things.invariant.left ∙ stuck)

pub things-preserved : goal.things-preserved
things-preserved g c =
    let loop = c.things in
    let read = items_read c.args.separator.now g.T.Readable.reads (g.row.N - loop.counter)
    loop.list.items loop.reader c.skip.new.self c.next.new.reader c.in_ok-next.field-0
    (omega arith) c.if-not-skip.ensures.passed c.in_ok-next.ensures.found in
    let fewer : g.row.N - (loop.counter + 1) ≡ g.row.N - loop.counter - 1 = omega arith in record {
      few = rw c.push.ensures.items
          (omega (arith, length-append loop.list.items (c.in_ok-next.field-0 ∷ [])));
      left = rw (fewer, c.push.ensures.items) (sym read ∙ loop.invariant.left);
      rest = rest_of_rest c.args.reader.now loop.reader c.next.new.reader loop.invariant.rest
          (rest_of_rest loop.reader c.skip.new.self c.next.new.reader c.skip.ensures.rest
          c.next.ensures.rest);
    }

pub returns-clause-found : goal.returns-clause-found
unfolding more
returns-clause-found g c =
    sym c.things.invariant.left ∙ items_all c.args.separator.now g.T.Readable.reads
    (g.row.N - c.things.counter) c.things.list.items c.things.reader (omega arith)
