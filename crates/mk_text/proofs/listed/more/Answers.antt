use Rattle.std.proofs.Common.{◌≡◌, ◌-◌, ◌+◌, [], ◌∷◌, codes, arith, sym, ◌∙◌, length-append, inl, inr, refl}
use Rattle.mk_text.proofs.ReadingLaws.{items_over, items_halted, items_next, items_full}
use Rattle.mk_text.specs.Reading.{more_spaced, before_revision}
use Rattle.mk_text.proofs.Rests.{rest_of_rest}
use Rattle.mk_text.proofs.listed.more.Goals as goal
use Rattle.mk_text.proofs.listed.more.Goals.{then-is_before-via-then-is_before, then-is_before-via-else-is_before+then-not-skip}

pub returns-then-is_before-clause-found : goal.returns-then-is_before-clause-found
unfolding more_spaced
returns-then-is_before-clause-found g c =
    let read = g.T.Item.reads in
    elim c.then-is_before.branch [
      | then-is_before-via-then-is_before w ↦
          rw w.reader-is (sym c.items.invariant.left ∙ items_over read before_revision (codes " ") (15 - c.items.counter) c.items.items.items c.items.reader
          (inl (sym c.is_before.ensures ∙ w.if-is_before.true)))
      | then-is_before-via-else-is_before+then-not-skip w ↦
          rw (w.reader-is, w.if-not-skip.ensures.kept refl) (sym c.items.invariant.left ∙ items_over read before_revision (codes " ") (15 - c.items.counter) c.items.items.items c.items.reader
          (inr w.if-not-skip.ensures.passed))
    ]

pub returns-in_err-next-clause-found : goal.returns-in_err-next-clause-found
unfolding more_spaced
returns-in_err-next-clause-found g c =
    let halted = items_halted g.T.Item.reads before_revision (codes " ") (15 - c.items.counter) c.items.items.items c.items.reader c.skip.new.self (omega arith)
    (sym c.if-is_before.ensures) c.if-not-skip.ensures.passed c.in_err-next.ensures.found in
    rw c.from_residual.ensures (sym c.items.invariant.left ∙ halted)

pub items-preserved : goal.items-preserved
items-preserved g c =
    let next = items_next g.T.Item.reads before_revision (codes " ") (15 - c.items.counter) c.items.items.items c.items.reader c.skip.new.self c.next.new.reader c.in_ok-next.field-0 (omega arith)
    (sym c.if-is_before.ensures) c.if-not-skip.ensures.passed c.in_ok-next.ensures.found in
    let fewer : 15 - (c.items.counter + 1) ≡ 15 - c.items.counter - 1 = omega arith in record {
      few = rw c.push.ensures.items (omega (arith, length-append c.items.items.items (c.in_ok-next.field-0 ∷ [])));
      left = rw (fewer, c.push.ensures.items) (sym next ∙ c.items.invariant.left);
      rest = rest_of_rest c.args.reader.now c.items.reader c.next.new.reader c.items.invariant.rest (rest_of_rest c.items.reader c.skip.new.self c.next.new.reader c.skip.ensures.rest c.next.ensures.rest);
    }

pub returns-clause-found : goal.returns-clause-found
unfolding more_spaced
returns-clause-found g c =
    sym c.items.invariant.left ∙ items_full g.T.Item.reads before_revision (codes " ") (15 - c.items.counter) c.items.items.items c.items.reader (omega arith)
