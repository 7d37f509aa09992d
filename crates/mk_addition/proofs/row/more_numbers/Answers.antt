use Rattle.std.proofs.Common.{◌≡◌, ◌-◌, ◌+◌, [], ◌∷◌, codes, arith, sym, ◌∙◌, length-append}
use Rattle.std.proofs.Common.{inl, inr, refl}
use Rattle.mk_text.specs.Reading.{read_short}
use Rattle.mk_text.proofs.ReadingLaws.{items_over, items_halted, items_next, items_full}
use Rattle.mk_text.proofs.Rests.{rest_of_rest}
use Rattle.mk_addition.specs.Reading.{more, before_clique}
use Rattle.mk_addition.proofs.row.more_numbers.Goals as goal
use Rattle.mk_addition.proofs.row.more_numbers.Goals.{
  then-is_before-via-then-is_before,
  then-is_before-via-else-is_before+then-not-skip,
}

pub returns-then-is_before-clause-found : goal.returns-then-is_before-clause-found
unfolding more
returns-then-is_before-clause-found c =
    let loop = c.numbers in
    let over = items_over read_short before_clique (codes " ") (16 - loop.counter) loop.row
    loop.reader in
    elim c.then-is_before.branch [
      | then-is_before-via-then-is_before w ↦
          let stopped = inl (sym c.is_before.ensures ∙ w.if-is_before.true) in
          rw w.reader-is (sym loop.invariant.left ∙ over stopped)
      | then-is_before-via-else-is_before+then-not-skip w ↦
          rw (w.reader-is, w.if-not-skip.ensures.kept refl)
          (sym loop.invariant.left ∙ over (inr w.if-not-skip.ensures.passed))
    ]

pub returns-in_err-next-clause-found : goal.returns-in_err-next-clause-found
unfolding more
returns-in_err-next-clause-found c =
    let halted = items_halted read_short before_clique (codes " ") (16 - c.numbers.counter)
    c.numbers.row c.numbers.reader c.skip.new.self (omega arith) (sym c.if-is_before.ensures)
    c.if-not-skip.ensures.passed c.in_err-next.ensures.found in
    rw c.from_residual.ensures (sym c.numbers.invariant.left ∙ halted)

pub numbers-preserved : goal.numbers-preserved
numbers-preserved c =
    let loop = c.numbers in
    let next = items_next read_short before_clique (codes " ") (16 - loop.counter) loop.row
    loop.reader c.skip.new.self c.next.new.reader c.in_ok-next.field-0 (omega arith)
    (sym c.if-is_before.ensures) c.if-not-skip.ensures.passed c.in_ok-next.ensures.found in
    let fewer : 16 - (loop.counter + 1) ≡ 16 - loop.counter - 1 = omega arith in record {
      few = rw c.in_ok-row.ensures.longer
          (omega (arith, length-append loop.row (c.in_ok-next.field-0 ∷ [])));
      left = rw (fewer, c.in_ok-row.ensures.longer) (sym next ∙ loop.invariant.left);
      rest = rest_of_rest c.args.reader.now loop.reader c.next.new.reader loop.invariant.rest
          (rest_of_rest loop.reader c.skip.new.self c.next.new.reader c.skip.ensures.rest
          c.next.ensures.rest);
    }

pub returns-clause-found : goal.returns-clause-found
unfolding more
returns-clause-found c =
    sym c.numbers.invariant.left ∙ items_full read_short before_clique (codes " ")
    (16 - c.numbers.counter) c.numbers.row c.numbers.reader (omega arith)
