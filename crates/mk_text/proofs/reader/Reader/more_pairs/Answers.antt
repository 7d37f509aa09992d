use Rattle.std.proofs.Common.{◌≡◌, ◌-◌, [], ◌∷◌, ◌+◌, codes, arith, sym, ◌∙◌, length-append, refl}
use Rattle.mk_text.proofs.ReadingLaws.{items_none_more, items_read, items_stuck, items_all}
use Rattle.mk_text.specs.Reading.{more_pairs, read_pair}
use Rattle.mk_text.proofs.Rests.{rest_of_rest}
use Rattle.mk_text.proofs.reader.Reader.more_pairs.Goals as goal

pub returns-then-not-skip-clause-found : goal.returns-then-not-skip-clause-found
unfolding more_pairs
returns-then-not-skip-clause-found c =
    let none = items_none_more (codes ", ") read_pair (7 - c.pairs.counter) c.pairs.pairs.items c.pairs.self c.if-not-skip.ensures.passed in
    rw (c.if-not-skip.ensures.kept refl) (sym c.pairs.invariant.left ∙ none)

pub returns-in_err-pair-clause-found : goal.returns-in_err-pair-clause-found
unfolding more_pairs
returns-in_err-pair-clause-found c =
    let stuck = items_stuck (codes ", ") read_pair (7 - c.pairs.counter) c.pairs.pairs.items c.pairs.self c.skip.new.self (omega arith) c.if-not-skip.ensures.passed c.in_err-pair.ensures.found in
    rw c.from_residual.ensures (sym c.pairs.invariant.left ∙ stuck)

pub pairs-preserved : goal.pairs-preserved
pairs-preserved c =
    let read = items_read (codes ", ") read_pair (7 - c.pairs.counter) c.pairs.pairs.items c.pairs.self c.skip.new.self c.pair.new.self c.in_ok-pair.field-0 (omega arith) c.if-not-skip.ensures.passed c.in_ok-pair.ensures.found in
    let fewer : 7 - (c.pairs.counter + 1) ≡ 7 - c.pairs.counter - 1 = omega arith in record {
      few = rw c.push.ensures.items (omega (arith, length-append c.pairs.pairs.items (c.in_ok-pair.field-0 ∷ [])));
      rest = rest_of_rest c.args.self.now c.pairs.self c.pair.new.self c.pairs.invariant.rest (rest_of_rest c.pairs.self c.skip.new.self c.pair.new.self c.skip.ensures.rest c.pair.ensures.rest);
      left = rw (fewer, c.push.ensures.items) (sym read ∙ c.pairs.invariant.left);
    }

pub returns-clause-found : goal.returns-clause-found
unfolding more_pairs
returns-clause-found c = sym c.pairs.invariant.left ∙ items_all (codes ", ") read_pair (7 - c.pairs.counter) c.pairs.pairs.items c.pairs.self (omega arith)
