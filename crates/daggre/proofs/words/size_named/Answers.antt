use Rattle.std.proofs.Common.{sym, arith, rules}
use Rattle.daggre.proofs.SampleSizes.{no_size, size_is}
use Rattle.daggre.proofs.words.size_named.Goals as goal

pub returns-clause-size : goal.returns-clause-size
returns-clause-size c =
    sym (no_size c.args.word.now (λ k from below. c.loop-size.invariant k from
    (omega (arith, below))))

pub returns-then-is_number-clause-size : goal.returns-then-is_number-clause-size
returns-then-is_number-clause-size c =
    sym (size_is c.args.word.now c.loop-size.size (search (rules, arith)) (search (rules, arith))
    (sym c.if-is_number.ensures) c.loop-size.invariant)
