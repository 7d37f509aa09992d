use Rattle.std.proofs.Common.{arith, rules}
use Rattle.mk_text.proofs.WordLemmas.{word_ends}
use Rattle.mk_text.proofs.words.word_len.Goals as goal

pub returns-then-not-is_word_byte-clause-size : goal.returns-then-not-is_word_byte-clause-size
returns-then-not-is_word_byte-clause-size c = word_ends c.args.bytes.now _ (omega arith) c.loop-i.invariant (λ _. search rules)

pub returns-clause-size : goal.returns-clause-size
returns-clause-size c = word_ends c.args.bytes.now _ (omega arith) (search rules) (λ h. absurd (omega arith))
