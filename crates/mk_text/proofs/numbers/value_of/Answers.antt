use Rattle.std.proofs.lemmas.Fmt.{IsAscii-from_digits}
use Rattle.std.proofs.lemmas.Str.{IsUtf8-from_ascii}
use Rattle.mk_text.proofs.numbers.value_of.Goals as goal

pub returns-in-Err : goal.returns-in-Err
returns-in-Err c numeral below = absurd (c.in-Err.ensures.cases.0 (IsUtf8-from_ascii c.args.word.now (IsAscii-from_digits c.args.word.now (numeral.1))))
