use Rattle.std.proofs.Common.{rules}
use Rattle.std.proofs.lemmas.Fmt.{length-decimal-le}
use Rattle.mk_text.proofs.writers.put_short.Goals as goal

pub push_str-requires : goal.push_str-requires
push_str-requires g c = search (rules, length-decimal-le 9)

pub returns-clause-growth : goal.returns-clause-growth
returns-clause-growth g c = search (rules, length-decimal-le 9)
