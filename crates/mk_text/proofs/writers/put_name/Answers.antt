use Rattle.mk_text.proofs.NumberLemmas.{name_is_text}
use Rattle.mk_text.proofs.writers.put_name.Goals as goal

pub unreachable-requires : goal.unreachable-requires
unreachable-requires g c = c.in-Err.ensures.cases.0 (rw c.bytes.ensures.same (name_is_text c.args.name.now c.bytes.ensures.name))
