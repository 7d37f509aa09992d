use Rattle.mk_text.proofs.NumberLemmas.{name_is_text}
use Rattle.mk_addition.proofs.writable.NameWritable.put.Goals as goal

pub unreachable-requires : goal.unreachable-requires
unreachable-requires c =
    let text = name_is_text c.args.self.now c.bytes.ensures.name in
    c.in-Err.ensures.cases.0 (rw c.bytes.ensures.same text)
