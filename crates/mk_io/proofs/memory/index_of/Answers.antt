use Rattle.std.proofs.Common.{sym, ◌∙◌, ap}
use Rattle.std.specs.Prelude.{bytes_eq}
use Rattle.mk_io.proofs.InMemory.{file_found}
use Rattle.mk_io.proofs.memory.index_of.Goals as goal

pub returns-then-eq : goal.returns-then-eq
returns-then-eq c =
    let same = ap (λ bytes. bytes_eq bytes c.args.name.now) (sym c.as_str.ensures.value) ∙ sym c.if-eq.ensures in
    (c.loop-index-test.true, file_found _ _ _ _ c.loop-index.invariant c.loop-index-test.true c.index-files-index.is same)
