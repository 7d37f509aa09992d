use Rattle.std.proofs.Common.{arith}
use Rattle.std.proofs.lemmas.List.{length-map}
use Rattle.mk_history.specs.inner.Stored.{lists_of}
use Rattle.mk_history.specs.inner.Kept.{entry_kept}
use Rattle.mk_history.specs.inner.Counted.{entries_kept}
use Rattle.mk_history.proofs.Counts.{few_at_all}
use Rattle.mk_history.proofs.history.History.length.Goals as goal

pub overflow_cast-result : goal.overflow_cast-result
overflow_cast-result c =
    let h : _ = c.self.inside in
    omega (
      arith,
      few_at_all (entries_kept (lists_of h) h.changes.items) h.limits c.self.invariant.0.within,
      length-map h.changes.items (entry_kept (lists_of h)),
      h.changes.ok.0,
      c.len.ensures,
    )
