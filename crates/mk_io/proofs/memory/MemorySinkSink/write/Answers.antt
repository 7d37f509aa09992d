use Rattle.std.proofs.Common.{ap, sym, Some, length, arith}
use Rattle.std.proofs.lemmas.Bool.{eqb-true}
use Rattle.mk_io.proofs.InMemory.{written_more, same_out}
use Rattle.mk_io.proofs.memory.MemorySinkSink.write.Goals as goal
use Rattle.mk_io.proofs.memory.MemorySinkSink.write.Goals.{else-self-len-via-then-self-len+else-not-is_empty, else-self-len-via-else-self-len}

pub returns-clause-writes : goal.returns-clause-writes
returns-clause-writes c =
    let room = c.self.inside.room in
    let more = written_more room.len c.self.inside.len c.min-count.result room.items c.deref_mut.result.now c.put.new.room c.args.bytes.now c.deref_mut.ensures.value (sym room.ok.0) c.put.auto.room (omega arith) c.put.ensures in
    rw (← c.self.view_is) (record {
      bound = omega arith;
      moves = λ some. elim c.else-self-len.branch [
        | else-self-len-via-then-self-len+else-not-is_empty w ↦ let none = eqb-true (length c.args.bytes.now) 0 (sym w.if-not-is_empty.ensures) in omega arith
        | else-self-len-via-else-self-len w ↦ omega arith
      ];
      added = ap Some more;
      failed = tt;
    })

pub returns-clause-ok : goal.returns-clause-ok
returns-clause-ok c =
    let room = c.self.inside.room in
    let more = written_more room.len c.self.inside.len c.min-count.result room.items c.deref_mut.result.now c.put.new.room c.args.bytes.now c.deref_mut.ensures.value (sym room.ok.0) c.put.auto.room (omega arith) c.put.ensures in
    rw (← c.self.view_is) (same_out _ _ _ _ _ _ more c.begin.ensures.counts)
