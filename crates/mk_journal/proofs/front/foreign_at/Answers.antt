use Rattle.std.proofs.Common.{◌≡◌, ◌+◌, None, sym, ◌∙◌, arith}
use Rattle.mk_journal.specs.Store.{foreign_from}
use Rattle.mk_journal.proofs.Parsing.{missing, differs, ended, not_foreign}
use Rattle.mk_journal.proofs.front.foreign_at.Goals as goal
use Rattle.mk_journal.proofs.front.foreign_at.Goals.{then-i-bytes-via-then-i-bytes, then-i-bytes-via-else-i-bytes+then-bytes-i}

pub returns-then-i-bytes-clause-value : goal.returns-then-i-bytes-clause-value
returns-then-i-bytes-clause-value c =
    let i = c.loop-i.i in
    elim c.then-i-bytes.branch [
      | then-i-bytes-via-then-i-bytes w ↦ sym (missing (i + 1) i c.args.head.now c.args.bytes.now c.loop-i-test.true w.if-i-bytes.true) ∙ c.loop-i.invariant.same
      | then-i-bytes-via-else-i-bytes+then-bytes-i w ↦ sym (differs (i + 1) i c.args.head.now c.args.bytes.now c.loop-i-test.true w.if-i-bytes.false (λ same. w.if-bytes-i.true (sym same))) ∙ c.loop-i.invariant.same
    ]

pub returns-clause-value : goal.returns-clause-value
returns-clause-value c =
    let i = c.loop-i.i in
    sym (ended (i + 1) i c.args.head.now c.args.bytes.now c.loop-i-test.false (omega arith)) ∙ c.loop-i.invariant.same

pub returns-clause-same : goal.returns-clause-same
returns-clause-same c =
    let i = c.loop-i.i in
    let none : foreign_from 1 c.args.head.now c.args.bytes.now ≡ None = sym c.loop-i.invariant.same ∙ ended (i + 1) i c.args.head.now c.args.bytes.now c.loop-i-test.false (omega arith) in
    (not_foreign 1 c.args.head.now c.args.bytes.now none).0
