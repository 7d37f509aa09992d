use Rattle.std.proofs.Common.{arith}
use Rattle.mk_io.proofs.Front.{settles_without, settles_same}
use Rattle.mk_io.proofs.text.Text.settle.Goals as goal
use Rattle.mk_io.proofs.text.Text.settle.Goals.{else-self-gt0-via-then-self-gt0+else-self-eq13, else-self-gt0-via-else-self-gt0}

pub returns-then-self-eq13 : goal.returns-then-self-eq13
returns-then-self-eq13 c =
    settles_without 1024 _ _ _ c.self.view_is c.if-self-gt0.true c.if-self-gt-MAX_LINE_BYTES.false (omega arith) c.if-self-eq13.true

pub returns-else-self-gt0 : goal.returns-else-self-gt0
returns-else-self-gt0 c =
    elim c.else-self-gt0.branch [
      | else-self-gt0-via-then-self-gt0+else-self-eq13 w ↦ settles_same 1024 _ _ _ c.self.view_is c.if-self-gt-MAX_LINE_BYTES.false (omega arith) (λ _. w.if-self-eq13.false)
      | else-self-gt0-via-else-self-gt0 w ↦ settles_same 1024 _ _ _ c.self.view_is c.if-self-gt-MAX_LINE_BYTES.false (omega arith) (λ some _. absurd (omega arith))
    ]
