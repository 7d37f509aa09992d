use Rattle.daggre.proofs.Stating.{IsStated}
use Rattle.daggre.proofs.last_line.put_state.Given as goal

abbrev pub invariant-loop-place : goal.invariant-loop-place
invariant-loop-place l = IsStated l.net l.values l.place l.fn.line.bytes l.line.bytes
