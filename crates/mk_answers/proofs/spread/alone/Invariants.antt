use Rattle.std.proofs.Common.{◌≡◌, drop}
use Rattle.mk_answers.specs.inner.Alone.{alone_in}
use Rattle.mk_answers.proofs.Alone.{alone_after}
use Rattle.mk_answers.proofs.spread.alone.Given as goal

abbrev pub invariant-loop-place : goal.invariant-loop-place
invariant-loop-place l = record { so_far : alone_after l.found l.place (drop l.place l.parts) ≡ alone_in l.parts }
