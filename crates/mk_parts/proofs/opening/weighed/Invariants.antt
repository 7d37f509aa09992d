use Rattle.mk_parts.proofs.Openings.{first_rows}
use Rattle.mk_parts.proofs.opening.weighed.Given as goal

abbrev pub invariant-loop-variable : goal.invariant-loop-variable
invariant-loop-variable g l = g.E.Engine.stands_for l.engine (first_rows l.file.net l.file.tree l.variable)
