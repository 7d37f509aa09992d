use Rattle.mk_passes.specs.inner.Made.{AreMade}
use Rattle.mk_passes.proofs.made.put_made.Given as goal

abbrev pub invariant-loop-place : goal.invariant-loop-place
invariant-loop-place g l = AreMade (g.M.Maker.makes g.R.Semiring.plus_of l.maker) (g.C.Listed.cells l.cells) l.place l.fn.digits l.fn.exponents l.digits l.exponents
