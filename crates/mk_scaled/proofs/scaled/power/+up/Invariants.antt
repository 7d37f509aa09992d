use Rattle.mk_scaled.proofs.scaled.power.+up.Given as goal

abbrev pub decreases-up : goal.decreases-up
decreases-up l = l.n
