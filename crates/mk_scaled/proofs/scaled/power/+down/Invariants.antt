use Rattle.mk_scaled.proofs.scaled.power.+down.Given as goal

abbrev pub decreases-down : goal.decreases-down
decreases-down l = l.n
