use Rattle.std.proofs.Common.{length}
use Rattle.mk_net.proofs.naming.+has_double.Given as goal

abbrev pub decreases-has_double : goal.decreases-has_double
decreases-has_double l = length l.texts.now
