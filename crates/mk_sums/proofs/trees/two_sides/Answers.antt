use Rattle.mk_sums.proofs.Hops.{are_linked, side}
use Rattle.mk_sums.proofs.trees.two_sides.Goals as goal

pub returns : goal.returns
returns c = λ link m links a b j h p q. side link m a b j links (are_linked link m a b h) p q
