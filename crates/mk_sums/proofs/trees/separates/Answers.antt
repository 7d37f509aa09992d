use Rattle.mk_sums.proofs.Sides as sides
use Rattle.mk_sums.proofs.trees.separates.Goals as goal

pub returns : goal.returns
returns c = λ link m clique links running a b h x p q. sides.separates link m clique links running a b h x p q
