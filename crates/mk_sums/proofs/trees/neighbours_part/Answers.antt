use Rattle.std.proofs.Common.{sym, refl}
use Rattle.mk_sums.specs.Trees.{hop}
use Rattle.mk_sums.proofs.Hops.{linked_from, hop_linked, behind_from, behind_parts}
use Rattle.mk_sums.proofs.trees.neighbours_part.Goals as goal

pub returns : goal.returns
returns c = λ link m links a j p q r s d. (
  linked_from link m (hop link m a j) a (hop_linked link m a j links p q r s d),
  behind_from link m (hop link m a j) a j d refl,
  λ i h. sym ((behind_parts link m i a j h).1),
)
