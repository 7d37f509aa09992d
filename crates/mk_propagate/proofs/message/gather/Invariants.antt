use Rattle.mk_propagate.specs.inner.Boards.{IsGatheringIn}
use Rattle.mk_propagate.proofs.message.gather.Given as goal

-- the product has the messages of the neighbours so far, once one was taken
abbrev pub invariant-loop-neighbour : goal.invariant-loop-neighbour
invariant-loop-neighbour g l =
    IsGatheringIn g.R.Semiring.plus_of l.shape l.initial.board l.board l.clique l.receiver
    l.neighbour-index l.first
