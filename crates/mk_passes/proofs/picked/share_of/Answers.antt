use Rattle.mk_scope.proofs.Kept.{sized_value}
use Rattle.mk_passes.proofs.picked.share_of.Goals as goal

pub entry-requires-clause-value : goal.entry-requires-clause-value
entry-requires-clause-value c =
    rw c.value.ensures (sized_value c.args.net.now c.args.scope.now c.args.cell c.requires.cell c.args.variable c.requires.family)
