use Rattle.mk_command.specs.declared.command.Command.TheVariants.{Add}
use Rattle.mk_evidence.proofs.Evidenced.{refused_is}
use Rattle.mk_evidence.proofs.refused.refused_addition.Goals as goal

pub refuse_add-requires : goal.refuse_add-requires
refuse_add-requires g c = record { tree = c.market.invariant.tree }

pub returns : goal.returns
returns g c = refused_is c.args.market.now _ c.market.view_is (Add c.args.add.now)
    c.refuse_add.result c.refuse_add.ensures.refusal
