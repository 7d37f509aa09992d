use Rattle.mk_command.specs.declared.command.Command.TheVariants.{User}
use Rattle.mk_file.specs.MarketOf.{market_of}
use Rattle.mk_evidence.proofs.Evidenced.{refused_is}
use Rattle.mk_evidence.proofs.refused.refused_join.Goals as goal

pub returns : goal.returns
returns g c = refused_is c.args.market.now _ c.market.view_is (User c.args.name.now)
    c.refuse_user.result (c.refuse_user.ensures.refusal (market_of c.market.inside.file)
    c.market.invariant.max_users)
