use Rattle.mk_command.specs.declared.command.Command.TheVariants.{Paid}
use Rattle.mk_file.specs.MarketOf.{market_of}
use Rattle.mk_market.proofs.Apart.{each_owns}
use Rattle.mk_market.proofs.Replies.{refused_answered}
use Rattle.mk_market.proofs.market.Market.paid.Goals as goal

pub returns-in-Err : goal.returns-in-Err
returns-in-Err g c =
    rw (← c.self.view_is) (refused_answered _ (each_owns _ _ c.self.invariant.named) (Paid c.args.name.now) c.in-Err.why tt (c.in-Err.ensures.refusal (market_of c.self.inside.file)))
