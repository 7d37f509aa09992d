use Rattle.mk_command.specs.declared.command.Command.TheVariants.{Deposit}
use Rattle.mk_file.specs.MarketOf.{market_of}
use Rattle.mk_evidence.proofs.Evidenced.{refused_err}
use Rattle.mk_evidence.proofs.refused.refused_deposit.Goals as goal

pub returns-in_err-refuse_transfer : goal.returns-in_err-refuse_transfer
returns-in_err-refuse_transfer g c =
    refused_err c.args.market.now _ c.market.view_is (Deposit c.args.name.now c.args.bits)
    c.in_err-refuse_transfer.field-0.0 c.from_residual.result c.from_residual.ensures.1
    (c.in_err-refuse_transfer.ensures.deposit (market_of c.market.inside.file)
    c.market.invariant.max_transfers)

pub returns : goal.returns
returns g c = rw (← c.market.view_is)
    (c.in_ok-refuse_transfer.ensures.deposit (market_of c.market.inside.file)
    c.market.invariant.max_transfers)
