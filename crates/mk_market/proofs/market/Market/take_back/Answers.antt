use Rattle.std.proofs.Common.{sym}
use Rattle.mk_command.specs.Commands.{command_of}
use Rattle.mk_market.proofs.market.Market.take_back.Goals as goal

pub returns-in-Spread : goal.returns-in-Spread
unfolding command_of
returns-in-Spread g c =
    rw (c.in-Spread.is) (c.restore_spread.ensures c.in-Spread.condition.now c.in-Spread.to.now
    (sym c.as_slice.ensures.value) (sym c.as_slice-in-Spread.ensures.value))
