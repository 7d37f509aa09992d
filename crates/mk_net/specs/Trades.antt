-- The ratio of a trade, as the definitions see it.
use Rattle.mk_net.specs.Asked.{TradeRatio}
use Rattle.mk_net.specs.declared.ratio.Ratio.{Ratio}

abbrev pub trade_ratio : Ratio → TradeRatio
trade_ratio r = record { variable = r.variable; condition = r.condition; factors = (r.factors).items }
