use Rattle.std.specs.Prelude.{◌≡◌, List}
use Rattle.mk_exact.specs.History.{Entry}
use Rattle.mk_exact.specs.Market.{Market}
use Rattle.mk_spread.specs.Spreads.{SpreadAsked, asked_of}
use Rattle.mk_spread.specs.Told.{CoversValue}
use Rattle.mk_verify.specs.Clear.{IsPriceOpen}
use Rattle.mk_judge_quotes.specs.Small.{TellsSmall}
use Rattle.mk_verify.specs.inner.Judging.{AreBoundsOfPrices}
use Rattle.mk_verify.proofs.Places.{JudgesBelow}
use Rattle.mk_verify.proofs.each.judge_each_price.Given as goal

abbrev pub invariant-loop-value : goal.invariant-loop-value
invariant-loop-value l =
    (market : Market) (H : List Entry) (spread : SpreadAsked) → TellsSmall l.small market H
    → l.most_trades ≡ market.max_trades → AreBoundsOfPrices market H spread l.bounds
    → JudgesBelow l.told (CoversValue market.network H market.max_trades spread)
    (λ value ends. IsPriceOpen market H (asked_of spread value) ends) l.judged l.value
