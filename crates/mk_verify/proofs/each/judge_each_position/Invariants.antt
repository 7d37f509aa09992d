use Rattle.std.specs.Prelude.{◌≡◌, ℕ, List, IsSomeAnd}
use Rattle.mk_states.specs.Events.{with_target}
use Rattle.mk_exact.specs.History.{Entry}
use Rattle.mk_exact.specs.Market.{Market}
use Rattle.mk_exact.specs.Sound.{IsSound}
use Rattle.mk_spread.specs.Spreads.{SpreadAsked, asked_of}
use Rattle.mk_spread.specs.Told.{IsSureOf}
use Rattle.mk_verify.specs.Clear.{IsLeastCashOpen}
use Rattle.mk_judge_quotes.specs.Small.{TellsSmall}
use Rattle.mk_verify.specs.inner.Judging.{AreSureFactorsOf}
use Rattle.mk_verify.proofs.Places.{JudgesBelow}
use Rattle.mk_verify.proofs.each.judge_each_position.Given as goal

abbrev pub invariant-loop-value : goal.invariant-loop-value
invariant-loop-value l =
    (market : Market) (H : List Entry) (u : ℕ) (spread : SpreadAsked)
    → TellsSmall l.small market H → IsSound market.network H
    → l.most_trades ≡ market.max_trades → l.points_per_bit ≡ market.points_per_bit
    → AreSureFactorsOf market H u spread l.factors
    → JudgesBelow l.told
    (IsSureOf market.network H market.max_trades u market.points_per_bit spread)
    (λ value ends. IsSomeAnd ends
    (IsLeastCashOpen market H u (with_target (asked_of spread value)))) l.judged l.value
