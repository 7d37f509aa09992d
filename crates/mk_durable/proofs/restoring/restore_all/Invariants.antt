use Rattle.std.proofs.Common.{◌≡◌, take}
use Rattle.mk_exact.specs.Market.{Market}
use Rattle.mk_journal.specs.Opening.{contents}
use Rattle.mk_market.specs.Trading.{IsAt}
use Rattle.mk_durable.specs.Recovery.{AreTakenBack, unquoted}
use Rattle.mk_durable.proofs.restoring.restore_all.Given as goal

abbrev pub invariant-loop-i : goal.invariant-loop-i
invariant-loop-i g l = record {
  here : (start : Market) → IsAt start l.fn.market → IsAt start l.market;
  quotes : l.market.standing ≡ unquoted l.market.standing.history;
  taken : (start : Market) → IsAt start l.fn.market
      → AreTakenBack start l.fn.market.standing.history
      (contents (take l.i l.records)) l.market.standing.history;
}
