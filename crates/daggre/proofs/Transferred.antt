-- What an expectation asks of a market's history.
use Rattle.std.proofs.Common.{◌≡◌, ℕ, List, sym, subst}
use Rattle.mk_exact.specs.History.{Entry}
use Rattle.mk_exact.specs.Market.{Market}
use Rattle.mk_restore.specs.Laws.{IsSafe}
use Rattle.mk_expect.specs.Expectation.{HasFewBits}
use Rattle.mk_expect.proofs.Transfers.{bounded_has_few_bits}

pub few_bits : (market : Market) (H now : List Entry) (u : ℕ) → now ≡ H → IsSafe market H
    → HasFewBits now u
few_bits market H now u same safe = subst (λ (h : List Entry). HasFewBits h u) (sym same)
    (bounded_has_few_bits market H u safe.bounded)
