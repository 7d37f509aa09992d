-- Both ends of payments that can be printed.
use Rattle.std.proofs.Common.{ℕ, zero, suc, ◌<◌, List, [], ◌∷◌, map, length, slice_index_or, arith}
use Rattle.std.specs.List.{AllByRecursion}
use Rattle.mk_net.specs.Bounds.{number_limit}
use Rattle.mk_rules.specs.Bounded.{FitPayment}
use Rattle.mk_history.specs.declared.entry.Payout.{Payout}
use Rattle.mk_history.specs.Entries.{ends}

pub lows_fit : (rows : List Payout) → AllByRecursion FitPayment (map ends rows) → (k : ℕ) (d : Payout) → k < length rows
    → (slice_index_or rows k d).low < number_limit
lows_fit [] h k d inside = absurd (omega arith)
lows_fit (p ∷ rows) h zero d inside = h.0.low
lows_fit (p ∷ rows) h (suc k) d inside = lows_fit rows h.1 k d (omega (arith, inside))

pub highs_fit : (rows : List Payout) → AllByRecursion FitPayment (map ends rows) → (k : ℕ) (d : Payout) → k < length rows
    → (slice_index_or rows k d).high < number_limit
highs_fit [] h k d inside = absurd (omega arith)
highs_fit (p ∷ rows) h zero d inside = h.0.high
highs_fit (p ∷ rows) h (suc k) d inside = highs_fit rows h.1 k d (omega (arith, inside))
