-- What the tallies of a user's entries add up to.
use Rattle.std.specs.Prelude.{ℕ, List, sum_by}
use Rattle.mk_net.specs.Network.{Variable}
use Rattle.mk_states.specs.Events.{always}
use Rattle.mk_exact.specs.History.{Entry, bits_in, bits_out, deposited, withdrawn}
use Rattle.mk_exact.specs.Weight.{total}
use Rattle.mk_expect.specs.declared.tally.Tally.{Tally}
use Rattle.mk_expect.specs.Expectation.{AreBits}
use Rattle.mk_expect.specs.inner.Parts.{entry_gained, entry_owed, own_trade}
use Rattle.mk_expect.specs.inner.Tallies.{AddsUp}

-- by the weights of a history
module _ (network : List Variable) (H : List Entry) where
  -- a tally of one entry of a user
  abbrev pub AddsEntry : (ℕ → ℕ) → ℕ → Entry → Tally → Type 0
  AddsEntry bits u e t = AddsUp t (total network H always) (entry_gained network H bits u e)
      (entry_owed network H u e) (bits_in u e) (bits_out u e) (own_trade u e)

  -- and of many
  abbrev pub AddsEntries : (ℕ → ℕ) → ℕ → List Entry → Tally → Type 0
  AddsEntries bits u es t = AddsUp t (total network H always)
      (sum_by (entry_gained network H bits u) es) (sum_by (entry_owed network H u) es)
      (deposited es u) (withdrawn es u) (sum_by (own_trade u) es)

  -- all of a history, whatever names the bits
  abbrev pub AddsAll : ℕ → Tally → Type 0
  AddsAll u t = (bits : ℕ → ℕ) → AreBits bits → AddsEntries bits u H t
