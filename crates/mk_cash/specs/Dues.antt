-- What a user is due by rule, as the entries of a history are read one after another.
use Rattle.std.specs.Prelude.{ℕ, ◌+◌, ◌-◌, ◌*◌, ◌≤◌, ◌==◌, if◌then◌else◌, List}
use Rattle.mk_net.specs.Bounds.{max_market_trades, max_transfers, max_transfer_bits}
use Rattle.mk_scaled.specs.ByRule.{rounded_down, rounded_up, power_by, whole_log}
use Rattle.mk_scaled.specs.Range.{two_to}
use Rattle.mk_states.specs.Ratios.{ratio_at}
use Rattle.mk_exact.specs.History.{Entry, Join, Deposit, Withdraw, Trade, Resolve, Settle, Add}
use Rattle.mk_exact.specs.History.{deposited, withdrawn}
use Rattle.mk_exact.specs.Factors.{trade_count}
use Rattle.mk_exact.specs.ByRule.{gain_by}

-- the gain of a user's trades in one state, rounded down and rounded up at each product, how many
-- trades there are, and the bits that were paid in and taken out
pub record DueOf : Type 0 where
  pub low : ℕ
  pub high : ℕ
  pub trades : ℕ
  pub deposited : ℕ
  pub withdrawn : ℕ

-- nothing is traded, and nothing transferred
abbrev pub no_due : DueOf
no_due = record { low = 1; high = 1; trades = 0; deposited = 0; withdrawn = 0 }

-- as many bits as all transfers of a market can come to
abbrev pub max_due_bits : ℕ
max_due_bits = max_transfers * max_transfer_bits

-- no more trades and bits than a market takes, and so a gain whose powers are in range
pub record IsDue (d : DueOf) : Type 0 where
  pub positive : 1 ≤ d.low
  pub ordered : d.low ≤ d.high
  pub bounded : d.high ≤ two_to (63 * d.trades)
  pub few_trades : d.trades ≤ max_market_trades
  pub few_in : d.deposited ≤ max_due_bits
  pub few_out : d.withdrawn ≤ max_due_bits

-- with one trade more, which has this ratio in the state
abbrev pub due_traded : ℕ → DueOf → DueOf
due_traded units d = record d {
  low = rounded_down (d.low * units);
  high = rounded_up (d.high * units);
  trades = d.trades + 1;
}

-- with bits more paid in, and with bits more taken out
abbrev pub due_deposited : ℕ → DueOf → DueOf
due_deposited bits d = record d { deposited = d.deposited + bits }

abbrev pub due_withdrawn : ℕ → DueOf → DueOf
due_withdrawn bits d = record d { withdrawn = d.withdrawn + bits }

-- the points of a gain: the whole bits of its power, with those paid in, without those taken out
-- and 40 for each trade
abbrev pub due_points : (ℕ → ℕ) → ℕ → ℕ → DueOf → ℕ
due_points round gain b d =
    (whole_log (power_by round gain b) + b * d.deposited) - b * (d.withdrawn + 40 * d.trades)

-- the two ends of the payment
abbrev pub due_payment : ℕ → DueOf → ℕ × ℕ
due_payment b d = (due_points rounded_down d.low b d, due_points rounded_up d.high b d)

-- what a user is due by rule after a history, in a state
abbrev pub due_of : List Entry → ℕ → List ℕ → DueOf
due_of H u s = record {
  low = gain_by rounded_down H u s;
  high = gain_by rounded_up H u s;
  trades = trade_count H u;
  deposited = deposited H u;
  withdrawn = withdrawn H u;
}

-- what one more entry changes of it: the user's own trade and transfer, and nothing else
abbrev pub due_after : ℕ → List ℕ → Entry → DueOf → DueOf
due_after u s (Join name) d = d
due_after u s (Deposit user bits) d = if user == u then due_deposited bits d else d
due_after u s (Withdraw user bits) d = if user == u then due_withdrawn bits d else d
due_after u s (Trade user ratio) d = if user == u then due_traded (ratio_at ratio s) d else d
due_after u s (Resolve pair) d = d
due_after u s (Settle payments) d = d
due_after u s (Add addition) d = d
