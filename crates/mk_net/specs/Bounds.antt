-- How much there may be of each thing in a market: each limit has its name here, and its number in the code.
use Rattle.std.specs.Prelude.{ℕ, ◌+◌, ◌-◌, ◌^◌, nat_le, if◌then◌else◌}
use Rattle.mk_names.specs.declared.limits.TheConstants.{
  MAX_VARIABLES,
  MAX_VALUES,
  MAX_PARENTS,
  MAX_CONDITION,
  MAX_CLIQUES,
  MAX_CLIQUE_CELLS,
  MAX_CELLS,
  MAX_USERS,
  MAX_MARKET_TRADES,
  MAX_TRANSFERS,
  MAX_TRANSFER_BITS,
  USUAL_USERS,
  USUAL_TRANSFERS,
  USUAL_TRADES,
  MAX_PAYMENTS,
  MAX_POINTS_PER_BIT,
  MILLION,
  MAX_SHARE,
}

-- variables of a network, values of one, and parents of one
abbrev pub max_variables : ℕ
max_variables = MAX_VARIABLES

abbrev pub max_values : ℕ
max_values = MAX_VALUES

abbrev pub max_parents : ℕ
max_parents = MAX_PARENTS

-- pairs of a condition, and of an event: a condition and a target
abbrev pub max_condition : ℕ
max_condition = MAX_CONDITION

abbrev pub max_pairs : ℕ
max_pairs = max_condition + 1

-- cliques of a market, cells of one, and cells of all
abbrev pub max_cliques : ℕ
max_cliques = MAX_CLIQUES

abbrev pub max_clique_cells : ℕ
max_clique_cells = MAX_CLIQUE_CELLS

abbrev pub max_cells : ℕ
max_cells = MAX_CELLS

-- the most users, trades and transfers that a market file may ask for, and bits of one transfer
abbrev pub max_users : ℕ
max_users = MAX_USERS

abbrev pub max_market_trades : ℕ
max_market_trades = MAX_MARKET_TRADES

abbrev pub max_transfers : ℕ
max_transfers = MAX_TRANSFERS

abbrev pub max_transfer_bits : ℕ
max_transfer_bits = MAX_TRANSFER_BITS

-- users and transfers of a market whose file does not say how many
abbrev pub usual_users : ℕ
usual_users = USUAL_USERS

abbrev pub usual_transfers : ℕ
usual_transfers = USUAL_TRANSFERS

-- trades of a market whose printed numbers are sharpest
abbrev pub usual_trades : ℕ
usual_trades = USUAL_TRADES

-- printed prices and cash are near by one part in this, where there may be so many trades
abbrev pub sharpness : ℕ → ℕ
sharpness most_trades = if nat_le most_trades usual_trades then 2 ^ 42 else 2 ^ 39

-- the greatest grade of an enclosure behind a printed number, where there may be so many trades
abbrev pub grade_room : ℕ → ℕ
grade_room most_trades = if nat_le most_trades usual_trades then 2 ^ 17 else 2 ^ 20 - 1

-- payments that the reply to a settlement lists
abbrev pub max_payments : ℕ
max_payments = MAX_PAYMENTS

-- points that a bit is worth
abbrev pub max_points_per_bit : ℕ
max_points_per_bit = MAX_POINTS_PER_BIT

-- numbers that are printed are below this
abbrev pub number_limit : ℕ
number_limit = 2 ^ 63

-- shares and prices that are asked for are parts of a million
abbrev pub million : ℕ
million = MILLION

-- the greatest share, and price, that is asked for
abbrev pub max_share : ℕ
max_share = MAX_SHARE
