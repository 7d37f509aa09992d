-- What clauses of this crate cite of the crates below it.
pub use Rattle.std.specs.List.{count_by}
pub use Rattle.mk_exact.specs.History.{Add, additions, Deposit, is_settled, is_transfer, Join}
pub use Rattle.mk_exact.specs.History.{resolutions, Resolve, Settle, Trade, users, Withdraw}
pub use Rattle.mk_net.specs.{Bounds.max_condition, Bounds.max_market_trades, Bounds.max_transfers}
pub use Rattle.mk_net.specs.{Bounds.max_users, Bounds.max_values, Bounds.max_variables}
pub use Rattle.mk_net.specs.{Events.AreApart, Trades.trade_ratio}
