-- What clauses of this crate cite of the crates below it.
pub use Rattle.std.specs.List.{count_by, list_any}
pub use Rattle.arrayvec.specs.ArrayVec.{ArrayVec}
pub use Rattle.mk_answers.specs.Below.{asked_of, max_values, spread_in, Variable}
pub use Rattle.mk_exact.specs.{History.revision, Market.Market}
pub use Rattle.mk_file.specs.MarketOf.{market_of}
pub use Rattle.mk_history.specs.{Below.Add, Below.additions, Below.Deposit, Below.is_settled}
pub use Rattle.mk_history.specs.{Below.is_transfer, Below.Join, Below.max_condition}
pub use Rattle.mk_history.specs.{Below.max_market_trades, Below.max_transfers, Below.max_users}
pub use Rattle.mk_history.specs.{Below.max_variables, Below.resolutions, Below.Resolve}
pub use Rattle.mk_history.specs.{Below.Settle, Below.Trade, Below.trade_ratio, Below.users}
pub use Rattle.mk_history.specs.{Below.Withdraw, Entries.addition_of, Entries.change_of}
pub use Rattle.mk_history.specs.{Entries.ends, Histories.max_additions}
pub use Rattle.mk_names.specs.Texts.{same_text}
pub use Rattle.mk_net.specs.{Bounds.max_transfer_bits, Bounds.million, Events.IsEvent}
pub use Rattle.mk_net.specs.{Events.pairs_asked, Events.speaks_of, Firsts.fault_if, Firsts.first_of}
pub use Rattle.mk_net.specs.{Firsts.or_else, Named.pair_named, Named.variable_named}
pub use Rattle.mk_rules.specs.Refusals.{names_in, no_variable, pairs_of, question_named}
pub use Rattle.mk_rules.specs.Refusals.{spread_named, twice}
pub use Rattle.mk_spread.specs.Spreads.{IsSpreadOf}
pub use Rattle.mk_states.specs.OfNetwork.{IsPairOf, IsQuestionOf}
pub use Rattle.mk_tree.specs.Given.{home}
