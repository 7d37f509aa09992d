-- What clauses of this crate cite of the crates below it.
pub use Rattle.mk_cash.specs.Accounts.{account_of}
pub use Rattle.mk_file.specs.MarketOf.{market_of}
pub use Rattle.mk_net.specs.Bounds.{max_payments}
pub use Rattle.mk_record.specs.{Members.names_of, Refused.CanBeSettled}
pub use Rattle.mk_replay.specs.Below.{ends, max_users, number_limit, payments_by_rule}
pub use Rattle.mk_restore.specs.Laws.{IsSafe}
pub use Rattle.mk_rules.specs.Answers.{ends_of}
