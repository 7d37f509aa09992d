-- What clauses of this crate cite of the crates below it.
pub use Rattle.mk_answers.specs.{Below.always, Below.Entry, Below.GivenTree, Below.Holding}
pub use Rattle.mk_answers.specs.{Below.IsNetwork, Below.IsProper, Below.max_points_per_bit}
pub use Rattle.mk_answers.specs.{Below.Meaning, Below.number_limit, Below.rows_of, Below.sizes}
pub use Rattle.mk_answers.specs.{Below.Variable, Below.weights_of, Open.holding_of}
pub use Rattle.mk_assets.specs.Holdings.{Holds, IsPlanned, max_bits}
pub use Rattle.mk_beliefs.specs.Meanings.{grown}
pub use Rattle.mk_cash.specs.Dues.{due_payment}
pub use Rattle.mk_engine.specs.Meaning.{ArePairsOf}
pub use Rattle.mk_exact.specs.{ByRule.paid_in_all, ByRule.payment_by_rule, ByRule.payments_by_rule}
pub use Rattle.mk_exact.specs.{History.deposited, History.withdrawn, Weight.possible_states}
pub use Rattle.mk_record.specs.Below.{change_of, ends, max_users, max_variables, resolutions}
pub use Rattle.mk_record.specs.Below.{trade_ratio, users}
pub use Rattle.mk_states.specs.{Events.holds, Ratios.ratio_at, States.IsState, States.numbers_below}
pub use Rattle.mk_tree.specs.Checked.{IsTreeOf}
