-- What clauses of this crate cite of the crates below it.
pub use Rattle.mk_exact.specs.{Factors.gain, Factors.least_gain, Factors.lesser, History.Entry}
pub use Rattle.mk_exact.specs.{Weight.total, Weight.weight}
pub use Rattle.mk_net.specs.{Named.variable_at, Network.sizes, Trades.trade_ratio}
pub use Rattle.mk_states.specs.{Events.holds, InitialWeight.all_states, InitialWeight.can_come}
pub use Rattle.mk_states.specs.{InitialWeight.entry, InitialWeight.initial_weight}
pub use Rattle.mk_states.specs.{InitialWeight.row_number, InitialWeight.value_at, Ratios.ratio_at}
pub use Rattle.mk_states.specs.{Ratios.units_of, States.IsState, States.numbers_below}
pub use Rattle.mk_states.specs.{States.product_by, States.states}
