-- What clauses of this crate cite of the crates below it.
pub use Rattle.mk_net.specs.{Asked.ratio_pairs, Bounds.max_values, Bounds.number_limit}
pub use Rattle.mk_net.specs.{Network.sizes, Network.Variable, Trades.trade_ratio}
pub use Rattle.mk_tree.specs.{Checked.IsTreeOf, Given.GivenTree, Given.home, Held.IsHeldAt}
