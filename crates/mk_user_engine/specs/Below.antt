-- What clauses of this crate cite of the crates below it.
pub use Rattle.std.specs.List.{list_all, list_any}
pub use Rattle.mk_cell.specs.{Cell.IsOwnAt, Cell.Stands, Cell.StandsAt, Least.least}
pub use Rattle.mk_engine.specs.Meaning.{ArePairsOf}
pub use Rattle.mk_net.specs.{Asked.IsUnits, Events.IsEvent, Network.sizes}
pub use Rattle.mk_scope.specs.Scopes.{HasSized}
pub use Rattle.mk_semiring.specs.Held.{HasHeldGrade, HeldEncloses, IsHeldExact}
pub use Rattle.mk_states.specs.{OfNetwork.IsPairOf, Ratios.units_of}
pub use Rattle.mk_sums.specs.There.{holds_there}
pub use Rattle.mk_table.specs.Tables.{contradicts, contradicts_pair}
pub use Rattle.mk_tree_engine.specs.{Below.CanKnow, Below.CanMultiply, Below.GivenTree, Below.home}
pub use Rattle.mk_tree_engine.specs.{Below.IsApart, Below.IsBelief, Below.IsHeldAt, Below.IsNetwork}
pub use Rattle.mk_tree_engine.specs.{Below.IsTreeOf, Below.Meaning, Below.number_limit}
pub use Rattle.mk_tree_engine.specs.{Below.opening, Below.ratio_pairs, Below.RatioOf}
pub use Rattle.mk_tree_engine.specs.{Below.trade_ratio, Below.tree_grade, Below.Variable}
pub use Rattle.mk_tree_engine.specs.{Below.whole_sum, Below.with_factor, Below.with_known}
pub use Rattle.mk_tree_engine.specs.{Below.without_ratios, Engines.HasTree, Engines.IsPlanFor}
