-- What clauses of this crate cite of the crates below it.
pub use Rattle.std.specs.{List.list_all, Option.ForSome}
pub use Rattle.mk_engine.specs.{Apart.IsApart, Apart.without_ratios, Beliefs.CanBelieve}
pub use Rattle.mk_engine.specs.{Beliefs.CanKnow, Beliefs.CanMultiply, Beliefs.CanWeigh}
pub use Rattle.mk_engine.specs.{Beliefs.IsBelief, Below.GivenTree, Below.home, Below.IsHeldAt}
pub use Rattle.mk_engine.specs.{Below.IsTreeOf, Below.number_limit, Below.ratio_pairs}
pub use Rattle.mk_engine.specs.{Below.trade_ratio, Below.Variable, Meaning.Meaning, Meaning.opening}
pub use Rattle.mk_engine.specs.{Meaning.RatioOf, Meaning.RowsOf, Meaning.SupportOf}
pub use Rattle.mk_engine.specs.{Meaning.tree_grade, Meaning.whole_sum, Meaning.with_factor}
pub use Rattle.mk_engine.specs.{Meaning.with_known}
pub use Rattle.mk_net.specs.Network.{IsNetwork}
pub use Rattle.mk_plan.specs.Shapes.{IsClique, next_on_way}
pub use Rattle.mk_propagate.specs.Flows.{CanSend, counted_on, reading_grade}
pub use Rattle.mk_sets.specs.Sets.{is_member}
pub use Rattle.mk_tree.specs.{Given.clique_at, Tests.holds_family}
