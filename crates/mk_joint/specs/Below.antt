-- What clauses of this crate cite of the crates below it.
pub use Rattle.mk_engine.specs.{Apart.IsApart, Apart.without_ratios, Beliefs.CanBelieve}
pub use Rattle.mk_engine.specs.{Beliefs.IsBelief, Meaning.Meaning, Meaning.whole_sum}
pub use Rattle.mk_net.specs.Bounds.{number_limit}
pub use Rattle.mk_scope.specs.Below.{is_member, IsNetwork, max_clique_cells}
