-- What clauses of this crate cite of the crates below it.
pub use Rattle.mk_enclose.specs.Enclosure.{HasGrade}
pub use Rattle.mk_engine.specs.{Below.GivenTree, Below.home, Below.max_values, Below.ratio_pairs}
pub use Rattle.mk_engine.specs.{Below.sizes, Below.trade_ratio, Cases.exact_others}
pub use Rattle.mk_engine.specs.{Meaning.exact_belief, Meaning.max_grade}
pub use Rattle.mk_semiring.specs.Held.{HasHeldGrade}
