-- What clauses of this crate cite of the crates below it.
pub use Rattle.std.specs.List.{flat_map, list_any}
pub use Rattle.mk_net.specs.{Bounds.max_clique_cells, Bounds.max_parents, Network.choices}
pub use Rattle.mk_net.specs.{Network.sizes}
pub use Rattle.mk_record.specs.{Below.addition_of, Below.first_of, Below.market_of}
pub use Rattle.mk_record.specs.{Below.max_values, Below.max_variables, Below.million}
pub use Rattle.mk_record.specs.{Below.same_text, Below.variable_named, Refused.refusal_in}
pub use Rattle.mk_sets.specs.Sets.{is_member}
pub use Rattle.mk_tree.specs.{Checked.IsTreeOf, Tests.members}
