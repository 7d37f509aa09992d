-- What clauses of this crate cite of the crates below it.
pub use Rattle.mk_names.specs.{Key.key_text, Name.IsName, Texts.same_text}
pub use Rattle.mk_names.specs.{declared.limits.TheConstants.MAX_ANSWER_BYTES}
pub use Rattle.mk_net.specs.{Checked.checked_network, Checked.first_fault, Drafts.draft_of_variable}
pub use Rattle.mk_net.specs.{Drafts.drafts_of, Drafts.rows_of, Drafts.texts_of, Firsts.first_in}
pub use Rattle.mk_tree.specs.{Checked.IsTreeOf, Tests.tree_fault}
pub use Rattle.toml.specs.{Data.as_bool, Data.as_integer, Data.as_str, Data.as_table}
pub use Rattle.toml.specs.{Data.get_member, View.table_view, View.view}
