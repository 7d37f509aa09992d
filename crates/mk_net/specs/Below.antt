-- What clauses of this crate cite of the crates below it.
pub use Rattle.std.specs.{Cmp.partial_equiv_from_equiv, List.list_all, List.list_any}
pub use Rattle.mk_names.specs.{Name.is_name, Texts.same_text, inner.TextLaws.same_text_equiv}
