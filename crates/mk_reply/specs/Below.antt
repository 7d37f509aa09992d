-- What clauses of this crate cite of the crates below it.
pub use Rattle.arrayvec.specs.ArrayString.{array_string_len}
pub use Rattle.mk_names.specs.declared.limits.TheConstants.{MAX_ANSWER_BYTES}
pub use Rattle.mk_text.specs.{Joined.items_text, Numbers.intervals_text, Numbers.limits_text}
pub use Rattle.mk_text.specs.{Numbers.price_text, Numbers.range_text, Texts.pair_text}
