-- What clauses of this crate cite of the crates below it.
pub use Rattle.mk_names.specs.declared.limits.TheConstants.{MAX_LINE_BYTES}
pub use Rattle.arrayvec.specs.{ArrayString.array_string_len, ArrayVec.array_vec_len}
pub use Rattle.mk_text.specs.{Joined.items_text, Reading.Finds, Reading.never, Words.IsRestOf}
