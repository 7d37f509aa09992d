-- What clauses of this crate cite of the crates below it.
pub use Rattle.mk_names.specs.declared.limits.TheConstants.{MAX_LINE_BYTES}
pub use Rattle.arrayvec.specs.ArrayString.{array_string_len}
pub use Rattle.mk_text.specs.{Joined.AreSeveral, Joined.spaced, Joined.◌&◌, Numbers.IsShort}
pub use Rattle.mk_text.specs.{Texts.condition_text, Texts.question_text}
