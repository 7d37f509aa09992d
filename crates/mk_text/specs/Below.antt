-- What clauses of this crate cite of the crates below it.
pub use Rattle.std.specs.Str.Parse.{digits_value, IsNumeral}
pub use Rattle.arrayvec.specs.ArrayString.{array_string_len}
pub use Rattle.mk_net.specs.Bounds.{max_values}
