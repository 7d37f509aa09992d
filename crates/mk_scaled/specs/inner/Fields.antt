-- The fields that a number is stored in.
use Rattle.std.specs.Prelude.{ℕ}
use Rattle.mk_scaled.specs.declared.scaled.Scaled.TheInside.{Inside}
use Rattle.mk_scaled.specs.Form.{mantissa_of, exponent_of}

abbrev pub fields_of : ℕ → Inside
fields_of n = record { mantissa = mantissa_of n; exponent = exponent_of n }
