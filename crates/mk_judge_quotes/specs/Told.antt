-- The quotes that replies tell.
use Rattle.std.specs.Prelude.{ℕ, Option, Some, None}
use Rattle.arrayvec.specs.ArrayVec.{ArrayVec}
use Rattle.mk_reply.specs.declared.refusal.Refusal.TheVariants.{Beyond, Outside}
use Rattle.mk_reply.specs.declared.reply.Reply.{Reply}
use Rattle.mk_reply.specs.declared.reply.Reply.TheVariants.{Limits, Bounded, Refused}
use Rattle.mk_rules.specs.Quotes.{Interval}

-- limits that are told to who asked for them
abbrev pub limits_told : Reply → Option Interval
limits_told (Limits limits at) = Some limits
limits_told _ = None

-- limits that an edit is refused for
abbrev pub beyond_told : Reply → Option Interval
beyond_told (Refused (Beyond limits)) = Some limits
beyond_told _ = None

-- so the bounds of a spread
abbrev pub bounds_told : Reply → Option (Option (ArrayVec (ℕ × ℕ)))
bounds_told (Bounded box at) = Some box
bounds_told _ = None

abbrev pub outside_told : Reply → Option (Option (ArrayVec (ℕ × ℕ)))
outside_told (Refused (Outside box)) = Some box
outside_told _ = None
