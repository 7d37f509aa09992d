-- What a line that is given changes, once its first bytes are in the text.
use Rattle.std.specs.Prelude.{◌≡◌, ℕ, ◌+◌, Bool, cond, Option}
use Rattle.mk_io.specs.declared.lines.Next.{Next}
use Rattle.mk_io.specs.declared.lines.Next.TheVariants.{Line, Long}
use Rattle.mk_io.specs.Stream.{max_line_bytes}
use Rattle.mk_io.specs.inner.Cut.{Settles}
use Rattle.mk_io.specs.Cutting.{Cutting}

-- the line whose first bytes are in the text is given, and an answer that stays behind it, where there is one
pub record GivesText (old new : Cutting) (size : ℕ) (stays : Option Next) (result : Next) : Type 0 where
  pub is_short : Bool
  pub settles : Settles max_line_bytes old.line new.line is_short
  pub answer : result ≡ cond is_short Line Long
  pub left : new.left ≡ old.left
  pub given : new.given ≡ old.given + 1
  pub spent : new.spent ≡ old.spent + size
  pub last : new.last ≡ stays
