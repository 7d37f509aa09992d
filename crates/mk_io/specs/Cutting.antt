-- What a value that cuts a stream into lines answers, and what it leaves.
use Rattle.std.specs.Prelude.{◌≡◌, ◌≢◌, ℕ, ◌+◌, ◌<◌, ◌≤◌, List, [], ◌∷◌, length, Option, Some, None, IfSome, All, Contains, ◌==◌, if◌then◌else◌, MatchOption, ◌⊎◌, ⊤}
use Rattle.mk_io.specs.declared.lines.Next.{Next}
use Rattle.mk_io.specs.declared.lines.Next.TheVariants.{Line, Long, End, ReadFault, TooMany}
use Rattle.mk_io.specs.Outside.{prepend_known, IsAtEnd, CountsFault}
use Rattle.mk_io.specs.Stream.{StreamLine, text, long, stream_lines, EndsInLf, max_line_bytes, max_stream_lines, max_stream_bytes}

-- what a `Lines` is seen as: the bytes that it took and has not given, the text of its last line, how many lines
-- and bytes of lines it gave, and the answer that stays, once there is one
pub record Cutting : Type 0 where
  pub left : List ℕ
  pub line : List ℕ
  pub given : ℕ
  pub spent : ℕ
  pub last : Option Next

abbrev pub fresh : Cutting
fresh = record { left = []; line = []; given = 0; spent = 0; last = None }

-- the bytes that are still to be given: those that were taken, and those that the source has left
abbrev pub stream_left : Cutting → Option (List ℕ) → Option (List ℕ)
stream_left cutting source = prepend_known cutting.left source

-- the length of the first line with its LF
abbrev pub first_size : List ℕ → ℕ
first_size [] = 0
first_size (b ∷ bytes) = if b == 10 then 1 else (1 + first_size bytes)

-- no fault and no limit has stopped the lines: there may be more, or the end is the next answer
abbrev pub GoesOn : Option Next → Type 0
GoesOn last = (last ≡ None) ⊎ (last ≡ Some End)

-- the bytes of a line were taken: they end in its LF, and there may be more; or nothing is left, and the end is the next answer
abbrev pub TakesPiece : List ℕ → Option Next → Option (List ℕ) → Type 0
TakesPiece piece last after = (EndsInLf piece × (last ≡ None)) ⊎ (IsAtEnd after × (last ≡ Some End))

-- a line was given: its bytes, which are this one line, were taken from the front of the stream and counted
pub record GivesLine (line : StreamLine) (old new : Cutting) (before after : Option (List ℕ)) : Type 0 where
  pub piece : List ℕ
  pub taken : before ≡ prepend_known piece after
  pub is_line : IfSome after (λ _. stream_lines piece ≡ line ∷ [])
  pub ends : TakesPiece piece new.last after
  pub given : new.given ≡ old.given + 1
  pub spent : new.spent ≡ old.spent + length piece

-- nothing was taken, and the answer stays
pub record Stays (old new : Cutting) (before after : Option (List ℕ)) (last : Next) : Type 0 where
  pub same : new ≡ record old { line = []; last = Some last }
  pub untouched : after ≡ before

-- the source failed within a line: the bytes that were taken hold no whole line
pub record StopsInLine (new : Cutting) (before source : Option (List ℕ)) : Type 0 where
  pub part : List ℕ
  pub taken : before ≡ prepend_known part source
  pub no_lf : All (λ b. b ≢ 10) part
  pub no_line : new.line ≡ []
  pub stays : new.last ≡ Some ReadFault

-- the next line is one too many, or holds a byte too many
pub record IsTooMuch (old : Cutting) (bytes : List ℕ) : Type 0 where
  pub more : 0 < length bytes
  pub past : (old.given ≡ max_stream_lines) ⊎ (max_stream_bytes < old.spent + first_size bytes)

-- there are too many lines or bytes: nothing of the line that is too much is given
pub record Overruns (old new : Cutting) (before source : Option (List ℕ)) : Type 0 where
  pub part : List ℕ
  pub taken : before ≡ prepend_known part source
  pub no_line : new.line ≡ []
  pub stays : new.last ≡ Some TooMany
  pub much : IfSome before (IsTooMuch old)

-- what each answer of a call says, where no earlier call gave a last answer
abbrev pub IsFreshAnswer : Next → Cutting → Cutting → Option (List ℕ) → Option (List ℕ) → Type 0
IsFreshAnswer Line old new source rest = GivesLine (text new.line) old new (stream_left old source) (stream_left new rest)
IsFreshAnswer Long old new source rest = GivesLine long old new (stream_left old source) (stream_left new rest) × (new.line ≡ [])
IsFreshAnswer End old new source rest = Stays old new source rest End × IsAtEnd (stream_left old source)
IsFreshAnswer ReadFault old new source rest = StopsInLine new (stream_left old source) rest
IsFreshAnswer TooMany old new source rest = Overruns old new (stream_left old source) rest

-- a fresh read fault was counted, and no other answer changes the count
abbrev pub CountsReadFault : Next → ℕ → ℕ → Type 0
CountsReadFault ReadFault before now = CountsFault before now
CountsReadFault Line before now = now ≡ before
CountsReadFault Long before now = now ≡ before
CountsReadFault End before now = now ≡ before
CountsReadFault TooMany before now = now ≡ before

-- a line, and the lines and bytes that were given, are within the limits
pub record IsWithinLimits (cutting : Cutting) : Type 0 where
  pub line : length cutting.line ≤ max_line_bytes
  pub given : cutting.given ≤ max_stream_lines
  pub spent : cutting.spent ≤ max_stream_bytes

-- what a call answers: the last answer again, or a fresh one
abbrev pub IsAnswer : Next → Cutting → Cutting → Option (List ℕ) → Option (List ℕ) → Type 0
IsAnswer result old new source rest =
    MatchOption old.last (IsFreshAnswer result old new source rest)
    (λ last. (result ≡ last) × Stays old new source rest last)

-- the cause of an answer: an earlier one that stays leaves the count of faults as it was
abbrev pub HasReadCause : Next → Cutting → ℕ → ℕ → Type 0
HasReadCause result old before now = MatchOption old.last (CountsReadFault result before now) (λ _. now ≡ before)

-- a whole line was read and is to be given next: it and all that was read with it are within the limits
pub record HoldsLine (cutting : Cutting) : Type 0 where
  pub goes_on : cutting.last ≡ None
  pub whole : Contains cutting.left 10
  pub line_fits : cutting.given < max_stream_lines
  pub bytes_fit : cutting.spent + length cutting.left ≤ max_stream_bytes

-- a line was given
abbrev pub IsLine : Next → Type 0
IsLine Line = ⊤
IsLine Long = ⊤
IsLine End = ⊥
IsLine ReadFault = ⊥
IsLine TooMany = ⊥
