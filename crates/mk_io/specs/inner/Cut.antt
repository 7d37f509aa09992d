-- What the parts of `Lines` do: the bytes that were read, the text of one line, and the cutting of one line.
use Rattle.std.specs.Prelude.{◌≡◌, ◌≢◌, ℕ, ◌+◌, ◌<◌, ◌≤◌, List, [], ◌∷◌, ◌++◌, length, take, Option, Result, IfOk, OnErr, Bool, true, false, All, ⊤}
use Rattle.mk_io.specs.declared.cut.Cut.{Cut}
use Rattle.mk_io.specs.declared.cut.Cut.TheVariants.{Whole, Last, Fault, Full}
use Rattle.mk_io.specs.Outside.{prepend_known, IsAtEnd, CountsFault}
use Rattle.mk_io.specs.Stream.{without_last_cr}

-- the first bytes, up to a limit
unfoldable pub front : ℕ → List ℕ → List ℕ
front limit bytes = take limit bytes

-- a read where no byte was pending, and none where one was
pub record Refills {E : Type 0} (old new : List ℕ) (source rest : Option (List ℕ)) (result : Result Bool E) : Type 0 where
  pub stream : prepend_known old source ≡ prepend_known new rest
  pub there : IfOk result (λ more. more ≡ true → 0 < length new)
  pub kept : IfOk result (λ more. more ≡ false → new ≡ old)
  pub untouched : IfOk result (λ more. more ≡ false → rest ≡ source)
  pub at_end : IfOk result (λ more. more ≡ false → IsAtEnd (prepend_known new rest))
  pub failed : OnErr result (new ≡ [])

-- a text that is not too long lost one CR at its end; a longer one is gone
pub record Settles (limit : ℕ) (old new : List ℕ) (is_short : Bool) : Type 0 where
  pub short : is_short ≡ true → (length old ≤ limit) × (new ≡ without_last_cr old)
  pub long : is_short ≡ false → (limit < length old) × (new ≡ [])
  pub within : length new ≤ limit

-- the part ended at an LF, which was taken too
pub record EndsWhole (count : ℕ) (part : List ℕ) (room : ℕ) (before after : Option (List ℕ)) : Type 0 where
  pub size : count ≡ length part + 1
  pub fits : count ≤ room
  pub taken : before ≡ prepend_known (part ++ 10 ∷ []) after

-- the part ended with the stream
pub record EndsLast (count : ℕ) (part : List ℕ) (room : ℕ) (before after : Option (List ℕ)) : Type 0 where
  pub size : count ≡ length part
  pub fits : count ≤ room
  pub taken : before ≡ prepend_known part after
  pub at_end : IsAtEnd after

-- the part fills the room, and a byte more was taken
pub record EndsFull (part : List ℕ) (room : ℕ) (before after : Option (List ℕ)) : Type 0 where
  pub byte : ℕ
  pub size : length part ≡ room
  pub taken : before ≡ prepend_known (part ++ byte ∷ []) after

abbrev pub EndsPart : Cut → List ℕ → ℕ → Option (List ℕ) → Option (List ℕ) → Option (List ℕ) → Type 0
EndsPart (Whole size) part room before after rest = EndsWhole size part room before after
EndsPart (Last size) part room before after rest = EndsLast size part room before after
EndsPart Fault part room before after rest = before ≡ prepend_known part rest
EndsPart Full part room before after rest = EndsFull part room before after

-- bytes without LF were taken, of which the text has the first, up to a limit; what is `left` was read
pub record CutsLine (cut : Cut) (limit : ℕ) (text : List ℕ) (room : ℕ) (before : Option (List ℕ)) (left : List ℕ) (rest : Option (List ℕ)) : Type 0 where
  pub part : List ℕ
  pub no_lf : All (λ b. b ≢ 10) part
  pub kept : text ≡ front limit part
  pub ends : EndsPart cut part room before (prepend_known left rest) rest

-- a read that failed was counted, and no other end of a line changes the count
abbrev pub CountsCutFault : Cut → ℕ → ℕ → Type 0
CountsCutFault Fault before now = CountsFault before now
CountsCutFault (Whole size) before now = now ≡ before
CountsCutFault (Last size) before now = now ≡ before
CountsCutFault Full before now = now ≡ before

-- the line ended at its LF
abbrev pub IsWhole : Cut → Type 0
IsWhole (Whole size) = ⊤
IsWhole (Last size) = ⊥
IsWhole Fault = ⊥
IsWhole Full = ⊥
