-- What reads and writes do to bytes that are told, and the cause of a failure.
use Rattle.std.specs.Prelude.{◌≡◌, ℕ, ◌+◌, ◌-◌, ◌^◌, ◌<◌, ◌≤◌, min, List, [], ◌++◌, length, take, Option, option_map, Result, IfOk, OnOk, OnErr, IfSome}

-- a count of faults rose: it is greater than before, or stands at the last value of its type
abbrev pub Rose : ℕ → ℕ → Type 0
Rose before now = min (before + 1) (2 ^ 64 - 1) ≤ now

-- a count of faults never falls; a call fails only where it rose, and leaves it as it was where it does not fail
pub record HasCause {T E : Type 0} (before now : ℕ) (result : Result T E) : Type 0 where
  pub later : before ≤ now
  pub failed : OnErr result (Rose before now)
  pub kept : OnOk result (now ≡ before)

-- a fault was counted
pub record CountsFault (before now : ℕ) : Type 0 where
  pub later : before ≤ now
  pub rose : Rose before now

-- the other stream and all files are as they were
pub record LeavesRest (old new : Option (List ℕ)) (old_file new_file : List ℕ → Option (List ℕ)) : Type 0 where
  pub stream : new ≡ old
  pub files : (name : List ℕ) → new_file name ≡ old_file name

-- bytes in front of those that are left, where these are told
abbrev pub prepend_known : List ℕ → Option (List ℕ) → Option (List ℕ)
prepend_known bytes left = option_map (λ rest. bytes ++ rest) left

-- bytes behind those that are written, where these are told
abbrev pub append_known : Option (List ℕ) → List ℕ → Option (List ℕ)
append_known written bytes = option_map (λ front. front ++ bytes) written

-- no byte is left, where this is told
abbrev pub IsAtEnd : Option (List ℕ) → Type 0
IsAtEnd left = IfSome left (λ rest. rest ≡ [])

-- a read gives the next bytes, as many as it says; none only at the end; one that fails takes none
pub record Reads {E : Type 0} (old new : Option (List ℕ)) (result : Result ℕ E) (buf : List ℕ) : Type 0 where
  pub bound : IfOk result (λ n. n ≤ length buf)
  pub taken : IfOk result (λ n. old ≡ prepend_known (take n buf) new)
  pub at_end : IfOk result (λ n. n ≡ 0 → IsAtEnd new)
  pub failed : OnErr result (new ≡ old)

-- a write adds the first bytes of a piece, at least one where there is one; one that fails adds none
pub record Writes {E : Type 0} (old new : Option (List ℕ)) (result : Result ℕ E) (piece : List ℕ) : Type 0 where
  pub bound : IfOk result (λ n. n ≤ length piece)
  pub moves : IfOk result (λ n. 0 < length piece → 0 < n)
  pub added : IfOk result (λ n. new ≡ append_known old (take n piece))
  pub failed : OnErr result (new ≡ old)

-- what was added is a front of these bytes
pub record AddsFront (old new : Option (List ℕ)) (bytes : List ℕ) : Type 0 where
  pub front : List ℕ
  pub rest : List ℕ
  pub parts : bytes ≡ front ++ rest
  pub added : new ≡ append_known old front

-- what was added is a front of these bytes, behind which some of them are left
pub record AddsPart (old new : Option (List ℕ)) (bytes : List ℕ) : Type 0 where
  pub front : List ℕ
  pub rest : List ℕ
  pub parts : bytes ≡ front ++ rest
  pub left : 0 < length rest
  pub added : new ≡ append_known old front
