-- What the arguments of a call ask, and the exit status that the call ends with.
use Rattle.std.specs.Prelude.{◌≡◌, ℕ, List, [], drop, map, string_bytes, String, Option, Some, None}
use Rattle.std.specs.Prelude.{option_map, Result, Ok, Err}
use Rattle.std.specs.Vec.Iter.{into_iter_items}
use Rattle.std.specs.IoError.{error_kind}
use Rattle.std.specs.declared.vec.IntoIter.{IntoIter}
use Rattle.std.specs.declared.io.Error.{Error}
use Rattle.std.specs.declared.io.ErrorKind.{ErrorKind}
use Rattle.std.specs.declared.io.ErrorKind.TheVariants.{InvalidData}
use Rattle.mk_io.specs.declared.status.Status.{Status}
use Rattle.mk_io.specs.Status.{code_of}
use Rattle.daggre.specs.Words.{Asked, asked_of, market_named, store_named, transcript_named}

-- the words where the arguments could not be listed: none where one is no text; else memory was
-- wanting, and they are not known
abbrev pub words_without : ErrorKind → Option (List (List ℕ))
words_without InvalidData = Some []
words_without _ = None

-- the words of a call: its arguments but for the first, which is the program's own name
abbrev pub words_in : {Z : Type 0} → Result (IntoIter (String Z) Z) Error → Option (List (List ℕ))
words_in (Ok arguments) = Some (drop 1 (map string_bytes (into_iter_items arguments)))
words_in (Err error) = words_without (error_kind error)

-- what they ask, where they are known
abbrev pub asked_by : {Z : Type 0} → Result (IntoIter (String Z) Z) Error → Option (Option Asked)
asked_by arguments = option_map asked_of (words_in arguments)

-- the name of the market that they ask to run, if they ask for one
abbrev pub named_by : {Z : Type 0} → Result (IntoIter (String Z) Z) Error
    → Option (Option (List ℕ))
named_by arguments = option_map market_named (asked_by arguments)

-- the name of the store, if they ask to keep changes in one
abbrev pub kept_by : {Z : Type 0} → Result (IntoIter (String Z) Z) Error
    → Option (Option (List ℕ))
kept_by arguments = option_map store_named (asked_by arguments)

-- the name of the transcript, if they ask to audit one
abbrev pub audited_by : {Z : Type 0} → Result (IntoIter (String Z) Z) Error
    → Option (Option (List ℕ))
audited_by arguments = option_map transcript_named (asked_by arguments)

-- a number is the exit status of a run of which something holds
pub record Exits (code : ℕ) (P : Status → Type 0) : Type 0 where
  pub status : Status
  pub is_code : code ≡ code_of status
  pub holds : P status
