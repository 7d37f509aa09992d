-- What the words of a call ask of the program, and what it writes for other words.
use Rattle.std.specs.Prelude.{◌≡◌, ℕ, ◌+◌, ◌-◌, List, [], ◌∷◌, ◌++◌, length, take, drop, position}
use Rattle.std.specs.Prelude.{codes, decimal, if◌then◌else◌, ◌==◌, nat_le, ◌&&◌}
use Rattle.std.specs.Prelude.{Option, Some, None, option_map, option_and_then}
use Rattle.std.specs.List.{find, range_with_len}
use Rattle.mk_io.specs.declared.status.Status.{Status}
use Rattle.mk_io.specs.declared.status.Status.TheVariants.{Done, Usage, MarketRefused, ReadFault}
use Rattle.mk_io.specs.declared.status.Status.TheVariants.{WriteFault, Memory, TooMany}
use Rattle.mk_io.specs.declared.status.Status.TheVariants.{DiskFault, StoreRefused}
use Rattle.mk_names.specs.Name.{is_name}
use Rattle.mk_names.specs.Texts.{same_text}
use Rattle.mk_net.specs.declared.words.PairText.{PairText}
use Rattle.mk_session.specs.Outcome.{IsFrontOf}
use Rattle.daggre.specs.declared.ask.Ask.{Ask}
use Rattle.daggre.specs.declared.ask.Ask.TheVariants.{Chance, Best, Expect}

-- the greatest number of variables of a sample: as many as a market may have
abbrev pub max_sample : ℕ
max_sample = 256

-- as many pairs as a list of them may have
abbrev pub max_listed : ℕ
max_listed = 64

-- to run the market of a name, to run the sample market of so many variables, to run the market of
-- a name and then answer what is asked of its last history, to run the market of a name and keep
-- its changes in a store, or to audit a transcript of the market of a name
pub data Asked : Type 0 where
  Run : (name : List ℕ) → Asked
  Sample : (n : ℕ) → Asked
  RunThen : (name : List ℕ) (ask : Ask) → Asked
  Keep : (name store : List ℕ) → Asked
  Audit : (name transcript : List ℕ) → Asked

-- the numbers of variables that a sample may have, from 2 on
abbrev pub sample_sizes : List ℕ
sample_sizes = range_with_len 2 (max_sample - 1)

-- the one whose decimals a word is
unfoldable pub size_of : List ℕ → Option ℕ
size_of word = find (λ n. same_text (decimal n) word) sample_sizes

-- the names before and behind one byte of a word, where both are names
abbrev pub pair_at : List ℕ → ℕ → Option PairText
pair_at word k =
    if is_name (take k word) && is_name (drop (k + 1) word)
    then Some (record { variable = take k word; value = drop (k + 1) word })
    else None

-- the pair that a word writes: a name, `=` and a name
unfoldable pub pair_of : List ℕ → Option PairText
pair_of word = option_and_then (pair_at word) (position (λ b. b == 61) word)

-- the pairs that some words write, one each
abbrev pub pairs_of : List (List ℕ) → Option (List PairText)
pairs_of [] = Some []
pairs_of (word ∷ words) =
    option_and_then (λ pair. option_map (λ pairs. pair ∷ pairs) (pairs_of words)) (pair_of word)

-- the same of no fewer words than are wanted, and no more than a list may have
unfoldable pub listed : ℕ → List (List ℕ) → Option (List PairText)
listed least words =
    if nat_le least (length words) && nat_le (length words) max_listed then pairs_of words else None

-- the chance of the pairs before a word, given those behind it; or of all, given nothing
abbrev pub chance_around : List (List ℕ) → Option ℕ → Option Ask
chance_around words None = option_map (λ want. Chance want []) (listed 1 words)
chance_around words (Some k) =
    option_and_then (λ want. option_map (Chance want) (listed 1 (drop (k + 1) words)))
    (listed 1 (take k words))

-- one pair at least, and one at least behind the word `given`, where it stands
unfoldable pub chance_in : List (List ℕ) → Option Ask
chance_in words = chance_around words (position (same_text (codes "given")) words)

unfoldable pub best_in : List (List ℕ) → Option Ask
best_in words = option_map Best (listed 0 words)

-- one word, which is a user's name
unfoldable pub expect_in : List (List ℕ) → Option Ask
expect_in [] = None
expect_in (word ∷ []) = if is_name word then Some (Expect word) else None
expect_in (word ∷ more ∷ rest) = None

-- what a word asks, by the words behind the market's name
unfoldable pub ask_of : List ℕ → List (List ℕ) → Option Ask
ask_of word words =
    if same_text word (codes "chance") then chance_in words
    else if same_text word (codes "best") then best_in words
    else if same_text word (codes "expect") then expect_in words
    else None

-- the store is the one word behind the market's name
abbrev pub kept_in : List ℕ → List (List ℕ) → Option Asked
kept_in name [] = None
kept_in name (store ∷ []) = Some (Keep name store)
kept_in name (store ∷ more ∷ rest) = None

-- the transcript is the one word behind the market's name
abbrev pub audited_in : List ℕ → List (List ℕ) → Option Asked
audited_in name [] = None
audited_in name (transcript ∷ []) = Some (Audit name transcript)
audited_in name (transcript ∷ more ∷ rest) = None

-- what the words ask: they are `run` and a name; or `sample` and a number; or `chance` or `best`, a
-- name, and pairs; or `expect` and two names; or `keep` and the names of a market file and a store;
-- or `audit` and the names of a market file and a transcript
abbrev pub asked_of : List (List ℕ) → Option Asked
asked_of [] = None
asked_of (word ∷ []) = None
asked_of (word ∷ argument ∷ []) =
    if same_text word (codes "run") then Some (Run argument)
    else if same_text word (codes "sample") then option_map Sample (size_of argument)
    else option_map (RunThen argument) (ask_of word [])
asked_of (word ∷ argument ∷ more ∷ rest) =
    if same_text word (codes "keep") then kept_in argument (more ∷ rest)
    else if same_text word (codes "audit") then audited_in argument (more ∷ rest)
    else option_map (RunThen argument) (ask_of word (more ∷ rest))

-- the name of the market to run, where the words ask for one
abbrev pub market_named : Option Asked → Option (List ℕ)
market_named None = None
market_named (Some (Run name)) = Some name
market_named (Some (Sample n)) = None
market_named (Some (RunThen name ask)) = Some name
market_named (Some (Keep name store)) = Some name
market_named (Some (Audit name transcript)) = Some name

-- the name of the store, where the words ask to keep changes in one
abbrev pub store_named : Option Asked → Option (List ℕ)
store_named None = None
store_named (Some (Run name)) = None
store_named (Some (Sample n)) = None
store_named (Some (RunThen name ask)) = None
store_named (Some (Keep name store)) = Some store
store_named (Some (Audit name transcript)) = None

-- the name of the transcript, where the words ask to audit one
abbrev pub transcript_named : Option Asked → Option (List ℕ)
transcript_named None = None
transcript_named (Some (Run name)) = None
transcript_named (Some (Sample n)) = None
transcript_named (Some (RunThen name ask)) = None
transcript_named (Some (Keep name store)) = None
transcript_named (Some (Audit name transcript)) = Some transcript

-- the line that is written for other words
abbrev pub usage_line : List ℕ
usage_line =
    codes "usage: daggre run NAME | daggre sample N | daggre chance NAME PAIR.. [given PAIR..]"
    ++ codes " | daggre best NAME [PAIR..] | daggre expect NAME USER"
    ++ codes " | daggre audit NAME TRANSCRIPT | daggre keep NAME STORE" ++ 10 ∷ []

-- other words end with that line, or a front of it where writing fails
abbrev pub EndsUsage : Status → List ℕ → Type 0
EndsUsage Usage output = output ≡ usage_line
EndsUsage WriteFault output = IsFrontOf usage_line output
EndsUsage Done output = ⊥
EndsUsage MarketRefused output = ⊥
EndsUsage ReadFault output = ⊥
EndsUsage Memory output = ⊥
EndsUsage TooMany output = ⊥
EndsUsage DiskFault output = ⊥
EndsUsage StoreRefused output = ⊥
