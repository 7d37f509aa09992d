-- The last quotes of users.
use Rattle.std.specs.Prelude.{ℕ, List, map, Bool, ◌&&◌, ◌==◌, if◌then◌else◌, Option, Some, None, option_and_then, slice_get}
use Rattle.std.specs.Cmp.Lexicographic.{pointwise}
use Rattle.mk_net.specs.declared.words.Pair.{Pair}
use Rattle.mk_net.specs.Asked.{Asked}
use Rattle.mk_exact.specs.History.{Entry, users}
use Rattle.mk_spread.specs.Spreads.{SpreadAsked}
use Rattle.mk_spread.specs.Bounds.{Intervals}

-- limits of an edit: none, or from the first to the second
abbrev pub Interval : Type 0
Interval = Option (ℕ × ℕ)

-- what a quote says
pub data Quoted : Type 0 where
  -- an edit of a question may take these shares
  EditLimits : (question : Asked) (limits : Interval) → Quoted
  -- a spread over the values of a variable may take these shares, if any
  SpreadBounds : (spread : SpreadAsked) (intervals : Intervals) → Quoted

-- what a user's last quote says, and the revision that it was made at
pub record Quote : Type 0 where
  pub says : Quoted
  pub at : ℕ

-- one place for each user, in the order of joining
abbrev pub Quotes : Type 0
Quotes = List (Option Quote)

-- the quotes of users who were quoted nothing
abbrev pub no_quotes : List Entry → Quotes
no_quotes H = map (λ name. None) (users H)

abbrev pub last_quote : Quotes → ℕ → Option Quote
last_quote quotes u = option_and_then (λ held. held) (slice_get quotes u)

abbrev pub same_pair : Pair → Pair → Bool
same_pair a b = (a.variable == b.variable) && (a.value == b.value)

-- the same target, and the same pairs of the condition in the same order
abbrev pub same_question : Asked → Asked → Bool
same_question a b = same_pair a.target b.target && pointwise same_pair a.condition b.condition

-- the same variable, and the same pairs of the condition in the same order
abbrev pub same_spread : SpreadAsked → SpreadAsked → Bool
same_spread a b = (a.variable == b.variable) && pointwise same_pair a.condition b.condition

-- the limits of an edit of this question
abbrev pub limits_in : Quoted → Asked → Option Interval
limits_in (EditLimits question limits) asked = if same_question question asked then Some limits else None
limits_in (SpreadBounds spread intervals) asked = None

-- the bounds of a spread over the values of this variable
abbrev pub bounds_in : Quoted → SpreadAsked → Option Intervals
bounds_in (EditLimits question limits) asked = None
bounds_in (SpreadBounds spread intervals) asked = if same_spread spread asked then Some intervals else None

-- the limits of a quote for this question at this revision
abbrev pub current_limits : Option Quote → Asked → ℕ → Option Interval
current_limits None asked now = None
current_limits (Some quote) asked now = if quote.at == now then limits_in quote.says asked else None

-- the bounds of a quote for a spread over the values of this variable at this revision
abbrev pub current_bounds : Option Quote → SpreadAsked → ℕ → Option Intervals
current_bounds None asked now = None
current_bounds (Some quote) asked now = if quote.at == now then bounds_in quote.says asked else None
