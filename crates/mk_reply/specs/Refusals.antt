-- Refusals, and how they are written.
use Rattle.std.specs.Prelude.{◌≡◌, ℕ, ◌≤◌, List, codes, decimal, ⊤, Option, option_map}
use Rattle.arrayvec.specs.ArrayVec.{ArrayVec}
use Rattle.mk_net.specs.Bounds.{max_variables, max_users}
use Rattle.mk_names.specs.Name.{IsName}
use Rattle.mk_text.specs.Joined.{◌&◌}
use Rattle.mk_text.specs.Numbers.{IsShort, IsLong, IsNarrow, AreLimits, limits_text, AreIntervals, intervals_text}
use Rattle.mk_text.specs.Texts.{IsPairText, pair_text}
use Rattle.mk_reply.specs.declared.refusal.Refusal.{Refusal}
use Rattle.mk_reply.specs.declared.refusal.Refusal.TheVariants.{Syntax, Long, Settled, User, Exists, Users, Unknown, Twice, Stale, Resolved, Impossible, Wide, Range, Full, Beyond, Short, Unresolved, NoVariable, Numbers, Sum, Outside, Sure, Memory}
use Rattle.mk_reply.specs.declared.refusal.Refusal.TheVariants.{Unsettled, Variables, Taken, ValueTwice}
use Rattle.mk_reply.specs.declared.refusal.Refusal.TheVariants.{RowCount, RowWidth, Cells, Link}
use Rattle.mk_reply.specs.declared.refusal.Refusal.TheVariants.{Uncovered, NotRunning, Unsettled}

-- the intervals that are given, if there are any
abbrev pub given_in : Option (ArrayVec (ℕ × ℕ)) → Option (List (ℕ × ℕ))
given_in intervals = option_map (λ given. given.items) intervals

abbrev pub refusal_text : Refusal → List ℕ
refusal_text Syntax = codes "syntax"
refusal_text Long = codes "long"
refusal_text Settled = codes "settled"
refusal_text Unsettled = codes "unsettled"
refusal_text (User user) = codes "user " & user
refusal_text (Exists user) = codes "exists " & user
refusal_text (Users held) = codes "users " & decimal held
refusal_text (Unknown pair) = codes "name " & pair_text pair
refusal_text (Twice variable) = codes "twice " & variable
refusal_text (Stale named now) = codes "stale " & decimal named & codes " " & decimal now
refusal_text (Resolved variable) = codes "resolved " & variable
refusal_text (Impossible pair) = codes "impossible " & pair_text pair
refusal_text Wide = codes "wide"
refusal_text (Range number) = codes "range " & decimal number
refusal_text (Full held) = codes "full " & decimal held
refusal_text (Beyond limits) = codes "beyond " & limits_text limits
refusal_text (Short bits) = codes "short " & decimal bits
refusal_text (Unresolved variable) = codes "open " & variable
refusal_text (NoVariable variable) = codes "variable " & variable
refusal_text (Numbers given) = codes "numbers " & decimal given
refusal_text (Sum sum) = codes "sum " & decimal sum
refusal_text (Outside intervals) = codes "outside " & intervals_text (given_in intervals)
refusal_text (Sure pair) = codes "sure " & pair_text pair
refusal_text (Variables held) = codes "variables " & decimal held
refusal_text (Taken variable) = codes "taken " & variable
refusal_text (ValueTwice value) = codes "value " & value
refusal_text (RowCount given) = codes "rows " & decimal given
refusal_text (RowWidth row given) = codes "width " & decimal row & codes " " & decimal given
refusal_text (Cells total) = codes "cells " & decimal total
refusal_text (Link number) = codes "link " & decimal number
refusal_text (Uncovered variable) = codes "cover " & variable
refusal_text (NotRunning variable) = codes "running " & variable
refusal_text Memory = codes "memory"

-- how many users a market may hold at most
pub record IsUsersLimit (n : ℕ) : Type 0 where
  pub positive : 1 ≤ n
  pub most : n ≤ max_users

-- the refusals that are read
abbrev pub IsRefusal : Refusal → Type 0
IsRefusal Syntax = ⊤
IsRefusal Long = ⊤
IsRefusal Settled = ⊤
IsRefusal Unsettled = ⊤
IsRefusal (User user) = IsName user
IsRefusal (Exists user) = IsName user
IsRefusal (Users held) = IsUsersLimit held
IsRefusal (Unknown pair) = IsPairText pair
IsRefusal (Twice variable) = IsName variable
IsRefusal (Stale named now) = IsNarrow named × IsLong now
IsRefusal (Resolved variable) = IsName variable
IsRefusal (Impossible pair) = IsPairText pair
IsRefusal Wide = ⊤
IsRefusal (Range number) = IsNarrow number
IsRefusal (Full held) = IsNarrow held
IsRefusal (Beyond limits) = AreLimits limits
IsRefusal (Short bits) = IsLong bits
IsRefusal (Unresolved variable) = IsName variable
IsRefusal (NoVariable variable) = IsName variable
IsRefusal (Numbers given) = IsShort given
IsRefusal (Sum sum) = IsShort sum
IsRefusal (Outside intervals) = AreIntervals (given_in intervals)
IsRefusal (Sure pair) = IsPairText pair
IsRefusal (Variables held) = held ≡ max_variables
IsRefusal (Taken variable) = IsName variable
IsRefusal (ValueTwice value) = IsName value
IsRefusal (RowCount given) = IsShort given
IsRefusal (RowWidth row given) = IsShort row × IsShort given
IsRefusal (Cells total) = IsShort total
IsRefusal (Link number) = IsShort number
IsRefusal (Uncovered variable) = IsName variable
IsRefusal (NotRunning variable) = IsName variable
IsRefusal Memory = ⊤
