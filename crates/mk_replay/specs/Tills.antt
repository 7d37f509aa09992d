-- What room for payments is to its callers.
use Rattle.std.specs.Prelude.{ℕ, List, []}

-- for how many users there is room, and the two ends of each payment that was put in
pub record TillOf : Type 0 where
  pub room : ℕ
  pub payments : List (ℕ × ℕ)

-- room for so many users, and no payment yet
abbrev pub room_for : ℕ → TillOf
room_for users = record { room = users; payments = [] }
