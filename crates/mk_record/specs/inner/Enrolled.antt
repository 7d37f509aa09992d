-- How the users of a market are kept.
use Rattle.std.specs.Prelude.{◌≡◌, ℕ, ◌≤◌, List, length}
use Rattle.mk_net.specs.Bounds.{max_users}
use Rattle.mk_record.specs.declared.users.Member.{Member}
use Rattle.mk_record.specs.Members.{names_of}

-- the names by which users are found are theirs, and they are few
pub record IsEnrolled {E P : Type 0} (names : List (List ℕ)) (members : List (Member E P)) : Type 0 where
  pub named : names ≡ names_of members
  pub few : length members ≤ max_users
