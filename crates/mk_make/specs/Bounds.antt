-- How long the commands of a sample are at most.
use Rattle.std.specs.Prelude.{ℕ, ◌+◌, ◌*◌, ◌≤◌, length}
use Rattle.mk_net.specs.Bounds.{max_variables}
use Rattle.mk_make.specs.Sample.{users, edits_of, sample_commands}

-- how many lines the commands have: each user joins and pays in, and after the edits each variable is resolved
abbrev pub command_lines : ℕ → ℕ
command_lines n = users + users + edits_of n + n + 1

-- the commands of every sample have at most 38 bytes for each of their lines
abbrev pub CommandsAreShort : Type 0
CommandsAreShort = (n : ℕ) → 2 ≤ n → n ≤ max_variables
    → length (sample_commands n) ≤ 38 * command_lines n
