-- The cliques at which a variable comes in, which the check counts.
use Rattle.std.specs.Prelude.{ℕ, length, Bool, ◌&&◌, ◌||◌, not, ◌==◌, nat_le, count_by}
use Rattle.std.specs.List.{range_with_len}
use Rattle.mk_tree.specs.Given.{GivenTree, holds, link_of}

-- clique k holds the variable, and is the first of all or is linked to one that does not
abbrev pub is_top : GivenTree → ℕ → ℕ → Bool
is_top t x k = holds t k x && ((k == 1) || not (holds t (link_of t k) x))

-- at most one clique is such a top
abbrev pub has_one_top : GivenTree → ℕ → Bool
has_one_top t x = nat_le (count_by (is_top t x) (range_with_len 1 (length t.cliques))) 1
