-- How a change weighs on a state, and what the states behind a front weigh.
use Rattle.std.specs.Prelude.{ℕ, ◌++◌, List, sum_by}
use Rattle.mk_states.specs.States.{states}
use Rattle.mk_states.specs.Ratios.{ratio_at}
use Rattle.mk_exact.specs.History.{Entry, Trade}

-- by how much a change multiplies the weight of a state
abbrev pub times : Entry → List ℕ → ℕ
times (Trade user ratio) s = ratio_at ratio s
times _ s = 1

-- what is weighed of the states that begin with a front, whose other variables have these sizes
abbrev pub behind : (List ℕ → ℕ) → List ℕ → List ℕ → ℕ
behind f sizes front = sum_by (λ s. f (front ++ s)) (states sizes)
