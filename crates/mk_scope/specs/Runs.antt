-- Cells that lie side by side, or so far from a base.
use Rattle.std.specs.Prelude.{◌≡◌, ℕ, ◌+◌, ◌<◌, ◌≤◌, List, map, slice_index}
use Rattle.std.specs.List.{flat_map, range_with_len}

-- one of the first n numbers of a list
abbrev pub IsAmong : List ℕ → ℕ → ℕ → Type 0
IsAmong xs n c = (k : ℕ) × (k < n) × (slice_index xs k ≡ c)

-- one of the numbers from the first on, below the end
pub record IsBetween (first end c : ℕ) : Type 0 where
  pub from : first ≤ c
  pub below : c < end

-- a cell of one of the first n runs, which begin so far from a base
abbrev pub IsOfRuns : ℕ → ℕ → List ℕ → ℕ → ℕ → Type 0
IsOfRuns base run offsets n c = (k : ℕ) × (k < n) × IsBetween (base + slice_index offsets k) (base + slice_index offsets k + run) c

-- the cells that lie so far from a base
abbrev pub cells_at : ℕ → List ℕ → List ℕ
cells_at base offsets = map (λ c. base + c) offsets

-- the cells of runs that lie side by side, by the first cell of each run
abbrev pub runs_of : ℕ → List ℕ → List ℕ
runs_of run firsts = flat_map (λ c. range_with_len c run) firsts
