-- The images of a file: what a crash may leave of it, from its durable bytes and the ranges written since.
use Rattle.std.specs.Prelude.{◌≡◌, ℕ, ◌+◌, ◌<◌, ◌≤◌, ◌⊎◌, max, List, [], ◌∷◌, length, slice_index}
use Rattle.mk_disk.specs.Disk.{Torn}

-- one torn write after another, of which the newest comes first
abbrev pub IsImageOf : List ℕ → List (ℕ × ℕ) → List ℕ → Type 0
IsImageOf durable [] c = c ≡ durable
IsImageOf durable (range ∷ ranges) c = (d : List ℕ) × IsImageOf durable ranges d × Torn range.0 range.1 d c

-- the greatest length that a file had, by the ends of the ranges
abbrev pub greatest : ℕ → List (ℕ × ℕ) → ℕ
greatest len [] = len
greatest len (range ∷ ranges) = max (greatest len ranges) (range.0 + range.1)

-- each write began within the file
abbrev pub BeginWithin : ℕ → List (ℕ × ℕ) → Type 0
BeginWithin len [] = Unit {0}
BeginWithin len (range ∷ ranges) = (range.0 ≤ greatest len ranges) × BeginWithin len ranges

-- a place lies in none of the ranges
abbrev pub IsOutside : ℕ → List (ℕ × ℕ) → Type 0
IsOutside i [] = Unit {0}
IsOutside i (range ∷ ranges) = ((i < range.0) ⊎ (range.0 + range.1 ≤ i)) × IsOutside i ranges

-- byte by byte: any length from the durable one to the greatest, and each durable byte outside the ranges
pub record IsDirectImage (durable : List ℕ) (ranges : List (ℕ × ℕ)) (c : List ℕ) : Type 0 where
  pub no_shorter : length durable ≤ length c
  pub no_longer : length c ≤ greatest (length durable) ranges
  pub stays : (i : ℕ) → i < length durable → IsOutside i ranges → slice_index c i ≡ slice_index durable i

-- every image that is said byte by byte is among those that torn writes leave
abbrev pub EachImageCounts : Type 0
EachImageCounts =
    (durable : List ℕ) (ranges : List (ℕ × ℕ)) (c : List ℕ) → BeginWithin (length durable) ranges → IsDirectImage durable ranges c → IsImageOf durable ranges c
