-- How a row is kept: its numbers, and zeros up to sixteen; a kept row gives its fields back.
use Rattle.std.specs.Prelude.{◌≡◌, ℕ, ◌-◌, ◌≤◌, List, ◌++◌, length, take, replicate}
use Rattle.std.proofs.Common.{◌∙◌}
use Rattle.mk_net.specs.inner.Kept.{given_back}
use Rattle.mk_net.specs.Bounds.{max_values}
use Rattle.mk_net.specs.declared.row.Row.TheInside.{Inside}

abbrev pub padded_row : List ℕ → List ℕ
padded_row row = row ++ replicate (max_values - length row) 0

pub record IsKeptRow (numbers : List ℕ) (n : ℕ) : Type 0 where
  pub whole : length numbers ≡ max_values
  pub fits : n ≤ max_values
  pub zeros : padded_row (take n numbers) ≡ numbers

pub row_inverse : (a b : Inside) → b.numbers ≡ padded_row (take a.size a.numbers) →
    b.size ≡ length (take a.size a.numbers) → IsKeptRow a.numbers a.size → b ≡ a
row_inverse a b e f h =
    given_back {I = Inside} (λ (numbers : List ℕ) (size : ℕ). record
    { numbers = numbers; size = size }) max_values
    a.numbers a.size b.numbers b.size h.whole h.fits (e ∙ h.zeros) f
