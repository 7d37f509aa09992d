-- Pairs of cells.
use Rattle.std.specs.Prelude.{ℕ, ◌<◌, List, length}
use Rattle.mk_cell.specs.Cell.{IsCell}
use Rattle.mk_cell.specs.Products.{AreUnrounded}

pub record ArePairs (n : ℕ) (a e b d : ℕ → ℕ) : Type 0 where
  pub left : (c : ℕ) → c < n → IsCell (a c) (e c)
  pub right : (c : ℕ) → c < n → IsCell (b c) (d c)

pub pairs_of : (a e b d : ℕ → ℕ) (places exponents : List ℕ) → AreUnrounded a e b d places exponents → ArePairs (length places) a e b d
pairs_of a e b d places exponents h = record { left = λ c l. (h.each c l).left_cell; right = λ c l. (h.each c l).right_cell }
