-- A kept row with one number more.
use Rattle.std.specs.Prelude.{ℕ, suc, ◌<◌, List, slice_set}
use Rattle.std.proofs.Common.{◌∙◌, arith}
use Rattle.mk_net.specs.Bounds.{max_values}
use Rattle.mk_net.specs.inner.KeptRows.{IsKeptRow}
use Rattle.mk_net.proofs.Blanks.{set_length, blanks_longer}

pub row_longer : (numbers : List ℕ) (n number : ℕ) → IsKeptRow numbers n → n < max_values →
    IsKeptRow (slice_set numbers n number) (suc n)
row_longer numbers n number kept more = record {
  whole = set_length numbers n number ∙ kept.whole;
  fits = omega (arith, more);
  zeros = blanks_longer 0 max_values numbers n number kept.whole more kept.zeros;
}
