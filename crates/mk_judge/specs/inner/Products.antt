-- Products of two numbers that need not be in range.
use Rattle.std.specs.Prelude.{ℕ, ◌+◌, ◌*◌, ◌^◌, ◌≤◌}
use Rattle.mk_judge.specs.declared.product.Product.{Product}
use Rattle.mk_judge.specs.declared.scale.Scale.{Scale}

-- what a product stands for
abbrev pub product_of : Product → ℕ
product_of product = product.number * 2 ^ product.bits

-- the first inequality of IsWanted, for a part and a product of a whole and a gain
abbrev pub IsAboveOne : Scale → ℕ → ℕ → ℕ → Type 0
IsAboveOne scale part product X =
    part * (1000000 * (2 ^ 19 + 1)) * 2 ^ scale.owed ≤ X * product * 2 ^ (scale.gained + 19)
