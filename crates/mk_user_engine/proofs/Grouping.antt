-- Names of one group behind those of another.
use Rattle.std.proofs.Common.{◌≡◌, ℕ, suc, zero, ◌+◌, ◌*◌, ◌<◌, ◌≤◌, List, [], ◌∷◌, ◌++◌, All, take}
use Rattle.std.proofs.Common.{length, slice_index_or, refl, ap, ◌∙◌, arith}
use Rattle.std.specs.List.{AllByRecursion}
use Rattle.std.proofs.Math.Nat.{mul-le-mul_left}
use Rattle.std.proofs.lemmas.List.Elements.{All-from_recursion}
use Rattle.mk_user_engine.specs.declared.names.Named.{Named}
use Rattle.mk_user_engine.specs.Names.{AreStrided}
use Rattle.mk_user_engine.specs.Grouped.{widened}

-- one name more
pub widened_next : (a k : ℕ) (ns : List Named) (d : Named) → k < length ns
    → widened a (take (k + 1) ns) ≡ widened a (take k ns) ++ record {
      variable = (slice_index_or ns k d).variable;
      values = (slice_index_or ns k d).values;
      stride = a * (slice_index_or ns k d).stride;
    } ∷ []
widened_next a k [] d l = absurd (omega arith)
widened_next a zero (n ∷ ns) d l = refl
widened_next a (suc k) (n ∷ ns) d l =
    let e : suc k + 1 ≡ suc (k + 1) = omega arith in
    ap (λ i. widened a (take i (n ∷ ns))) e
    ∙ ap (λ (xs : List Named). record {
      variable = n.variable;
      values = n.values;
      stride = a * n.stride;
    } ∷ xs) (widened_next a k ns d (omega arith))

-- no stride is above the number of cells
stride_most : (s : ℕ) (ns : List Named) (cells : ℕ) → AreStrided s ns cells → s ≤ cells
stride_most s [] cells are = omega (arith, are)
stride_most s (n ∷ ns) cells are =
    let h = stride_most (s * n.values) ns cells are.2 in
    let m : s * 1 ≤ s * n.values = mul-le-mul_left s are.1 in
    omega (arith, h, m)

strides_below : (a s : ℕ) (ns : List Named) (cells most : ℕ) → AreStrided s ns cells
    → a * cells ≤ most → AllByRecursion (λ (n : Named). a * n.stride ≤ most) ns
strides_below a s [] cells most are l = tt
strides_below a s (n ∷ ns) cells most are l = (
  let h = stride_most s (n ∷ ns) cells are in
      let e : n.stride ≤ cells = omega (arith, h, are.0) in
      let m : a * n.stride ≤ a * cells = mul-le-mul_left a e in
      omega (arith, m, l),
  strides_below a (s * n.values) ns cells most are.2 l,
)

pub strides_few : (a : ℕ) (ns : List Named) (cells most : ℕ) → AreStrided 1 ns cells
    → a * cells ≤ most → All (λ (n : Named). a * n.stride ≤ most) ns
strides_few a ns cells most are l =
    All-from_recursion (λ (n : Named). a * n.stride ≤ most) ns
    (strides_below a 1 ns cells most are l)
