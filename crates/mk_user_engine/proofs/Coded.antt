-- Cells by the values that they give the named variables: each list of values is some cell's.
use Rattle.std.proofs.Common.{◌≡◌, ℕ, suc, zero, ◌+◌, ◌*◌, ◌/◌, ◌%◌, ◌<◌, ◌≤◌, true, false, cond}
use Rattle.std.proofs.Common.{◌||◌, ◌⊎◌, inl, inr}
use Rattle.std.proofs.Common.{◌==◌, ◌++◌, take, slice_index_or, eq-eqb, eqb, List, [], ◌∷◌, All}
use Rattle.std.proofs.Common.{length, slice_index, refl, sym, ap, subst, ◌∙◌, arith}
use Rattle.std.specs.List.{AllByRecursion}
use Rattle.std.proofs.Math.Nat.{mul-le-mul_left, one-le-mul, mul-zero}
use Rattle.std.proofs.lemmas.Nat.{div-mul-add, mod-mul-add, mod_below}
use Rattle.std.proofs.lemmas.Bool.{cases_Bool, eqb-true, or_parts}
use Rattle.std.proofs.lemmas.List.Elements.{All-from_recursion, recursion_from_All}
use Rattle.mk_user_engine.specs.declared.names.Named.{Named}
use Rattle.mk_user_engine.specs.Names.{is_named, value_in, CanDivide, AreStrided, IsSized}

-- in units of the first stride, the cell that gives each variable its value
abbrev cell_with : (ℕ → ℕ) → List Named → ℕ
cell_with a [] = 0
cell_with a (n ∷ ns) = cell_with a ns * n.values + a n.variable

-- a cell, by what its first variable and those before it make of it
record IsPart (stride values value low rest : ℕ) : Type 0 where
  below : low + stride * value < stride * values
  same : low + stride * (rest * values + value) ≡ (low + stride * value) + stride * values * rest
  value_is : (low + stride * (rest * values + value)) / stride % values ≡ value

is_part : (stride values value low rest : ℕ) → value < values → low < stride
    → IsPart stride values value low rest
is_part stride values value low rest h l = record {
  below =
      let m : stride * (value + 1) ≤ stride * values = mul-le-mul_left stride (omega arith) in
      let e : stride * (value + 1) ≡ stride * value + stride = omega arith in
      omega (arith, m, e, l);
  same = omega arith;
  value_is =
      let turned : low + stride * (rest * values + value) ≡ (rest * values + value) * stride + low
      = omega arith in
      ap (λ k. k / stride % values) turned
      ∙ ap (λ k. k % values) (div-mul-add (rest * values + value) stride low l)
      ∙ mod-mul-add rest values value h;
}

cell_has : (a : ℕ → ℕ) (stride : ℕ) (ns : List Named) (cells low : ℕ) → AreStrided stride ns cells
    → AllByRecursion (λ (n : Named). a n.variable < n.values) ns → low < stride
    → (low + stride * cell_with a ns < cells)
    × ((x : ℕ) → is_named ns x ≡ true → value_in ns (low + stride * cell_with a ns) x ≡ a x)
cell_has a stride [] cells low are h l = (omega (arith, are, mul-zero stride), λ x e. absurd (cc))
cell_has a stride (n ∷ ns) cells low are h l =
    let v = a n.variable in let r = cell_with a ns in
    let part = is_part stride n.values v low r h.0 l in
    let ih = cell_has a (stride * n.values) ns cells (low + stride * v) are.2 h.1 part.below in (
      subst (λ c. c < cells) (sym part.same) ih.0,
      λ x e. at x (cases_Bool (n.variable == x)) e part
          (ih.1 x),
    )
  where
    cell : ℕ
    cell = low + stride * cell_with a (n ∷ ns)

    at : (x : ℕ) → (((n.variable == x) ≡ true) ⊎ ((n.variable == x) ≡ false))
        → (n.variable == x || is_named ns x) ≡ true
        → IsPart stride n.values (a n.variable) low (cell_with a ns)
        → (is_named ns x ≡ true → value_in ns ((low + stride * a n.variable) + stride * n.values *
        cell_with a ns) x ≡ a x)
        → cond (n.variable == x) (cell / n.stride % n.values) (value_in ns cell x) ≡ a x
    at x (inl e) named part ih =
        ap (λ b. cond b (cell / n.stride % n.values) (value_in ns cell x)) e
        ∙ ap (λ s. cell / s % n.values) are.0 ∙ part.value_is ∙ ap a (eqb-true n.variable x e)
    at x (inr e) named part ih =
        ap (λ b. cond b (cell / n.stride % n.values) (value_in ns cell x)) e
        ∙ ap (λ c. value_in ns c x) part.same
        ∙ ih (subst (λ b. (b || is_named ns x) ≡ true) e named)

-- some cell gives each named variable its value
pub cell_of_values : (a : ℕ → ℕ) (ns : List Named) (cells : ℕ) → AreStrided 1 ns cells
    → All (λ (n : Named). a n.variable < n.values) ns
    → (c : ℕ) × (c < cells) × ((x : ℕ) → is_named ns x ≡ true → value_in ns c x ≡ a x)
cell_of_values a ns cells are h =
    let has = cell_has a 1 ns cells 0 are (recursion_from_All (λ (n : Named). a n.variable <
    n.values) ns h) (omega arith) in
    (0 + 1 * cell_with a ns, has.0, has.1)

-- each named variable has at least one value, and its value changes after some cells
divide_each : (stride : ℕ) (ns : List Named) (cells : ℕ) → 1 ≤ stride → AreStrided stride ns cells
    → AllByRecursion CanDivide ns
divide_each stride [] cells p are = tt
divide_each stride (n ∷ ns) cells p are = (
  record { stride = let e = are.0 in omega (arith, e); values = are.1 },
  divide_each (stride * n.values) ns cells (one-le-mul p are.1) are.2,
)

pub can_divide : (ns : List Named) (cells : ℕ) → AreStrided 1 ns cells → All CanDivide ns
can_divide ns cells are = All-from_recursion CanDivide ns (divide_each 1 ns cells (omega arith) are)

cells_some : (stride : ℕ) (ns : List Named) (cells : ℕ) → 1 ≤ stride → AreStrided stride ns cells
    → 1 ≤ cells
cells_some stride [] cells p are = omega (arith, are)
cells_some stride (n ∷ ns) cells p are = cells_some (stride * n.values) ns cells
    (one-le-mul p are.1) are.2

-- a cell gives a named variable one of its values
value_each : (sizes : List ℕ) (ns : List Named) (c x : ℕ) → AllByRecursion (IsSized sizes) ns
    → is_named ns x ≡ true
    → value_in ns c x < slice_index sizes x
value_each sizes [] c x h e = absurd (cc)
value_each sizes (n ∷ ns) c x h e = at (cases_Bool (n.variable == x)) e (value_each sizes ns c x
    h.1)
  where
    at : (((n.variable == x) ≡ true) ⊎ ((n.variable == x) ≡ false))
        → (n.variable == x || is_named ns x) ≡ true
        → (is_named ns x ≡ true → value_in ns c x < slice_index sizes x)
        → cond (n.variable == x) (c / n.stride % n.values) (value_in ns c x) < slice_index sizes x
    at (inl i) named ih =
        let is = h.0 in
        let b = mod_below (c / n.stride) n.values is.some in
        let s = is.size_is in
        let v : slice_index sizes n.variable ≡ slice_index sizes x = ap (slice_index sizes)
        (eqb-true n.variable x i) in
        subst (λ b. cond b (c / n.stride % n.values) (value_in ns c x) < slice_index sizes x)
        (sym i) (omega (arith, b, s, v))
    at (inr i) named ih =
        subst (λ b. cond b (c / n.stride % n.values) (value_in ns c x) < slice_index sizes x)
        (sym i)
        (ih (subst (λ b. (b || is_named ns x) ≡ true) i named))

pub value_below : (sizes : List ℕ) (ns : List Named) (c x : ℕ) → All (IsSized sizes) ns
    → is_named ns x ≡ true → value_in ns c x < slice_index sizes x
value_below sizes ns c x h e = value_each sizes ns c x (recursion_from_All (IsSized sizes) ns h) e

within_each : (sizes : List ℕ) (ns : List Named) (x : ℕ) → AllByRecursion (IsSized sizes) ns
    → is_named ns x ≡ true → x < length sizes
within_each sizes [] x h e = absurd (cc)
within_each sizes (n ∷ ns) x h e = at (cases_Bool (n.variable == x)) e (within_each sizes ns x h.1)
  where
    at : (((n.variable == x) ≡ true) ⊎ ((n.variable == x) ≡ false))
        → (n.variable == x || is_named ns x) ≡ true
        → (is_named ns x ≡ true → x < length sizes) → x < length sizes
    at (inl i) named ih = let is = h.0 in let w = is.within in let v = eqb-true n.variable x i
        in omega (arith, w, v)
    at (inr i) named ih = ih (subst (λ b. (b || is_named ns x) ≡ true) i named)

pub name_within : (sizes : List ℕ) (ns : List Named) (x : ℕ) → All (IsSized sizes) ns
    → is_named ns x ≡ true → x < length sizes
name_within sizes ns x h e = within_each sizes ns x (recursion_from_All (IsSized sizes) ns h) e

-- ---- the first variable of a list that is the one

pub value_first : (ns : List Named) (i : ℕ) (d : Named) (c x : ℕ) → i < length ns
    → is_named (take i ns) x ≡ false → (slice_index_or ns i d).variable ≡ x
    → c / (slice_index_or ns i d).stride % (slice_index_or ns i d).values ≡ value_in ns c x
value_first [] i d c x l h e = absurd (omega arith)
value_first (n ∷ ns) zero d c x l h e = sym (ap (λ b. cond b (c / n.stride % n.values)
    (value_in ns c x)) (eq-eqb n.variable x e))
value_first (n ∷ ns) (suc i) d c x l h e =
    let p = or_parts (eqb n.variable x) (is_named (take i ns) x) h in
    value_first ns i d c x (omega arith) p.1 e ∙ sym (ap (λ b. cond b (c / n.stride % n.values)
    (value_in ns c x)) p.0)

pub value_none : (ns : List Named) (c x : ℕ) → is_named ns x ≡ false → 0 ≡ value_in ns c x
value_none [] c x h = refl
value_none (n ∷ ns) c x h =
    let p = or_parts (eqb n.variable x) (is_named ns x) h in
    value_none ns c x p.1 ∙ sym (ap (λ b. cond b (c / n.stride % n.values) (value_in ns c x)) p.0)

-- ---- one variable more

pub strided_push : (stride : ℕ) (ns : List Named) (cells variable values : ℕ)
    → AreStrided stride ns cells → 1 ≤ values
    → AreStrided stride (ns ++ record {
      variable = variable;
      values = values;
      stride =
          cells;
    } ∷ []) (cells * values)
strided_push stride [] cells variable values are p = (are, p, ap (λ k. k * values) are)
strided_push stride (n ∷ ns) cells variable values are p = (
  are.0,
  are.1,
  strided_push (stride * n.values) ns cells variable values are.2 p,
)
