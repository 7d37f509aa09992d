-- The last LF of what was read, and the bytes that are left of it.
use Rattle.std.proofs.Common.{◌≡◌, ℕ, ◌+◌, ◌-◌, ◌<◌, ◌≤◌, suc, List, ◌∷◌, length, get_or, take}
use Rattle.std.proofs.Common.{drop, Some, None, sym, ap, ◌∙◌, Contains, Bool, true, false, leb}
use Rattle.std.proofs.Common.{refl, arith}
use Rattle.std.proofs.lemmas.Bool.{eqb-true, eq-eqb, leb-true, leb-false}
use Rattle.std.proofs.lemmas.List.{drop-take, drop_more, get_or-drop, length-drop, get_or_default}
use Rattle.memchr.specs.Find.{IsLastByte, is_byte}

-- the bytes that are left begin with the next one
pub next_left : (buf view : List ℕ) (from to : ℕ) → from < to → to ≤ length buf
    → take (to - from) (drop from buf) ≡ view
    → view ≡ get_or buf from 0 ∷ take (to - (from + 1)) (drop (from + 1) buf)
next_left buf view from to some within is =
    let size : to - from ≡ suc (to - (from + 1)) = omega arith in
    sym is ∙ ap (λ n. take n (drop from buf)) size
    ∙ ap (take (suc (to - (from + 1)))) (drop_more buf from 0 (omega arith))

-- they are the rest of all that was read
pub rest_left : (buf view : List ℕ) (from to : ℕ) → from ≤ to → take (to - from) (drop from buf)
    ≡ view → view ≡ drop from (take to buf)
rest_left buf view from to within is =
    let size : to ≡ from + (to - from) = omega arith in
    sym (ap (λ n. drop from (take n buf)) size ∙ drop-take from (to - from) buf ∙ is)

-- one of them is where it was among all that was read
there : (all view : List ℕ) (from k : ℕ) → view ≡ drop from all → from + k < length all
    → get_or view k 10 ≡ get_or all (from + k) 0
there all view from k is inside =
    ap (λ xs. get_or xs k 10) is ∙ get_or-drop from all k 10
    ∙ get_or_default all (from + k) 10 0 inside

sized : (all view : List ℕ) (from : ℕ) → view ≡ drop from all → length view ≡ length all - from
sized all view from is = ap length is ∙ length-drop from all

-- where the last LF stands behind the bytes that are gone, there is one among those that are left
pub some_left : (all view : List ℕ) (from at : ℕ) → view ≡ drop from all
    → IsLastByte (is_byte 10) all (Some at) → from ≤ at → Contains view 10
some_left all view from at is last behind =
    let back : from + (at - from) ≡ at = omega arith in
    let high : at < length all = last.0.high in (
      at - from,
      omega (arith, sized all view from is),
      there all view from (at - from) is (omega (arith, high)) ∙ ap (λ k. get_or all k 0) back
          ∙ eqb-true (get_or all at 0) 10 last.1,
    )

-- and no byte that is left is an LF where none that was read is, or all of them are gone
module _ (all view : List ℕ) (from : ℕ) (is : view ≡ drop from all) (has : Contains view 10) where
  inside : from + has.0 < length all
  inside = omega (arith, sized all view from is, has.1)

  found : is_byte 10 (get_or all (from + has.0) 0) ≡ true
  found = eq-eqb (get_or all (from + has.0) 0) 10
      (sym (there all view from has.0 is inside) ∙ has.2)

  pub not_later : (at : ℕ) → IsLastByte (is_byte 10) all (Some at) → from ≤ at
  not_later at last = by_test (leb from at) refl
    where
      by_test : (b : Bool) → leb from at ≡ b → from ≤ at
      by_test true e = leb-true from at e
      by_test false e = absurd (last.0.after (from + has.0) (omega (leb-false from at e, arith))
          inside found)

  pub not_none : IsLastByte (is_byte 10) all None → ⊥
  not_none none = none (from + has.0) (omega arith) inside found
