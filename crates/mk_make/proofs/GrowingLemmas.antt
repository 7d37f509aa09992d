-- How lines and listed items grow by one.
use Rattle.std.proofs.Common.{◌≡◌, sym, ap, ◌∙◌, ℕ, zero, suc, ◌+◌, ◌-◌, ◌≤◌, List, [], ◌∷◌, ◌++◌, map, codes, arith, append_assoc}
use Rattle.std.specs.List.{flat_map, range_with_len}
use Rattle.std.proofs.lemmas.List.{append-nil, map-append}
use Rattle.std.proofs.Math.Dec.{eqb-suc-suc, eqb-suc-zero}
use Rattle.std.proofs.lemmas.Grind.{flat_map-append}
use Rattle.mk_text.specs.Joined.{items_text}
use Rattle.mk_make.specs.Lines.{joined, comma_before, numbers_to}

range_more : (a n : ℕ) → range_with_len a (suc n) ≡ range_with_len a n ++ (a + n) ∷ []
range_more a zero = ap (λ (x : ℕ). x ∷ []) (omega arith)
range_more a (suc n) =
    ap (λ (xs : List ℕ). a ∷ xs) (range_more (a + 1) n)
    ∙ ap (λ (x : ℕ). a ∷ (range_with_len (a + 1) n ++ x ∷ [])) (omega arith)

numbers_more : (k : ℕ) → numbers_to (suc k) ≡ numbers_to k ++ suc k ∷ []
numbers_more k = range_more 1 k ∙ ap (λ (x : ℕ). numbers_to k ++ x ∷ []) (omega arith)

lines_after : (f : ℕ → List ℕ) (k : ℕ) → flat_map f (numbers_to (suc k)) ≡ flat_map f (numbers_to k) ++ f (suc k)
lines_after f k =
    ap (flat_map f) (numbers_more k)
    ∙ flat_map-append f (numbers_to k) (suc k ∷ [])
    ∙ ap (λ (t : List ℕ). flat_map f (numbers_to k) ++ t) (append-nil (f (suc k)))

-- a line more
pub lines_more : (f : ℕ → List ℕ) (k : ℕ) (out : List ℕ) → 1 ≤ k →
    out ++ flat_map f (numbers_to ((k + 1) - 1)) ≡ (out ++ flat_map f (numbers_to (k - 1))) ++ f k
lines_more f zero out h = absurd (omega arith)
lines_more f (suc m) out h =
    let next : (suc m + 1) - 1 ≡ suc m = omega arith in
    let here : m ≡ suc m - 1 = omega arith in
    ap (λ (j : ℕ). out ++ flat_map f (numbers_to j)) next
    ∙ ap (λ (t : List ℕ). out ++ t) (lines_after f m)
    ∙ sym (append_assoc out (flat_map f (numbers_to m)) (f (suc m)))
    ∙ ap (λ (j : ℕ). (out ++ flat_map f (numbers_to j)) ++ f (suc m)) here

items_after : (separator : List ℕ) (xs : List (List ℕ)) (y : List ℕ) →
    items_text separator (λ (t : List ℕ). t) (xs ++ y ∷ []) ≡ items_text separator (λ (t : List ℕ). t) xs ++ (separator ++ y)
items_after separator [] y = append-nil (separator ++ y)
items_after separator (x ∷ xs) y =
    ap (λ (t : List ℕ). (separator ++ x) ++ t) (items_after separator xs y)
    ∙ sym (append_assoc (separator ++ x) (items_text separator (λ (t : List ℕ). t) xs) (separator ++ y))

abbrev items : (ℕ → List ℕ) → ℕ → List ℕ
items f n = joined (codes ", ") (map f (numbers_to n))

later_comma : (p : ℕ) → comma_before (suc (suc p)) ≡ codes ", "
later_comma p = rw (eqb-suc-suc (suc p) zero, eqb-suc-zero p)

-- the items up to a second or later one
later_item : (f : ℕ → List ℕ) (p : ℕ) → items f (suc (suc p)) ≡ items f (suc p) ++ (codes ", " ++ f (suc (suc p)))
later_item f p =
    let rest : List (List ℕ) = map f (range_with_len 2 p) in
    ap (λ (xs : List ℕ). joined (codes ", ") (map f xs)) (numbers_more (suc p))
    ∙ ap (joined (codes ", ")) (map-append f (numbers_to (suc p)) (suc (suc p) ∷ []))
    ∙ ap (λ (t : List ℕ). f 1 ++ t) (items_after (codes ", ") rest (f (suc (suc p))))
    ∙ sym (append_assoc (f 1) (items_text (codes ", ") (λ (t : List ℕ). t) rest) (codes ", " ++ f (suc (suc p))))

joined_after : (f : ℕ → List ℕ) (m : ℕ) → items f (suc m) ≡ (items f m ++ comma_before (suc m)) ++ f (suc m)
joined_after f zero = append-nil (f 1)
joined_after f (suc p) =
    later_item f p
    ∙ sym (append_assoc (items f (suc p)) (codes ", ") (f (suc (suc p))))
    ∙ ap (λ (t : List ℕ). (items f (suc p) ++ t) ++ f (suc (suc p))) (sym (later_comma p))

-- an item more
pub items_more : (f : ℕ → List ℕ) (k : ℕ) (out : List ℕ) → 1 ≤ k →
    out ++ joined (codes ", ") (map f (numbers_to ((k + 1) - 1)))
    ≡ ((out ++ joined (codes ", ") (map f (numbers_to (k - 1)))) ++ comma_before k) ++ f k
items_more f zero out h = absurd (omega arith)
items_more f (suc m) out h =
    let next : (suc m + 1) - 1 ≡ suc m = omega arith in
    let here : m ≡ suc m - 1 = omega arith in
    ap (λ (j : ℕ). out ++ items f j) next
    ∙ ap (λ (t : List ℕ). out ++ t) (joined_after f m)
    ∙ sym (append_assoc out (items f m ++ comma_before (suc m)) (f (suc m)))
    ∙ ap (λ (t : List ℕ). t ++ f (suc m)) (sym (append_assoc out (items f m) (comma_before (suc m))))
    ∙ ap (λ (j : ℕ). ((out ++ items f j) ++ comma_before (suc m)) ++ f (suc m)) here
