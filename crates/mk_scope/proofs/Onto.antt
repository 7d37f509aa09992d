-- The cells of a whole that have the values of a part's cell: all lie equally far from the first of them.
use Rattle.std.proofs.Common.{◌≡◌, ℕ, zero, suc, ◌+◌, ◌*◌, ◌/◌, ◌%◌, ◌<◌, ◌≤◌, Bool, true, false, cond, not, ◌&&◌, ◌||◌, ◌⊎◌, inl, inr, eqb, List, [], ◌∷◌, ◌++◌, map, filter, flat_map, length, slice_index, All, refl, sym, ap, ◌∙◌, arith, eq-eqb, ne_eqb}
use Rattle.std.specs.List.{range_with_len}
use Rattle.std.proofs.Math.Nat.{mod-lt}
use Rattle.std.proofs.Math.Path.{fun_ext}
use Rattle.std.proofs.lemmas.Nat.{div-mul-add, mod-mul-add, div-add-mod', div_below}
use Rattle.std.proofs.lemmas.Bool.{cases_eq, cases_Bool, both_ways, or_left, or_right, or_cases, eqb-true}
use Rattle.std.proofs.lemmas.Simd.{map-map}
use Rattle.std.proofs.lemmas.List.{map-append, length-map}
use Rattle.std.proofs.lemmas.List.Elements.{All-head, All-tail}
use Rattle.std.proofs.lemmas.List.FromFn.{length-range_with_len, length-map-range_with_len, get_or-map-range_with_len}
use Rattle.mk_states.specs.States.{numbers_below}
use Rattle.mk_sums.specs.Sums.{upd, listed}
use Rattle.mk_sums.specs.Cells.{keep, cells, cell_of, place, Apart}
use Rattle.mk_sums.proofs.Tables.{cell_below}
use Rattle.mk_scope.specs.Scopes.{ScopeOf, IsScope, Rising, LiesIn, size_in, cells_in, has_variable}
use Rattle.mk_scope.specs.Cells.{values_at, cell_in, cells_onto, cells_beside}
use Rattle.mk_scope.specs.Places.{ArePlaces}
use Rattle.mk_scope.specs.inner.Strides.{repeated, cells_with, values_moved}
use Rattle.mk_scope.proofs.Members.{rising_apart, size_pos}
use Rattle.mk_scope.proofs.Values.{place_below, some_cells, cells_same, cells_pos}
use Rattle.mk_scope.proofs.Doubled.{below_rows, rows_filter, length-repeated, repeated_first, repeated_value, place_in_row, first_value, filter_all, filter_below}

map_range : (f g : ℕ → ℕ) (a n : ℕ) → ((c : ℕ) → a ≤ c → c < a + n → f c ≡ g c) → map f (range_with_len a n) ≡ map g (range_with_len a n)
map_range f g a zero h = refl
map_range f g a (suc n) h =
    ap (λ y. y ∷ map f (range_with_len (a + 1) n)) (h a (omega arith) (omega arith))
    ∙ ap (λ (ys : List ℕ). g a ∷ ys) (map_range f g (a + 1) n (λ c i j. h c (omega arith) (omega arith)))

map-flat_map : (g : ℕ → ℕ) (row : ℕ → List ℕ) (vs : List ℕ) → map g (flat_map row vs) ≡ flat_map (λ v. map g (row v)) vs
map-flat_map g row [] = refl
map-flat_map g row (v ∷ vs) = map-append g (row v) (flat_map row vs) ∙ ap (λ (ys : List ℕ). map g (row v) ++ ys) (map-flat_map g row vs)

same_rows : (f g : ℕ → List ℕ) (vs : List ℕ) → ((v : ℕ) → f v ≡ g v) → flat_map f vs ≡ flat_map g vs
same_rows f g vs h = ap (λ k. flat_map k vs) (fun_ext h)

same_map : (f g : ℕ → ℕ) (xs : List ℕ) → ((c : ℕ) → f c ≡ g c) → map f xs ≡ map g xs
same_map f g xs h = ap (λ k. map k xs) (fun_ext h)

eqb_split : (v k g d : ℕ) → 0 < k → g < k → eqb (v * k + g) d ≡ (eqb v (d / k) && eqb g (d % k))
eqb_split v k g d p l = at (cases_eq (v * k + g) d)
  where
    both : (v ≡ d / k) → (g ≡ d % k) → v * k + g ≡ d
    both e f = ap (λ n. n * k + g) e ∙ ap (λ n. d / k * k + n) f ∙ div-add-mod' d k

    apart : (v * k + g ≡ d → ⊥) → ((v ≡ d / k) ⊎ (v ≡ d / k → ⊥)) → ((g ≡ d % k) ⊎ (g ≡ d % k → ⊥)) → (eqb v (d / k) && eqb g (d % k)) ≡ false
    apart n (inl e) (inl f) = absurd (n (both e f))
    apart n (inl e) (inr f) = ap (λ b. b && eqb g (d % k)) (eq-eqb v (d / k) e) ∙ ne_eqb g (d % k) f
    apart n (inr e) f = ap (λ b. b && eqb g (d % k)) (ne_eqb v (d / k) e)

    at : ((v * k + g ≡ d) ⊎ (v * k + g ≡ d → ⊥)) → eqb (v * k + g) d ≡ (eqb v (d / k) && eqb g (d % k))
    at (inl e) =
        let q : v ≡ d / k = sym (div-mul-add v k g l) ∙ ap (λ n. n / k) e in
        let r : g ≡ d % k = sym (mod-mul-add v k g l) ∙ ap (λ n. n % k) e in
        eq-eqb (v * k + g) d e ∙ sym (ap (λ b. b && eqb g (d % k)) (eq-eqb v (d / k) q) ∙ eq-eqb g (d % k) r)
    at (inr n) = ne_eqb (v * k + g) d n ∙ sym (apart n (cases_eq v (d / k)) (cases_eq g (d % k)))

pub listed_range : (a n x : ℕ) → a ≤ x → x < a + n → listed (range_with_len a n) x ≡ true
listed_range a zero x p q = absurd (omega arith)
listed_range a (suc n) x p q = at (cases_eq x a) (λ r. listed_range (a + 1) n x r (omega arith))
  where
    at : ((x ≡ a) ⊎ (x ≡ a → ⊥)) → (a + 1 ≤ x → listed (range_with_len (a + 1) n) x ≡ true)
        → (eqb x a || listed (range_with_len (a + 1) n) x) ≡ true
    at (inl e) ih = or_left (eqb x a) (listed (range_with_len (a + 1) n) x) (eq-eqb x a e)
    at (inr d) ih = or_right (eqb x a) (listed (range_with_len (a + 1) n) x) (ih (omega (arith, d)))

pub listed_keep : (inside : ℕ → Bool) (xs : List ℕ) (y : ℕ) → listed (keep inside xs) y ≡ true
    → listed xs y ≡ true
listed_keep inside [] y h = h
listed_keep inside (x ∷ xs) y h = at (inside x) h (listed_keep inside xs y)
  where
    at : (b : Bool) → listed (cond b (x ∷ keep inside xs) (keep inside xs)) y ≡ true → (listed (keep inside xs) y ≡ true → listed xs y ≡ true) → (eqb y x || listed xs y) ≡ true
    at true p ih = from (or_cases (eqb y x) (listed (keep inside xs) y) p)
      where
        from : ((eqb y x ≡ true) ⊎ (listed (keep inside xs) y ≡ true)) → (eqb y x || listed xs y) ≡ true
        from (inl e) = or_left (eqb y x) (listed xs y) e
        from (inr q) = or_right (eqb y x) (listed xs y) (ih q)
    at false p ih = or_right (eqb y x) (listed xs y) (ih p)

module _ (size : ℕ → ℕ) (inside : ℕ → Bool) where
  -- the first cell of the whole for a cell of the part
  abbrev base : List ℕ → ℕ → ℕ
  base [] d = 0
  base (x ∷ xs) d = cond (inside x) (d / cells size (keep inside xs) * cells size xs + base xs (d % cells size (keep inside xs))) (base xs d)

  -- the values of what moves with the part, and of what moves beside it
  abbrev of_part : ℕ → List ℕ
  of_part x = cond (inside x) (numbers_below (size x)) (0 ∷ [])

  abbrev of_rest : ℕ → List ℕ
  of_rest x = cond (not (inside x)) (numbers_below (size x)) (0 ∷ [])

  bases_in : (stride n k : ℕ) (f : ℕ → ℕ) → repeated stride (numbers_below n) (map f (numbers_below k)) ≡ map (λ d. d / k * stride + f (d % k)) (numbers_below (n * k))
  bases_in stride n k f =
      same_rows (λ v. map (λ c. v * stride + c) (map f (numbers_below k))) (λ v. map (λ d. d / k * stride + f (d % k)) (map (λ c. v * k + c) (numbers_below k))) (numbers_below n) row
      ∙ sym (map-flat_map (λ d. d / k * stride + f (d % k)) (λ v. map (λ c. v * k + c) (numbers_below k)) (numbers_below n))
      ∙ ap (map (λ d. d / k * stride + f (d % k))) (sym (below_rows n k))
    where
      row : (v : ℕ) → map (λ c. v * stride + c) (map f (numbers_below k)) ≡ map (λ d. d / k * stride + f (d % k)) (map (λ c. v * k + c) (numbers_below k))
      row v =
          map-map (λ c. v * stride + c) f (numbers_below k)
          ∙ map_range (λ c. v * stride + f c) (λ c. (v * k + c) / k * stride + f ((v * k + c) % k)) 0 k
          (λ c i l.
          let m : c < k = omega arith in
          sym (ap (λ q. q * stride + f ((v * k + c) % k)) (div-mul-add v k c m) ∙ ap (λ r. v * stride + f r) (mod-mul-add v k c m)))
          ∙ sym (map-map (λ d. d / k * stride + f (d % k)) (λ c. v * k + c) (numbers_below k))

  bases_are : (xs : List ℕ) → cells_with size of_part xs ≡ map (base xs) (numbers_below (cells size (keep inside xs)))
  bases_are [] = refl
  bases_are (x ∷ xs) = at (inside x) (bases_are xs)
    where
      at : (b : Bool) → cells_with size of_part xs ≡ map (base xs) (numbers_below (cells size (keep inside xs)))
          → repeated (cells size xs) (cond b (numbers_below (size x)) (0 ∷ [])) (cells_with size of_part xs)
          ≡ map (λ d. cond b (d / cells size (keep inside xs) * cells size xs + base xs (d % cells size (keep inside xs))) (base xs d)) (numbers_below (cells size (cond b (x ∷ keep inside xs) (keep inside xs))))
      at true ih = ap (repeated (cells size xs) (numbers_below (size x))) ih ∙ bases_in (cells size xs) (size x) (cells size (keep inside xs)) (base xs)
      at false ih = repeated_first (cells size xs) (cells_with size of_part xs) ∙ ih

  part_below : (xs : List ℕ) (c : ℕ) (a : ℕ → ℕ) → c < cells size xs → cell_of size (keep inside xs) (place size xs c a) < cells size (keep inside xs)
  part_below xs c a l = cell_below size (keep inside xs) (place size xs c a) (λ y p. place_below size xs c a l y (listed_keep inside xs y p))

  -- the cells that go to a cell of the part
  abbrev Onto : List ℕ → (ℕ → ℕ) → ℕ → Type 0
  Onto xs a d = filter (λ c. eqb (cell_of size (keep inside xs) (place size xs c a)) d) (numbers_below (cells size xs)) ≡ map (λ c. base xs d + c) (cells_with size of_rest xs)

  onto_in : (x : ℕ) (xs : List ℕ) → listed xs x ≡ false → (a : ℕ → ℕ) (d : ℕ) → d < size x * cells size (keep inside xs)
      → ((b : ℕ → ℕ) (e : ℕ) → e < cells size (keep inside xs) → Onto xs b e)
      → filter (λ c. eqb (cell_of size (x ∷ keep inside xs) (place size (x ∷ xs) c a)) d) (numbers_below (size x * cells size xs))
      ≡ map (λ c. (d / cells size (keep inside xs) * cells size xs + base xs (d % cells size (keep inside xs))) + c) (repeated (cells size xs) (0 ∷ []) (cells_with size of_rest xs))
  onto_in x xs new a d l ih =
      rows_filter (λ c. eqb (cell_of size (x ∷ ys) (place size (x ∷ xs) c a)) d) (λ v. eqb v (d / k)) (λ v c. eqb (cell_of size ys (place size xs c (upd a x v))) (d % k)) (size x) stride
      (map (λ c. base xs (d % k) + c) rest) splits (λ v. ih (upd a x v) (d % k) (mod-lt d pos))
      ∙ repeated_value (λ v. eqb v (d / k)) stride (size x) (d / k) (map (λ c. base xs (d % k) + c) rest) (λ v. refl) (div_below d k (size x) pos l)
      ∙ map-map (λ c. d / k * stride + c) (λ c. base xs (d % k) + c) rest
      ∙ same_map (λ c. d / k * stride + (base xs (d % k) + c)) (λ c. (d / k * stride + base xs (d % k)) + c) rest (λ c. omega arith)
      ∙ ap (map (λ c. (d / k * stride + base xs (d % k)) + c)) (sym (repeated_first stride rest))
    where
      ys : List ℕ
      ys = keep inside xs

      k : ℕ
      k = cells size ys

      stride : ℕ
      stride = cells size xs

      rest : List ℕ
      rest = cells_with size of_rest xs

      pos : 0 < k
      pos = some_cells (size x) k d l

      splits : (v c : ℕ) → c < stride → eqb (cell_of size (x ∷ ys) (place size (x ∷ xs) (v * stride + c) a)) d ≡ (eqb v (d / k) && eqb (cell_of size ys (place size xs c (upd a x v))) (d % k))
      splits v c m =
          ap (λ (b : ℕ → ℕ). eqb (cell_of size (x ∷ ys) b) d) (place_in_row size x xs v c a m)
          ∙ ap (λ u. eqb (u * k + cell_of size ys (place size xs c (upd a x v))) d) (first_value size x xs new v c a)
          ∙ eqb_split v k (cell_of size ys (place size xs c (upd a x v))) d pos (part_below xs c (upd a x v) m)

  onto_out : (x : ℕ) (xs : List ℕ) (a : ℕ → ℕ) (d : ℕ) → ((b : ℕ → ℕ) → Onto xs b d)
      → filter (λ c. eqb (cell_of size (keep inside xs) (place size (x ∷ xs) c a)) d) (numbers_below (size x * cells size xs))
      ≡ map (λ c. base xs d + c) (repeated (cells size xs) (numbers_below (size x)) (cells_with size of_rest xs))
  onto_out x xs a d ih =
      rows_filter (λ c. eqb (cell_of size ys (place size (x ∷ xs) c a)) d) (λ v. true) (λ v c. eqb (cell_of size ys (place size xs c (upd a x v))) d) (size x) stride
      (map (λ c. base xs d + c) rest) splits (λ v. ih (upd a x v))
      ∙ ap (λ (vs : List ℕ). repeated stride vs (map (λ c. base xs d + c) rest)) (filter_all (numbers_below (size x)))
      ∙ same_rows (λ v. map (λ c. v * stride + c) (map (λ c. base xs d + c) rest)) (λ v. map (λ c. base xs d + c) (map (λ c. v * stride + c) rest)) (numbers_below (size x)) row
      ∙ sym (map-flat_map (λ c. base xs d + c) (λ v. map (λ c. v * stride + c) rest) (numbers_below (size x)))
    where
      ys : List ℕ
      ys = keep inside xs

      stride : ℕ
      stride = cells size xs

      rest : List ℕ
      rest = cells_with size of_rest xs

      splits : (v c : ℕ) → c < stride → eqb (cell_of size ys (place size (x ∷ xs) (v * stride + c) a)) d ≡ (true && eqb (cell_of size ys (place size xs c (upd a x v))) d)
      splits v c m = ap (λ (b : ℕ → ℕ). eqb (cell_of size ys b) d) (place_in_row size x xs v c a m)

      row : (v : ℕ) → map (λ c. v * stride + c) (map (λ c. base xs d + c) rest) ≡ map (λ c. base xs d + c) (map (λ c. v * stride + c) rest)
      row v =
          map-map (λ c. v * stride + c) (λ c. base xs d + c) rest
          ∙ same_map (λ c. v * stride + (base xs d + c)) (λ c. base xs d + (v * stride + c)) rest (λ c. omega arith)
          ∙ sym (map-map (λ c. base xs d + c) (λ c. v * stride + c) rest)

  onto : (xs : List ℕ) → Apart xs → (a : ℕ → ℕ) (d : ℕ) → d < cells size (keep inside xs) → Onto xs a d
  onto [] apart a zero l = refl
  onto [] apart a (suc d) l = absurd (omega arith)
  onto (x ∷ xs) apart a d l = at (inside x) l (onto xs apart.1)
    where
      at : (b : Bool) → d < cells size (cond b (x ∷ keep inside xs) (keep inside xs)) → ((b : ℕ → ℕ) (e : ℕ) → e < cells size (keep inside xs) → Onto xs b e)
          → filter (λ c. eqb (cell_of size (cond b (x ∷ keep inside xs) (keep inside xs)) (place size (x ∷ xs) c a)) d) (numbers_below (size x * cells size xs))
          ≡ map (λ c. cond b (d / cells size (keep inside xs) * cells size xs + base xs (d % cells size (keep inside xs))) (base xs d) + c)
          (repeated (cells size xs) (cond (not b) (numbers_below (size x)) (0 ∷ [])) (cells_with size of_rest xs))
      at true m ih = onto_in x xs apart.0 a d m ih
      at false m ih = onto_out x xs a d (λ b. ih b d m)

  -- each cell of the whole is one of what moves with the part and one of what moves beside it
  moved_apart : (xs : List ℕ) → length (cells_with size of_part xs) * length (cells_with size of_rest xs) ≡ cells size xs
  moved_apart [] = refl
  moved_apart (x ∷ xs) = at (inside x) (moved_apart xs)
    where
      n : ℕ
      n = size x

      stride : ℕ
      stride = cells size xs

      with_part : List ℕ
      with_part = cells_with size of_part xs

      rest : List ℕ
      rest = cells_with size of_rest xs

      all : (low : List ℕ) → length (repeated stride (numbers_below n) low) ≡ n * length low
      all low = length-repeated stride (numbers_below n) low ∙ ap (λ k. k * length low) (length-range_with_len 0 n)

      first : (low : List ℕ) → length (repeated stride (0 ∷ []) low) ≡ length low
      first low = ap (λ (ys : List ℕ). length ys) (repeated_first stride low)

      at : (b : Bool) → length with_part * length rest ≡ stride
          → length (repeated stride (cond b (numbers_below n) (0 ∷ [])) with_part) * length (repeated stride (cond (not b) (numbers_below n) (0 ∷ [])) rest) ≡ n * stride
      at true ih =
          let s : n * length with_part * length rest ≡ n * (length with_part * length rest) = omega arith in
          ap (λ k. k * length (repeated stride (0 ∷ []) rest)) (all with_part) ∙ ap (λ k. n * length with_part * k) (first rest) ∙ s ∙ ap (λ k. n * k) ih
      at false ih =
          let s : length with_part * (n * length rest) ≡ n * (length with_part * length rest) = omega arith in
          ap (λ k. k * length (repeated stride (numbers_below n) rest)) (first with_part) ∙ ap (λ k. length with_part * k) (all rest) ∙ s ∙ ap (λ k. n * k) ih

-- ---- the variables of a part are those of the whole that it has

apart_from : (y x : ℕ) (xs : List ℕ) → All (λ z. x < z) xs → listed xs y ≡ true → x < y
apart_from y x [] h p = absurd (both_ways false refl p)
apart_from y x (z ∷ zs) h p = at (or_cases (eqb y z) (listed zs y) p) (apart_from y x zs (All-tail (λ w. x < w) z zs h))
  where
    at : ((eqb y z ≡ true) ⊎ (listed zs y ≡ true)) → (listed zs y ≡ true → x < y) → x < y
    at (inl e) ih = let f = eqb-true y z e in let l = All-head (λ w. x < w) z zs h in omega arith
    at (inr q) ih = ih q

keep_same : (f g : ℕ → Bool) (xs : List ℕ) → ((y : ℕ) → listed xs y ≡ true → f y ≡ g y) → keep f xs ≡ keep g xs
keep_same f g [] h = refl
keep_same f g (x ∷ xs) h =
    ap (λ b. cond b (x ∷ keep f xs) (keep f xs)) (h x (or_left (eqb x x) (listed xs x) (eq-eqb x x refl)))
    ∙ ap (λ (ys : List ℕ). cond (g x) (x ∷ ys) ys) (keep_same f g xs (λ y p. h y (or_right (eqb y x) (listed xs y) p)))

-- what is listed and is not the first is listed in the rest
in_rest : (x y : ℕ) (xs : List ℕ) → listed (x ∷ xs) y ≡ true → (y ≡ x → ⊥) → listed xs y ≡ true
in_rest x y xs h d = at (or_cases (eqb y x) (listed xs y) h)
  where
    at : ((eqb y x ≡ true) ⊎ (listed xs y ≡ true)) → listed xs y ≡ true
    at (inl e) = absurd (d (eqb-true y x e))
    at (inr q) = q

first_listed : (y : ℕ) (ys : List ℕ) → listed (y ∷ ys) y ≡ true
first_listed y ys = or_left (eqb y y) (listed ys y) (eq-eqb y y refl)

none_kept : (xs : List ℕ) → keep (λ y. false) xs ≡ []
none_kept [] = refl
none_kept (x ∷ xs) = none_kept xs

sublist : (ys xs : List ℕ) → Rising ys → Rising xs → ((y : ℕ) → listed ys y ≡ true → listed xs y ≡ true) → keep (listed ys) xs ≡ ys
sublist [] xs r s h = none_kept xs
sublist (y ∷ ys) [] r s h = absurd (both_ways false refl (h y (first_listed y ys)))
sublist (y ∷ ys) (x ∷ xs) r s h = at (cases_eq y x) (λ e. sublist ys xs r.1 s.1 (later e)) (λ d. sublist (y ∷ ys) xs r s.1 (all_later d))
  where
    later : (y ≡ x) → (z : ℕ) → listed ys z ≡ true → listed xs z ≡ true
    later e z p = let l = apart_from z y ys r.0 p in in_rest x z xs (h z (or_right (eqb z y) (listed ys z) p)) (λ f. omega arith)

    beyond : (y ≡ x → ⊥) → x < y
    beyond d = apart_from y x xs s.0 (in_rest x y xs (h y (first_listed y ys)) d)

    not_first : (y ≡ x → ⊥) → (z : ℕ) → listed (y ∷ ys) z ≡ true → z ≡ x → ⊥
    not_first d z p f = from (or_cases (eqb z y) (listed ys z) p)
      where
        from : ((eqb z y ≡ true) ⊎ (listed ys z ≡ true)) → ⊥
        from (inl e) = d (sym (eqb-true z y e) ∙ f)
        from (inr q) = let l = apart_from z y ys r.0 q in let m = beyond d in omega arith

    all_later : (y ≡ x → ⊥) → (z : ℕ) → listed (y ∷ ys) z ≡ true → listed xs z ≡ true
    all_later d z p = in_rest x z xs (h z p) (not_first d z p)

    unlisted : (y ≡ x → ⊥) → ((listed (y ∷ ys) x ≡ true) ⊎ (listed (y ∷ ys) x ≡ false)) → listed (y ∷ ys) x ≡ false
    unlisted d (inl p) = absurd (not_first d x p refl)
    unlisted d (inr p) = p

    at : ((y ≡ x) ⊎ (y ≡ x → ⊥)) → ((y ≡ x) → keep (listed ys) xs ≡ ys) → ((y ≡ x → ⊥) → keep (listed (y ∷ ys)) xs ≡ y ∷ ys)
        → cond (listed (y ∷ ys) x) (x ∷ keep (listed (y ∷ ys)) xs) (keep (listed (y ∷ ys)) xs) ≡ y ∷ ys
    at (inl e) ih jh =
        ap (λ b. cond b (x ∷ keep (listed (y ∷ ys)) xs) (keep (listed (y ∷ ys)) xs)) (or_left (eqb x y) (listed ys x) (eq-eqb x y (sym e)))
        ∙ ap (λ (zs : List ℕ). x ∷ zs) (keep_same (listed (y ∷ ys)) (listed ys) xs (λ z p. let l = apart_from z x xs s.0 p in ap (λ b. b || listed ys z) (ne_eqb z y (λ f. omega arith))) ∙ ih e)
        ∙ ap (λ z. z ∷ ys) (sym e)
    at (inr d) ih jh = ap (λ b. cond b (x ∷ keep (listed (y ∷ ys)) xs) (keep (listed (y ∷ ys)) xs)) (unlisted d (cases_Bool (listed (y ∷ ys) x))) ∙ jh d

cell_of_same : (f g : ℕ → ℕ) (xs : List ℕ) (a : ℕ → ℕ) → ((x : ℕ) → listed xs x ≡ true → f x ≡ g x) → cell_of f xs a ≡ cell_of g xs a
cell_of_same f g [] a h = refl
cell_of_same f g (x ∷ xs) a h =
    let rest : (y : ℕ) → listed xs y ≡ true → f y ≡ g y = λ y p. h y (or_right (eqb y x) (listed xs y) p) in
    ap (λ n. a x * n + cell_of f xs a) (cells_same f g xs rest) ∙ ap (λ n. a x * cells g xs + n) (cell_of_same f g xs a rest)

module _ (part whole : ScopeOf) (is_part : IsScope part) (is_whole : IsScope whole) (lies : LiesIn part whole) where
  variables_are : keep (has_variable part) whole.variables ≡ part.variables
  variables_are = sublist part.variables whole.variables is_part.rising is_whole.rising (λ y p. (lies y p).0)

  cells_are : cells (size_in whole) (keep (has_variable part) whole.variables) ≡ cells_in part
  cells_are = ap (cells (size_in whole)) variables_are ∙ cells_same (size_in whole) (size_in part) part.variables (λ x p. sym (lies x p).1)

  goes : (c : ℕ) → cell_of (size_in whole) (keep (has_variable part) whole.variables) (values_at whole c) ≡ cell_in part whole c
  goes c =
      ap (λ (ys : List ℕ). cell_of (size_in whole) ys (values_at whole c)) variables_are
      ∙ cell_of_same (size_in whole) (size_in part) part.variables (values_at whole c) (λ x p. sym (lies x p).1)

  -- one base for each cell of the part
  pub bases_count : length (cells_with (size_in whole) (values_moved whole part true) whole.variables) ≡ cells_in part
  bases_count =
      ap (λ (ys : List ℕ). length ys) (bases_are (size_in whole) (has_variable part) whole.variables)
      ∙ length-map-range_with_len (base (size_in whole) (has_variable part) whole.variables) 0 (cells (size_in whole) (keep (has_variable part) whole.variables)) ∙ cells_are

  pub cells_apart : length (cells_with (size_in whole) (values_moved whole part true) whole.variables) * length (cells_with (size_in whole) (values_moved whole part false) whole.variables) ≡ cells_in whole
  cells_apart = moved_apart (size_in whole) (has_variable part) whole.variables

  pub onto_cells : (d : ℕ) → d < cells_in part
      → map (λ c. slice_index (cells_with (size_in whole) (values_moved whole part true) whole.variables) d + c) (cells_with (size_in whole) (values_moved whole part false) whole.variables) ≡ cells_onto part whole d
  onto_cells d l =
      let size = size_in whole in
      let inside = has_variable part in
      let k = cells size (keep inside whole.variables) in
      let m : d < k = omega (arith, l, cells_are) in
      let read : slice_index (cells_with size (values_moved whole part true) whole.variables) d ≡ base size inside whole.variables d =
      ap (λ (ys : List ℕ). slice_index ys d) (bases_are size inside whole.variables) ∙ get_or-map-range_with_len (base size inside whole.variables) 0 k d d 0 m (omega arith) in
      ap (λ b. map (λ c. b + c) (cells_with size (values_moved whole part false) whole.variables)) read
      ∙ sym (onto size inside whole.variables (rising_apart whole.variables is_whole.rising) (λ x. 0) d m)
      ∙ filter_below (λ c. eqb (cell_of size (keep inside whole.variables) (values_at whole c)) d) (λ c. eqb (cell_in part whole c) d) (cells_in whole) (λ c p. ap (λ n. eqb n d) (goes c))

-- ---- how many cells of the whole have the values of one cell of the part

module _ (part whole : ScopeOf) (bases offsets : List ℕ) (run : ℕ) (are : ArePlaces part whole bases offsets run) where
  some_of_part : 1 ≤ cells_in part
  some_of_part = cells_pos (size_in part) part.variables (λ x p. let l = are.lies_in x p in let s = size_pos whole are.is_whole x in omega (arith, l.1, s))

  pub places_beside : length offsets ≡ cells_beside part whole
  places_beside = sym (length-map offsets (λ c. slice_index bases 0 + c)) ∙ ap (λ (ys : List ℕ). length ys) (are.onto 0 some_of_part)

  pub all_beside : cells_in part * cells_beside part whole ≡ cells_in whole
  all_beside = ap (λ n. n * cells_beside part whole) (sym are.one_each) ∙ ap (λ n. length bases * n) (sym places_beside) ∙ are.beside
