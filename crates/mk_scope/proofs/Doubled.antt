-- Cells that are found by strides are those that pass a test of each variable's value, in rising order.
use Rattle.std.proofs.Common.{◌≡◌, ℕ, zero, suc, ◌+◌, ◌*◌, ◌/◌, ◌<◌, ◌≤◌, Bool, true, false, cond, ◌&&◌, ◌⊎◌, inl, inr, eqb, List, [], ◌∷◌, ◌++◌, map, filter, flat_map, length, All, refl, sym, ap, ◌∙◌, arith, zero-mul, eq-eqb, ne_eqb, length-append, add-one, take}
use Rattle.std.specs.List.{range_with_len, list_all}
use Rattle.std.proofs.Math.Nat.{suc-mul, mul-le-mul}
use Rattle.std.proofs.Math.Path.{fun_ext}
use Rattle.std.proofs.lemmas.Nat.{div-mul-add, mod-mul-add, mul-add-lt}
use Rattle.std.proofs.lemmas.Bool.{cases_eq}
use Rattle.std.proofs.Math.Seq.{take-append_seam}
use Rattle.std.proofs.lemmas.List.{map-append, length-map}
use Rattle.std.proofs.lemmas.List.Elements.{filter-append, All-nil, All-cons, All-head, All-tail, All-weaker, All-map, All-append}
use Rattle.std.proofs.lemmas.Grind.{flat_map-append}
use Rattle.mk_states.specs.States.{numbers_below}
use Rattle.mk_sums.specs.Sums.{upd, listed}
use Rattle.mk_sums.specs.Cells.{cells, place, Apart}
use Rattle.mk_scope.specs.inner.Strides.{repeated, cells_with}
use Rattle.mk_scope.proofs.Members.{range_more}
use Rattle.mk_scope.proofs.Values.{place_other}

-- ---- numbers in rows of k

range_from : (a n : ℕ) → range_with_len a n ≡ map (λ c. a + c) (numbers_below n)
range_from a zero = refl
range_from a (suc n) =
    let z : 0 + n ≡ n = omega arith in
    range_more a n ∙ ap (λ (ys : List ℕ). ys ++ (a + n) ∷ []) (range_from a n)
    ∙ ap (λ k. map (λ c. a + c) (numbers_below n) ++ (a + k) ∷ []) (sym z)
    ∙ sym (map-append (λ c. a + c) (numbers_below n) ((0 + n) ∷ [])) ∙ ap (map (λ c. a + c)) (sym (range_more 0 n))

range_add : (a m n : ℕ) → range_with_len a (m + n) ≡ range_with_len a m ++ range_with_len (a + m) n
range_add a zero n =
    let e : zero + n ≡ n = omega arith in
    let f : a ≡ a + 0 = omega arith in
    ap (λ k. range_with_len a k) e ∙ ap (λ b. range_with_len b n) f
range_add a (suc m) n =
    let e : suc m + n ≡ suc (m + n) = omega arith in
    let f : a + 1 + m ≡ a + suc m = omega arith in
    ap (λ k. range_with_len a k) e ∙ ap (λ (ys : List ℕ). a ∷ ys) (range_add (a + 1) m n ∙ ap (λ b. range_with_len (a + 1) m ++ range_with_len b n) f)

pub below_rows : (n k : ℕ) → numbers_below (n * k) ≡ repeated k (numbers_below n) (numbers_below k)
below_rows zero k = ap numbers_below (zero-mul k)
below_rows (suc n) k =
    let z : 0 + n * k ≡ n * k = omega arith in
    let y : 0 + n ≡ n = omega arith in
    let row : ℕ → List ℕ = λ v. map (λ c. v * k + c) (numbers_below k) in
    ap numbers_below (suc-mul n k) ∙ range_add 0 (n * k) k
    ∙ ap (λ (ys : List ℕ). ys ++ range_with_len (0 + n * k) k) (below_rows n k)
    ∙ ap (λ (ys : List ℕ). flat_map row (numbers_below n) ++ ys) (ap (λ a. range_with_len a k) z ∙ range_from (n * k) k ∙ sym (single row n))
    ∙ sym (flat_map-append row (numbers_below n) (n ∷ []))
    ∙ ap (flat_map row) (ap (λ b. numbers_below n ++ b ∷ []) (sym y) ∙ sym (range_more 0 n))
  where
    single : (row : ℕ → List ℕ) (v : ℕ) → flat_map row (v ∷ []) ≡ row v
    single row v = append_none (row v)
      where
        append_none : (xs : List ℕ) → xs ++ [] ≡ xs
        append_none [] = refl
        append_none (x ∷ xs) = ap (λ ys. x ∷ ys) (append_none xs)

-- ---- rows that are filtered

filter-flat_map : (p : ℕ → Bool) (g : ℕ → List ℕ) (ys : List ℕ) → filter p (flat_map g ys) ≡ flat_map (λ y. filter p (g y)) ys
filter-flat_map p g [] = refl
filter-flat_map p g (y ∷ ys) = filter-append p (g y) (flat_map g ys) ∙ ap (λ (zs : List ℕ). filter p (g y) ++ zs) (filter-flat_map p g ys)

filter-map : (p : ℕ → Bool) (f : ℕ → ℕ) (ys : List ℕ) → filter p (map f ys) ≡ map f (filter (λ y. p (f y)) ys)
filter-map p f [] = refl
filter-map p f (y ∷ ys) = at (p (f y)) (filter-map p f ys)
  where
    at : (b : Bool) → filter p (map f ys) ≡ map f (filter (λ z. p (f z)) ys)
        → cond b (f y ∷ filter p (map f ys)) (filter p (map f ys)) ≡ map f (cond b (y ∷ filter (λ z. p (f z)) ys) (filter (λ z. p (f z)) ys))
    at true ih = ap (λ (zs : List ℕ). f y ∷ zs) ih
    at false ih = ih

-- two tests that agree on the numbers below a bound
filter_range : (p q : ℕ → Bool) (a n : ℕ) → ((c : ℕ) → a ≤ c → c < a + n → p c ≡ q c) → filter p (range_with_len a n) ≡ filter q (range_with_len a n)
filter_range p q a zero h = refl
filter_range p q a (suc n) h =
    ap (λ b. cond b (a ∷ filter p (range_with_len (a + 1) n)) (filter p (range_with_len (a + 1) n))) (h a (omega arith) (omega arith))
    ∙ ap (λ (ys : List ℕ). cond (q a) (a ∷ ys) ys) (filter_range p q (a + 1) n (λ c i j. h c (omega arith) (omega arith)))

pub filter_below : (p q : ℕ → Bool) (n : ℕ) → ((c : ℕ) → c < n → p c ≡ q c) → filter p (numbers_below n) ≡ filter q (numbers_below n)
filter_below p q n h = filter_range p q 0 n (λ c i j. h c (omega arith))

filter_none : (xs : List ℕ) → filter (λ c. false) xs ≡ []
filter_none [] = refl
filter_none (x ∷ xs) = filter_none xs

pub filter_all : (xs : List ℕ) → filter (λ c. true) xs ≡ xs
filter_all [] = refl
filter_all (x ∷ xs) = ap (λ (ys : List ℕ). x ∷ ys) (filter_all xs)

flat_map_same : (f g : ℕ → List ℕ) (ys : List ℕ) → ((y : ℕ) → f y ≡ g y) → flat_map f ys ≡ flat_map g ys
flat_map_same f g ys h = ap (λ k. flat_map k ys) (fun_ext h)

kept_rows : (t : ℕ → Bool) (row : ℕ → List ℕ) (ys : List ℕ) → flat_map (λ v. cond (t v) (row v) []) ys ≡ flat_map row (filter t ys)
kept_rows t row [] = refl
kept_rows t row (y ∷ ys) = at (t y) (kept_rows t row ys)
  where
    at : (b : Bool) → flat_map (λ v. cond (t v) (row v) []) ys ≡ flat_map row (filter t ys)
        → cond b (row y) [] ++ flat_map (λ v. cond (t v) (row v) []) ys ≡ flat_map row (cond b (y ∷ filter t ys) (filter t ys))
    at true ih = ap (λ (zs : List ℕ). row y ++ zs) ih
    at false ih = ih

-- a test of the row and a test within it, which keeps the same of each row
pub rows_filter : (p t : ℕ → Bool) (q : ℕ → ℕ → Bool) (n k : ℕ) (low : List ℕ)
    → ((v c : ℕ) → c < k → p (v * k + c) ≡ (t v && q v c)) → ((v : ℕ) → filter (q v) (numbers_below k) ≡ low)
    → filter p (numbers_below (n * k)) ≡ repeated k (filter t (numbers_below n)) low
rows_filter p t q n k low splits same =
    ap (filter p) (below_rows n k) ∙ filter-flat_map p (λ v. map (λ c. v * k + c) (numbers_below k)) (numbers_below n)
    ∙ flat_map_same (λ v. filter p (map (λ c. v * k + c) (numbers_below k))) (λ v. cond (t v) (map (λ c. v * k + c) low) []) (numbers_below n) row
    ∙ kept_rows t (λ v. map (λ c. v * k + c) low) (numbers_below n)
  where
    chosen : (v : ℕ) (b : Bool) → map (λ c. v * k + c) (filter (λ c. b && q v c) (numbers_below k)) ≡ cond b (map (λ c. v * k + c) low) []
    chosen v true = ap (map (λ c. v * k + c)) (same v)
    chosen v false = ap (map (λ c. v * k + c)) (filter_none (numbers_below k))

    row : (v : ℕ) → filter p (map (λ c. v * k + c) (numbers_below k)) ≡ cond (t v) (map (λ c. v * k + c) low) []
    row v =
        filter-map p (λ c. v * k + c) (numbers_below k) ∙ ap (map (λ c. v * k + c)) (filter_below (λ c. p (v * k + c)) (λ c. t v && q v c) k (splits v)) ∙ chosen v (t v)

-- ---- a test of each variable's value

-- the values of a cell in a row are those of the cell within it
pub place_in_row : (size : ℕ → ℕ) (x : ℕ) (xs : List ℕ) (v c : ℕ) (a : ℕ → ℕ) → c < cells size xs → place size (x ∷ xs) (v * cells size xs + c) a ≡ place size xs c (upd a x v)
place_in_row size x xs v c a l =
    ap (λ d. place size xs d (upd a x ((v * cells size xs + c) / cells size xs))) (mod-mul-add v (cells size xs) c l)
    ∙ ap (λ u. place size xs c (upd a x u)) (div-mul-add v (cells size xs) c l)

-- the value of the first variable
pub first_value : (size : ℕ → ℕ) (x : ℕ) (xs : List ℕ) → listed xs x ≡ false → (v c : ℕ) (a : ℕ → ℕ) → place size xs c (upd a x v) x ≡ v
first_value size x xs h v c a = place_other size xs c (upd a x v) x h ∙ ap (λ b. cond b v (a x)) (eq-eqb x x refl)

pub with_tests : (size : ℕ → ℕ) (test : ℕ → ℕ → Bool) (xs : List ℕ) → Apart xs → (a : ℕ → ℕ)
    → filter (λ c. list_all (λ x. test x (place size xs c a x)) xs) (numbers_below (cells size xs)) ≡ cells_with size (λ x. filter (test x) (numbers_below (size x))) xs
with_tests size test [] d a = refl
with_tests size test (x ∷ xs) d a =
    rows_filter (λ c. list_all (λ y. test y (place size (x ∷ xs) c a y)) (x ∷ xs)) (test x) (λ v c. list_all (λ y. test y (place size xs c (upd a x v) y)) xs) (size x) (cells size xs)
    (cells_with size (λ y. filter (test y) (numbers_below (size y))) xs) splits (λ v. with_tests size test xs d.1 (upd a x v))
  where
    splits : (v c : ℕ) → c < cells size xs
        → (test x (place size (x ∷ xs) (v * cells size xs + c) a x) && list_all (λ y. test y (place size (x ∷ xs) (v * cells size xs + c) a y)) xs)
        ≡ (test x v && list_all (λ y. test y (place size xs c (upd a x v) y)) xs)
    splits v c l =
        ap (λ (b : ℕ → ℕ). test x (b x) && list_all (λ y. test y (b y)) xs) (place_in_row size x xs v c a l)
        ∙ ap (λ u. test x u && list_all (λ y. test y (place size xs c (upd a x v) y)) xs) (first_value size x xs d.0 v c a)

-- ---- the values of one variable

past : (a n q : ℕ) → q < a → filter (λ v. eqb v q) (range_with_len a n) ≡ []
past a zero q h = refl
past a (suc n) q h =
    ap (λ b. cond b (a ∷ filter (λ v. eqb v q) (range_with_len (a + 1) n)) (filter (λ v. eqb v q) (range_with_len (a + 1) n))) (ne_eqb a q (λ e. omega arith)) ∙ past (a + 1) n q (omega arith)

single : (a n q : ℕ) → a ≤ q → q < a + n → filter (λ v. eqb v q) (range_with_len a n) ≡ q ∷ []
single a zero q h l = absurd (omega arith)
single a (suc n) q h l = at (cases_eq a q) (λ d. single (a + 1) n q (omega (arith, d)) (omega arith))
  where
    rest : List ℕ
    rest = filter (λ v. eqb v q) (range_with_len (a + 1) n)

    at : ((a ≡ q) ⊎ (a ≡ q → ⊥)) → ((a ≡ q → ⊥) → rest ≡ q ∷ []) → cond (eqb a q) (a ∷ rest) rest ≡ q ∷ []
    at (inl e) ih = ap (λ b. cond b (a ∷ rest) rest) (eq-eqb a q e) ∙ ap (λ (ys : List ℕ). a ∷ ys) (past (a + 1) n q (omega (arith, e))) ∙ ap (λ x. x ∷ []) e
    at (inr d) ih = ap (λ b. cond b (a ∷ rest) rest) (ne_eqb a q d) ∙ ih d

beyond : (a n q : ℕ) → a + n ≤ q → filter (λ v. eqb v q) (range_with_len a n) ≡ []
beyond a zero q h = refl
beyond a (suc n) q h =
    ap (λ b. cond b (a ∷ filter (λ v. eqb v q) (range_with_len (a + 1) n)) (filter (λ v. eqb v q) (range_with_len (a + 1) n))) (ne_eqb a q (λ e. omega arith)) ∙ beyond (a + 1) n q (omega arith)

append_none : (xs : List ℕ) → xs ++ [] ≡ xs
append_none [] = refl
append_none (x ∷ xs) = ap (λ ys. x ∷ ys) (append_none xs)

pub repeated_once : (stride v : ℕ) (low : List ℕ) → repeated stride (v ∷ []) low ≡ map (λ c. v * stride + c) low
repeated_once stride v low = append_none (map (λ c. v * stride + c) low)

map_none : (f : ℕ → ℕ) (xs : List ℕ) → ((c : ℕ) → f c ≡ c) → map f xs ≡ xs
map_none f [] h = refl
map_none f (x ∷ xs) h = ap (λ y. y ∷ map f xs) (h x) ∙ ap (λ (ys : List ℕ). x ∷ ys) (map_none f xs h)

pub repeated_first : (stride : ℕ) (low : List ℕ) → repeated stride (0 ∷ []) low ≡ low
repeated_first stride low = repeated_once stride 0 low ∙ map_none (λ c. 0 * stride + c) low (λ c. let z = zero-mul stride in omega (arith, z))

-- where a test lets one value pass
pub repeated_value : (test : ℕ → Bool) (stride size value : ℕ) (low : List ℕ) → ((v : ℕ) → test v ≡ eqb v value) → value < size
    → repeated stride (filter test (numbers_below size)) low ≡ map (λ c. value * stride + c) low
repeated_value test stride size value low h l =
    ap (λ (vs : List ℕ). repeated stride vs low) (filter_below test (λ v. eqb v value) size (λ c p. h c) ∙ single 0 size value (omega arith) (omega arith)) ∙ repeated_once stride value low

pub repeated_no_value : (test : ℕ → Bool) (stride size value : ℕ) (low : List ℕ) → ((v : ℕ) → test v ≡ eqb v value) → size ≤ value
    → repeated stride (filter test (numbers_below size)) low ≡ []
repeated_no_value test stride size value low h l =
    ap (λ (vs : List ℕ). repeated stride vs low) (filter_below test (λ v. eqb v value) size (λ c p. h c) ∙ beyond 0 size value (omega arith))

-- where it lets each pass
pub repeated_each : (test : ℕ → Bool) (stride size : ℕ) (low : List ℕ) → ((v : ℕ) → test v ≡ true) → repeated stride (filter test (numbers_below size)) low ≡ repeated stride (numbers_below size) low
repeated_each test stride size low h = ap (λ (vs : List ℕ). repeated stride vs low) (filter_below test (λ v. true) size (λ c p. h c) ∙ filter_all (numbers_below size))

-- ---- lists that are repeated

pub length-repeated : (stride : ℕ) (values low : List ℕ) → length (repeated stride values low) ≡ length values * length low
length-repeated stride [] low = sym (zero-mul (length low))
length-repeated stride (v ∷ vs) low =
    let h = length-repeated stride vs low in
    let l = length-append (map (λ c. v * stride + c) low) (repeated stride vs low) in
    let m = length-map low (λ c. v * stride + c) in
    let s = suc-mul (length vs) (length low) in
    omega (arith, h, l, m, s)

pub repeated_more : (stride v : ℕ) (low : List ℕ) → repeated stride (numbers_below v) low ++ map (λ c. v * stride + c) low ≡ repeated stride (numbers_below (v + 1)) low
repeated_more stride v low =
    let z : 0 + v ≡ v = omega arith in
    ap (λ (ys : List ℕ). repeated stride (numbers_below v) low ++ ys) (sym (repeated_once stride v low))
    ∙ sym (flat_map-append (λ u. map (λ c. u * stride + c) low) (numbers_below v) (v ∷ []))
    ∙ ap (λ (vs : List ℕ). repeated stride vs low) (ap (λ k. numbers_below v ++ k ∷ []) (sym z) ∙ sym (range_more 0 v) ∙ ap numbers_below (sym (add-one v)))

pub take_repeated : (stride v : ℕ) (low : List ℕ) → 1 ≤ v → take (length low) (repeated stride (numbers_below v) low) ≡ low
take_repeated stride zero low h = absurd (omega arith)
take_repeated stride (suc v) low h =
    let first = map_none (λ c. 0 * stride + c) low (λ c. let z = zero-mul stride in omega (arith, z)) in
    ap (λ (ys : List ℕ). take (length low) (ys ++ repeated stride (range_with_len (0 + 1) v) low)) first ∙ take-append_seam low (repeated stride (range_with_len (0 + 1) v) low)

-- a cell further on is still a cell
pub moved_below : (value size stride c : ℕ) → value < size → c < stride → size * stride ≤ 4096 → value * stride + c < 4096
moved_below value size stride c h l m = let r = mul-add-lt value stride c size h l in omega (arith, r, m)

-- ---- how many there are

All_moved : (stride size v : ℕ) (low : List ℕ) → v < size → All (λ c. c < stride) low → All (λ c. c < size * stride) (map (λ c. v * stride + c) low)
All_moved stride size v low h a =
    All-map (λ c. c < size * stride) (λ c. v * stride + c) low (All-weaker (λ c. c < stride) (λ c. v * stride + c < size * stride) (λ c l. let r = mul-add-lt v stride c size h l in omega (arith, r)) low a)

All_repeated : (stride size : ℕ) (values low : List ℕ) → All (λ v. v < size) values → All (λ c. c < stride) low → All (λ c. c < size * stride) (repeated stride values low)
All_repeated stride size [] low h a = All-nil (λ c. c < size * stride)
All_repeated stride size (v ∷ vs) low h a =
    All-append (λ c. c < size * stride) (map (λ c. v * stride + c) low) (repeated stride vs low)
    (All_moved stride size v low (All-head (λ v. v < size) v vs h) a) (All_repeated stride size vs low (All-tail (λ v. v < size) v vs h) a)

-- values of which there are no more than a variable has
pub record AreValues (size : ℕ → ℕ) (values : ℕ → List ℕ) : Type 0 where
  pub few : (x : ℕ) → length (values x) ≤ size x
  pub within : (x : ℕ) → All (λ v. v < size x) (values x)

pub cells_with_below : (size : ℕ → ℕ) (values : ℕ → List ℕ) → AreValues size values → (xs : List ℕ) → All (λ c. c < cells size xs) (cells_with size values xs)
cells_with_below size values are [] = All-cons (λ c. c < 1) 0 [] (omega arith) (All-nil (λ c. c < 1))
cells_with_below size values are (x ∷ xs) = All_repeated (cells size xs) (size x) (values x) (cells_with size values xs) (are.within x) (cells_with_below size values are xs)

pub cells_with_few : (size : ℕ → ℕ) (values : ℕ → List ℕ) → AreValues size values → (xs : List ℕ) → length (cells_with size values xs) ≤ cells size xs
cells_with_few size values are [] = omega arith
cells_with_few size values are (x ∷ xs) =
    let e = length-repeated (cells size xs) (values x) (cells_with size values xs) in
    let m : length (values x) * length (cells_with size values xs) ≤ size x * cells size xs = mul-le-mul (are.few x) (cells_with_few size values are xs) in
    omega (arith, e, m)
