-- Runs of cells that lie side by side.
use Rattle.std.proofs.Common.{◌≡◌, ℕ, zero, suc, ◌+◌, ◌-◌, ◌*◌, ◌<◌, ◌≤◌, List, [], ◌∷◌, ◌++◌, map, length, get_or, slice_index, All, refl, sym, ap, subst, ◌∙◌, arith, zero-mul, length-append}
use Rattle.std.specs.List.{range_with_len}
use Rattle.std.proofs.Math.Nat.{suc-mul, mul-le-mul}
use Rattle.std.proofs.Math.ListN.{get_or-append}
use Rattle.std.proofs.lemmas.List.{map-append, append-nil, length-map, get_or-map, get_or-append-add}
use Rattle.std.proofs.lemmas.List.Elements.{All-nil, All-cons, All-head, All-tail, All-weaker, All-append}
use Rattle.std.proofs.lemmas.List.FromFn.{length-range_with_len, get_or-range_with_len}
use Rattle.std.proofs.lemmas.Grind.{flat_map-append}
use Rattle.mk_states.specs.States.{numbers_below}
use Rattle.mk_scope.specs.Scopes.{Rising}
use Rattle.mk_scope.specs.Runs.{IsAmong, IsBetween, IsOfRuns, cells_at, runs_of}
use Rattle.mk_scope.specs.inner.Strides.{repeated}
use Rattle.mk_scope.proofs.Members.{rising_at}

-- ---- how many, and which

pub length-runs : (run : ℕ) (xs : List ℕ) → length (runs_of run xs) ≡ length xs * run
length-runs run [] = sym (zero-mul run)
length-runs run (x ∷ xs) =
    let h = length-runs run xs in
    let l = length-append (range_with_len x run) (runs_of run xs) in
    let r = length-range_with_len x run in
    let s = suc-mul (length xs) run in
    omega (arith, h, l, r, s)

pub runs_single : (xs : List ℕ) → runs_of 1 xs ≡ xs
runs_single [] = refl
runs_single (x ∷ xs) = ap (λ (ys : List ℕ). x ∷ ys) (runs_single xs)

-- where a run has one cell
pub runs_one : (run : ℕ) → 1 ≤ run → run ≤ 1 → (xs : List ℕ) → runs_of run xs ≡ xs
runs_one run some one xs = let e : run ≡ 1 = omega (arith, some, one) in ap (λ r. runs_of r xs) e ∙ runs_single xs

pub within_one : (run : ℕ) → 1 ≤ run → run ≤ 1 → (bases xs : List ℕ) (count : ℕ) → ((b : ℕ) → b < length bases → All (λ c. slice_index bases b + c < count) (runs_of run xs))
    → (b : ℕ) → b < length bases → All (λ c. slice_index bases b + c < count) xs
within_one run some one bases xs count h b l = subst (λ (ys : List ℕ). All (λ c. slice_index bases b + c < count) ys) (runs_one run some one xs) (h b l)

pub runs_first : (run : ℕ) → runs_of run (0 ∷ []) ≡ numbers_below run
runs_first run = append-nil (range_with_len 0 run)

pub runs_few : (run : ℕ) (xs : List ℕ) → 1 ≤ run → length xs ≤ length (runs_of run xs)
runs_few run xs h =
    let e = length-runs run xs in
    let t : length xs ≤ length xs = omega arith in
    let m : length xs * 1 ≤ length xs * run = mul-le-mul t h in
    omega (arith, e, m)

-- ---- what holds of each cell

module _ (P : ℕ → Type 0) where
  range_each : (c run : ℕ) → ((i : ℕ) → i < run → P (c + i)) → All P (range_with_len c run)
  range_each c zero h = All-nil P
  range_each c (suc run) h =
      All-cons P c (range_with_len (c + 1) run) (let e : c + 0 ≡ c = omega arith in subst P e (h 0 (omega arith)))
      (range_each (c + 1) run (λ i l. let e : c + suc i ≡ c + 1 + i = omega arith in subst P e (h (suc i) (omega arith))))

  each_range : (c run : ℕ) → All P (range_with_len c run) → (i : ℕ) → i < run → P (c + i)
  each_range c zero h i l = absurd (omega arith)
  each_range c (suc run) h zero l = let e : c ≡ c + 0 = omega arith in subst P e (All-head P c (range_with_len (c + 1) run) h)
  each_range c (suc run) h (suc i) l = let e : c + 1 + i ≡ c + suc i = omega arith in subst P e (each_range (c + 1) run (All-tail P c (range_with_len (c + 1) run) h) i (omega arith))

  left_part : (xs ys : List ℕ) → All P (xs ++ ys) → All P xs
  left_part [] ys h = All-nil P
  left_part (x ∷ xs) ys h = All-cons P x xs (All-head P x (xs ++ ys) h) (left_part xs ys (All-tail P x (xs ++ ys) h))

  right_part : (xs ys : List ℕ) → All P (xs ++ ys) → All P ys
  right_part [] ys h = h
  right_part (x ∷ xs) ys h = right_part xs ys (All-tail P x (xs ++ ys) h)

  -- each run by itself
  pub by_runs : (run : ℕ) (xs : List ℕ) → All P (runs_of run xs) → All (λ c. (i : ℕ) → i < run → P (c + i)) xs
  by_runs run [] h = All-nil (λ c. (i : ℕ) → i < run → P (c + i))
  by_runs run (x ∷ xs) h =
      All-cons (λ c. (i : ℕ) → i < run → P (c + i)) x xs (each_range x run (left_part (range_with_len x run) (runs_of run xs) h)) (by_runs run xs (right_part (range_with_len x run) (runs_of run xs) h))

  pub of_runs : (run : ℕ) (xs : List ℕ) → All (λ c. (i : ℕ) → i < run → P (c + i)) xs → All P (runs_of run xs)
  of_runs run [] h = All-nil P
  of_runs run (x ∷ xs) h =
      All-append P (range_with_len x run) (runs_of run xs) (range_each x run (All-head (λ c. (i : ℕ) → i < run → P (c + i)) x xs h)) (of_runs run xs (All-tail (λ c. (i : ℕ) → i < run → P (c + i)) x xs h))

  pub of_firsts : (run : ℕ) (xs : List ℕ) → 1 ≤ run → All P (runs_of run xs) → All P xs
  of_firsts run xs l h = All-weaker (λ c. (i : ℕ) → i < run → P (c + i)) P (λ c a. let e : c + 0 ≡ c = omega arith in subst P e (a 0 l)) xs (by_runs run xs h)

-- ---- runs that are repeated

range_moved : (a c run : ℕ) → range_with_len (a + c) run ≡ map (λ k. a + k) (range_with_len c run)
range_moved a c zero = refl
range_moved a c (suc run) =
    let e : a + c + 1 ≡ a + (c + 1) = omega arith in
    ap (λ (ys : List ℕ). (a + c) ∷ ys) (ap (λ k. range_with_len k run) e ∙ range_moved a (c + 1) run)

pub runs_moved : (a run : ℕ) (xs : List ℕ) → runs_of run (map (λ k. a + k) xs) ≡ map (λ k. a + k) (runs_of run xs)
runs_moved a run [] = refl
runs_moved a run (x ∷ xs) =
    ap (λ (ys : List ℕ). ys ++ runs_of run (map (λ k. a + k) xs)) (range_moved a x run)
    ∙ ap (λ (ys : List ℕ). map (λ k. a + k) (range_with_len x run) ++ ys) (runs_moved a run xs)
    ∙ sym (map-append (λ k. a + k) (range_with_len x run) (runs_of run xs))

pub runs_repeated : (run stride : ℕ) (values low : List ℕ) → runs_of run (repeated stride values low) ≡ repeated stride values (runs_of run low)
runs_repeated run stride [] low = refl
runs_repeated run stride (v ∷ vs) low =
    flat_map-append (λ c. range_with_len c run) (map (λ c. v * stride + c) low) (repeated stride vs low)
    ∙ ap (λ (ys : List ℕ). ys ++ runs_of run (repeated stride vs low)) (runs_moved (v * stride) run low)
    ∙ ap (λ (ys : List ℕ). map (λ c. v * stride + c) (runs_of run low) ++ ys) (runs_repeated run stride vs low)

-- ---- runs that begin so far from a base

first_at : (base : ℕ) (offsets : List ℕ) (i : ℕ) → i < length offsets → get_or (cells_at base offsets) i 0 ≡ base + slice_index offsets i
first_at base offsets i l = get_or-map (λ c. base + c) offsets i 0 0 l

module _ (P : ℕ → Type 0) (base run : ℕ) (offsets : List ℕ) where
  -- what holds of each of their cells
  pub all_of_runs : All P (cells_at base (runs_of run offsets)) → (i : ℕ) → i < length offsets → (c : ℕ) → IsBetween (base + slice_index offsets i) (base + slice_index offsets i + run) c → P c
  all_of_runs h i l c b =
      let f = b.from in let g = b.below in
      let at = first_at base offsets i l in
      let a = by_runs P run (cells_at base offsets) (subst (λ (ys : List ℕ). All P ys) (sym (runs_moved base run offsets)) h) i 0 (let m = length-map offsets (λ k. base + k) in omega (arith, l, m)) in
      let e : get_or (cells_at base offsets) i 0 + (c - (base + slice_index offsets i)) ≡ c = omega (arith, at, f) in
      subst P e (a (c - (base + slice_index offsets i)) (omega (arith, f, g)))

  pub runs_of_all : ((i : ℕ) → i < length offsets → (c : ℕ) → IsBetween (base + slice_index offsets i) (base + slice_index offsets i + run) c → P c) → All P (cells_at base (runs_of run offsets))
  runs_of_all h =
      subst (λ (ys : List ℕ). All P ys) (runs_moved base run offsets)
      (of_runs P run (cells_at base offsets) (λ i d l j m.
      let k : i < length offsets = let n = length-map offsets (λ k. base + k) in omega (arith, l, n) in
      let at = get_or-map (λ c. base + c) offsets i 0 d k in
      h i k (get_or (cells_at base offsets) i d + j) (record { from = omega (arith, at); below = omega (arith, at, m) })))

-- the cells of each run come after one another
runs_at : (run : ℕ) (xs : List ℕ) (i j : ℕ) → i < length xs → j < run → slice_index (runs_of run xs) (i * run + j) ≡ slice_index xs i + j
runs_at run [] i j l m = absurd (omega arith)
runs_at run (x ∷ xs) zero j l m =
    let z : 0 * run + j ≡ j = let e = zero-mul run in omega (arith, e) in
    ap (slice_index (runs_of run (x ∷ xs))) z ∙ get_or-append (range_with_len x run) (runs_of run xs) 0 j (let r = length-range_with_len x run in omega (arith, r, m)) ∙ get_or-range_with_len x run j 0 m
runs_at run (x ∷ xs) (suc i) j l m =
    let r = length-range_with_len x run in
    let s : suc i * run + j ≡ length (range_with_len x run) + (i * run + j) = let e = suc-mul i run in omega (arith, e, r) in
    ap (slice_index (runs_of run (x ∷ xs))) s ∙ get_or-append-add (range_with_len x run) (runs_of run xs) (i * run + j) 0 ∙ runs_at run xs i j (omega arith) m

rising_runs : (run : ℕ) (xs : List ℕ) → 1 ≤ run → Rising (runs_of run xs) → (k i : ℕ) → k < i → i < length xs → slice_index xs k + run ≤ slice_index xs i
rising_runs run xs some rising k i l m =
    let long = length-runs run xs in
    let s : suc k * run ≤ i * run = let t : run ≤ run = omega arith in let u : suc k ≤ i = omega arith in mul-le-mul u t in
    let v : suc i * run ≤ length xs * run = let t : run ≤ run = omega arith in let u : suc i ≤ length xs = omega arith in mul-le-mul u t in
    let e = suc-mul k run in let f = suc-mul i run in
    let b = rising_at (runs_of run xs) rising (k * run + (run - 1)) (i * run + 0) (omega (arith, s, e)) (omega (arith, v, f, long)) in
    let p = runs_at run xs k (run - 1) (omega arith) (omega arith) in
    let q = runs_at run xs i 0 m some in
    omega (arith, b, p, q)

-- no cell is of two runs
pub runs_apart : (base run : ℕ) (offsets : List ℕ) → 1 ≤ run → Rising (cells_at base (runs_of run offsets)) → (i : ℕ) → i < length offsets → (c : ℕ)
    → IsOfRuns base run offsets i c → IsBetween (base + slice_index offsets i) (base + slice_index offsets i + run) c → ⊥
runs_apart base run offsets some rising i l c p b =
    let r = rising_runs run (cells_at base offsets) some (subst (λ (ys : List ℕ). Rising ys) (sym (runs_moved base run offsets)) rising) p.0 i p.1 (let m = length-map offsets (λ k. base + k) in omega (arith, l, m)) in
    let k : p.0 < length offsets = let m = p.1 in omega (arith, l, m) in
    let s = first_at base offsets p.0 k in let t = first_at base offsets i l in
    let below = p.2.below in let from = b.from in
    omega (arith, r, s, t, below, from)

-- the place of a run in two arrays
pub run_within : (base run count : ℕ) (offsets : List ℕ) → 1 ≤ run → All (λ c. base + c < count) (runs_of run offsets) → (b : ℕ) → b < length offsets → base + slice_index offsets b + run ≤ count
run_within base run count offsets some h b l =
    let a = by_runs (λ c. base + c < count) run offsets h b 0 l (run - 1) (omega arith) in omega (arith, a, some)

-- ---- cells that lie so far from a base

pub at_place : (base : ℕ) (offsets : List ℕ) (i : ℕ) → i < length offsets → base + slice_index offsets i ≡ slice_index (cells_at base offsets) i
at_place base offsets i l = sym (get_or-map (λ c. base + c) offsets i 0 0 l)

pub all_at : (P : ℕ → Type 0) (base : ℕ) (offsets : List ℕ) (i : ℕ) → All P (cells_at base offsets) → i < length offsets → P (base + slice_index offsets i)
all_at P base offsets i h l = subst P (sym (at_place base offsets i l)) (h i 0 (omega (arith, l, length-map offsets (λ c. base + c))))

-- no cell comes twice
pub apart_at : (base : ℕ) (offsets : List ℕ) (i : ℕ) → Rising (cells_at base offsets) → i < length offsets → (k : ℕ) → k < i → slice_index (cells_at base offsets) k ≡ slice_index (cells_at base offsets) i → ⊥
apart_at base offsets i r l k m e =
    let b = rising_at (cells_at base offsets) r k i m (omega (arith, l, length-map offsets (λ c. base + c))) in
    omega (arith, b, e)

-- runs of one cell
pub is_of_single : (base run : ℕ) (offsets : List ℕ) (c : ℕ) → run ≡ 1 → IsOfRuns base run offsets (length offsets) c → IsAmong (cells_at base offsets) (length offsets) c
is_of_single base run offsets c one p =
    let l = p.1 in let f = p.2.from in let b = p.2.below in let e = at_place base offsets p.0 l in (p.0, l, omega (arith, one, e, f, b))

pub single_is_of : (base run : ℕ) (offsets : List ℕ) (c : ℕ) → run ≡ 1 → IsAmong (cells_at base offsets) (length offsets) c → IsOfRuns base run offsets (length offsets) c
single_is_of base run offsets c one p =
    let l = p.1 in let i = p.2 in let e = at_place base offsets p.0 l in (p.0, l, record { from = omega (arith, i, e); below = omega (arith, one, i, e) })
