-- Cells and assignments, and sums over cells.
use Rattle.std.proofs.Common.{◌≡◌, ℕ, suc, zero, ◌+◌, ◌*◌, ◌/◌, ◌%◌, ◌<◌, ◌≤◌, Bool, true, false, cond, ◌||◌, ◌⊎◌, inl, inr, eqb, List, [], ◌∷◌, refl, sym, ap, ◌∙◌, arith, zero-mul, mul-zero, eq-eqb, ne_eqb}
use Rattle.std.proofs.Math.Nat.{suc-mul, mod-lt, mul-le-mul_right}
use Rattle.std.proofs.lemmas.Nat.{div-mul-add, mod-mul-add, div-add-mod'}
use Rattle.std.proofs.lemmas.Bool.{cases_eq, or_left, or_right, or_parts}
use Rattle.mk_states.specs.Lawful.{Lawful}
use Rattle.mk_sums.specs.Sums.{upd, plus_below, over, listed}
use Rattle.mk_sums.specs.Cells.{keep, cells, cell_of, place, Apart, InRange}

place_other : (size : ℕ → ℕ) (xs : List ℕ) (c : ℕ) (a : ℕ → ℕ) (y : ℕ) → listed xs y ≡ false → place size xs c a y ≡ a y
place_other size [] c a y h = refl
place_other size (x ∷ xs) c a y h =
    let p = or_parts (eqb y x) (listed xs y) h in
    place_other size xs (c % cells size xs) (upd a x (c / cells size xs)) y p.1 ∙ ap (λ b. cond b (c / cells size xs) (a y)) p.0

some_cells : (n k c : ℕ) → c < n * k → 0 < k
some_cells n zero c h = absurd (omega (arith, mul-zero n))
some_cells n (suc k) c h = omega arith

pub cell_of_place : (size : ℕ → ℕ) (xs : List ℕ) → Apart xs → (c : ℕ) (a : ℕ → ℕ) → c < cells size xs → cell_of size xs (place size xs c a) ≡ c
cell_of_place size [] d c a h = omega arith
cell_of_place size (x ∷ xs) d c a h =
    let p : 0 < cells size xs = some_cells (size x) (cells size xs) c h in
    ap (λ v. v * cells size xs + cell_of size xs (place size xs (c % cells size xs) (upd a x (c / cells size xs))))
    (place_other size xs (c % cells size xs) (upd a x (c / cells size xs)) x d.0 ∙ ap (λ b. cond b (c / cells size xs) (a x)) (eq-eqb x x refl))
    ∙ ap (λ v. c / cells size xs * cells size xs + v) (cell_of_place size xs d.1 (c % cells size xs) (upd a x (c / cells size xs)) (mod-lt c p))
    ∙ div-add-mod' c (cells size xs)

row_below : (v n k c : ℕ) → v < n → c < k → v * k + c < n * k
row_below v n k c h l = let p : suc v ≤ n = omega arith in let q : suc v * k ≤ n * k = mul-le-mul_right k p in omega (arith, suc-mul v k)

InRange-rest : (size : ℕ → ℕ) (x : ℕ) (xs : List ℕ) (a : ℕ → ℕ) → InRange size (x ∷ xs) a → InRange size xs a
InRange-rest size x xs a h y p = h y (or_right (eqb y x) (listed xs y) p)

pub cell_below : (size : ℕ → ℕ) (xs : List ℕ) (a : ℕ → ℕ) → InRange size xs a → cell_of size xs a < cells size xs
cell_below size [] a h = omega arith
cell_below size (x ∷ xs) a h =
    row_below (a x) (size x) (cells size xs) (cell_of size xs a) (h x (or_left (eqb x x) (listed xs x) (eq-eqb x x refl))) (cell_below size xs a (InRange-rest size x xs a h))

pub place_cell_of : (size : ℕ → ℕ) (xs : List ℕ) (a : ℕ → ℕ) → InRange size xs a → (b : ℕ → ℕ) (y : ℕ) → place size xs (cell_of size xs a) b y ≡ cond (listed xs y) (a y) (b y)
place_cell_of size [] a h b y = refl
place_cell_of size (x ∷ xs) a h b y =
    let k = InRange-rest size x xs a h in
    let l : cell_of size xs a < cells size xs = cell_below size xs a k in
    ap (λ c. place size xs c (upd b x ((a x * cells size xs + cell_of size xs a) / cells size xs)) y) (mod-mul-add (a x) (cells size xs) (cell_of size xs a) l)
    ∙ ap (λ v. place size xs (cell_of size xs a) (upd b x v) y) (div-mul-add (a x) (cells size xs) (cell_of size xs a) l)
    ∙ place_cell_of size xs a k (upd b x (a x)) y
    ∙ at (cases_eq y x)
  where
    same : (c : Bool) (v : ℕ) → cond c v v ≡ v
    same true v = refl
    same false v = refl

    at : ((y ≡ x) ⊎ (y ≡ x → ⊥)) → cond (listed xs y) (a y) (upd b x (a x) y) ≡ cond (eqb y x || listed xs y) (a y) (b y)
    at (inl e) =
        ap (λ c. cond (listed xs y) (a y) (cond c (a x) (b y))) (eq-eqb y x e)
        ∙ ap (λ z. cond (listed xs y) (a y) (a z)) (sym e)
        ∙ same (listed xs y) (a y)
        ∙ ap (λ c. cond (c || listed xs y) (a y) (b y)) (sym (eq-eqb y x e))
    at (inr d) =
        ap (λ c. cond (listed xs y) (a y) (cond c (a x) (b y))) (ne_eqb y x d)
        ∙ ap (λ c. cond (c || listed xs y) (a y) (b y)) (sym (ne_eqb y x d))

module _ (plus : ℕ → ℕ → ℕ) (law : Lawful plus) where
  below_same : (n : ℕ) (f g : ℕ → ℕ) → ((v : ℕ) → v < n → f v ≡ g v) → plus_below plus n f ≡ plus_below plus n g
  below_same zero f g h = refl
  below_same (suc n) f g h = ap (λ k. plus k (f n)) (below_same n f g (λ v p. h v (omega arith))) ∙ ap (plus (plus_below plus n g)) (h n (omega arith))

  below-add : (k n : ℕ) (f : ℕ → ℕ) → plus_below plus (k + n) f ≡ plus (plus_below plus k f) (plus_below plus n (λ v. f (k + v)))
  below-add k zero f = let e : k + 0 ≡ k = omega arith in ap (λ j. plus_below plus j f) e ∙ sym (law.commutes (plus_below plus k f) 0 ∙ law.neutral (plus_below plus k f))
  below-add k (suc n) f =
      let e : k + suc n ≡ suc (k + n) = omega arith in
      ap (λ j. plus_below plus j f) e ∙ ap (λ j. plus j (f (k + n))) (below-add k n f) ∙ law.associates (plus_below plus k f) (plus_below plus n (λ v. f (k + v))) (f (k + n))

  below-mul : (n k : ℕ) (f : ℕ → ℕ) → plus_below plus (n * k) f ≡ plus_below plus n (λ i. plus_below plus k (λ j. f (i * k + j)))
  below-mul zero k f = ap (λ j. plus_below plus j f) (zero-mul k)
  below-mul (suc n) k f =
      ap (λ j. plus_below plus j f) (suc-mul n k) ∙ below-add (n * k) k f ∙ ap (λ j. plus j (plus_below plus k (λ v. f (n * k + v)))) (below-mul n k f)

  pub cells_nest : (size : ℕ → ℕ) (set : ℕ → Bool) (xs : List ℕ) (f : (ℕ → ℕ) → ℕ) (a : ℕ → ℕ)
      → over plus size set xs f a ≡ plus_below plus (cells size (keep set xs)) (λ c. f (place size (keep set xs) c a))
  cells_nest size set [] f a = sym (law.neutral (f a))
  cells_nest size set (x ∷ xs) f a = at (cells_nest size set xs f) (set x)
    where
      rest : List ℕ
      rest = keep set xs

      at : ((d : ℕ → ℕ) → over plus size set xs f d ≡ plus_below plus (cells size rest) (λ c. f (place size rest c d))) → (b : Bool)
          → cond b (plus_below plus (size x) (λ v. over plus size set xs f (upd a x v))) (over plus size set xs f a)
          ≡ plus_below plus (cells size (cond b (x ∷ rest) rest)) (λ c. f (place size (cond b (x ∷ rest) rest) c a))
      at ih false = ih a
      at ih true =
          below_same (size x) (λ v. over plus size set xs f (upd a x v)) (λ i. plus_below plus (cells size rest) (λ j. f (place size (x ∷ rest) (i * cells size rest + j) a)))
          (λ v p. ih (upd a x v) ∙ below_same (cells size rest) (λ c. f (place size rest c (upd a x v))) (λ j. f (place size (x ∷ rest) (v * cells size rest + j) a))
          (λ j q. ap f (ap (λ c. place size rest c (upd a x v)) (sym (mod-mul-add v (cells size rest) j q)) ∙ ap (λ w. place size rest ((v * cells size rest + j) % cells size rest) (upd a x w)) (sym (div-mul-add v (cells size rest) j q)))))
          ∙ sym (below-mul (size x) (cells size rest) (λ c. f (place size (x ∷ rest) c a)))
