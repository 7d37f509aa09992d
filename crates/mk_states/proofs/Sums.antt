-- Sums and products over lists, and what holds of each element of a filtered list.
use Rattle.std.proofs.Common.{◌≡◌, ℕ, suc, zero, ◌+◌, ◌*◌, ◌^◌, ◌<◌, ◌≤◌, Bool, true, false, cond, ◌&&◌, ◌⊎◌, inl, inr, eqb, List, [], ◌∷◌, ◌++◌, map, length, sum_by, filter, flat_map, All, refl, sym, ap, ◌∙◌, arith, le_refl, mul-one, one-mul, mul_assoc, mul_comm, mul-zero, mul-add, add_assoc, add_comm, zero-add, eq-eqb, ne_eqb, pow-suc}
use Rattle.std.proofs.Math.Path.{fun_ext}
use Rattle.std.proofs.Math.Nat.{pow-zero, one-le-mul}
use Rattle.std.specs.List.{range_with_len, list_all, AllByRecursion}
use Rattle.std.proofs.lemmas.List.Sums.{sum_by-cons}
use Rattle.std.proofs.lemmas.List.Elements.{All-filter, All-from_recursion, recursion_from_All}
use Rattle.std.proofs.lemmas.Bool.{cases_eq}
use Rattle.mk_states.specs.States.{states, numbers_below, plus_over, product_by}

-- a plus that may be taken in any order, with a value that adds nothing
pub record IsPlus {V : Type 0} (plus : V → V → V) (none : V) : Type 0 where
  pub assoc : (a b c : V) → plus (plus a b) c ≡ plus a (plus b c)
  pub comm : (a b : V) → plus a b ≡ plus b a
  pub neutral : (a : V) → plus none a ≡ a

pub sums_are_plus : IsPlus ◌+◌ 0
sums_are_plus = record { assoc = add_assoc; comm = add_comm; neutral = zero-add }

pub products_are_plus : IsPlus ◌*◌ 1
products_are_plus = record { assoc = mul_assoc; comm = mul_comm; neutral = one-mul }

module _ {X V : Type 0} (plus : V → V → V) (none : V) (law : IsPlus plus none) where
  pub plus_over-append : (f : X → V) (xs ys : List X) → plus_over plus none f (xs ++ ys) ≡ plus (plus_over plus none f xs) (plus_over plus none f ys)
  plus_over-append f [] ys = sym (law.neutral _)
  plus_over-append f (x ∷ xs) ys = ap (plus (f x)) (plus_over-append f xs ys) ∙ sym (law.assoc _ _ _)

  pub plus_over-plus : (f g : X → V) (xs : List X) → plus_over plus none (λ x. plus (f x) (g x)) xs ≡ plus (plus_over plus none f xs) (plus_over plus none g xs)
  plus_over-plus f g [] = sym (law.neutral none)
  plus_over-plus f g (x ∷ xs) = ap (plus (plus (f x) (g x))) (plus_over-plus f g xs) ∙ crossed (f x) (g x) _ _
    where
      crossed : (a b c d : V) → plus (plus a b) (plus c d) ≡ plus (plus a c) (plus b d)
      crossed a b c d =
          law.assoc a b (plus c d)
          ∙ ap (plus a) (sym (law.assoc b c d) ∙ ap (λ e. plus e d) (law.comm b c) ∙ law.assoc c b d)
          ∙ sym (law.assoc a c (plus b d))

  pub plus_over-filter : (f : X → V) (p : X → Bool) (xs : List X) → plus_over plus none f (filter p xs) ≡ plus_over plus none (λ x. cond (p x) (f x) none) xs
  plus_over-filter f p [] = refl
  plus_over-filter f p (x ∷ xs) = kept (p x) (filter p xs) ∙ ap (plus (cond (p x) (f x) none)) (plus_over-filter f p xs)
    where
      kept : (b : Bool) (ys : List X) → plus_over plus none f (cond b (x ∷ ys) ys) ≡ plus (cond b (f x) none) (plus_over plus none f ys)
      kept true ys = refl
      kept false ys = sym (law.neutral _)

  pub plus_over-flat_map : {Y : Type 0} (f : X → V) (g : Y → List X) (ys : List Y) → plus_over plus none f (flat_map g ys) ≡ plus_over plus none (λ y. plus_over plus none f (g y)) ys
  plus_over-flat_map f g [] = refl
  plus_over-flat_map f g (y ∷ ys) = plus_over-append f (g y) (flat_map g ys) ∙ ap (plus (plus_over plus none f (g y))) (plus_over-flat_map f g ys)

  pub plus_over_none : (xs : List X) → plus_over plus none (λ x. none) xs ≡ none
  plus_over_none [] = refl
  plus_over_none (x ∷ xs) = law.neutral _ ∙ plus_over_none xs

pub plus_over-map : {X Y V : Type 0} (plus : V → V → V) (none : V) (f : X → V) (g : Y → X) (ys : List Y) → plus_over plus none f (map g ys) ≡ plus_over plus none (λ y. f (g y)) ys
plus_over-map plus none f g [] = refl
plus_over-map plus none f g (y ∷ ys) = ap (plus (f (g y))) (plus_over-map plus none f g ys)

-- two of what is equal at each element
pub plus_over_each : {X V : Type 0} (plus : V → V → V) (none : V) (f g : X → V) (xs : List X) → AllByRecursion (λ x. f x ≡ g x) xs → plus_over plus none f xs ≡ plus_over plus none g xs
plus_over_each plus none f g [] h = refl
plus_over_each plus none f g (x ∷ xs) h = ap (λ v. plus v (plus_over plus none f xs)) h.0 ∙ ap (plus (g x)) (plus_over_each plus none f g xs h.1)

-- over all states, one variable after the other
pub plus_over-states : {V : Type 0} (plus : V → V → V) (none : V) → IsPlus plus none → (f : List ℕ → V) (size : ℕ) (sizes : List ℕ)
    → plus_over plus none f (states (size ∷ sizes)) ≡ plus_over plus none (λ v. plus_over plus none (λ s. f (v ∷ s)) (states sizes)) (numbers_below size)
plus_over-states plus none law f size sizes =
    plus_over-flat_map plus none law f (λ v. map (λ s. v ∷ s) (states sizes)) (numbers_below size)
    ∙ ap (λ (h : ℕ → _). plus_over plus none h (numbers_below size)) (fun_ext (λ v. plus_over-map plus none f (λ s. v ∷ s) (states sizes)))

-- `sum_by` is the plus of numbers
pub sum_by_is : {X : Type 0} (f : X → ℕ) (xs : List X) → sum_by f xs ≡ plus_over ◌+◌ 0 f xs
sum_by_is f [] = refl
sum_by_is f (x ∷ xs) = sum_by-cons f x xs ∙ ap (λ n. f x + n) (sum_by_is f xs)

pub sum_by-plus : {X : Type 0} (f g : X → ℕ) (xs : List X) → sum_by (λ x. f x + g x) xs ≡ sum_by f xs + sum_by g xs
sum_by-plus f g xs = rw (sum_by_is (λ x. f x + g x) xs, sum_by_is f xs, sum_by_is g xs) (plus_over-plus ◌+◌ 0 sums_are_plus f g xs)

pub sum_by-times : {X : Type 0} (k : ℕ) (f : X → ℕ) (xs : List X) → sum_by (λ x. k * f x) xs ≡ k * sum_by f xs
sum_by-times k f [] = sym (mul-zero k)
sum_by-times k f (x ∷ xs) = sum_by-cons (λ y. k * f y) x xs ∙ ap (λ n. k * f x + n) (sum_by-times k f xs) ∙ sym (mul-add k (f x) (sum_by f xs)) ∙ ap (λ n. k * n) (sym (sum_by-cons f x xs))

-- two sums of what is equal at each element
pub sum_by_each : {X : Type 0} (f g : X → ℕ) (xs : List X) → AllByRecursion (λ x. f x ≡ g x) xs → sum_by f xs ≡ sum_by g xs
sum_by_each f g [] h = refl
sum_by_each f g (x ∷ xs) h = sum_by-cons f x xs ∙ ap (λ n. n + sum_by f xs) h.0 ∙ ap (λ n. g x + n) (sum_by_each f g xs h.1) ∙ sym (sum_by-cons g x xs)

pub sum_by-filter : {X : Type 0} (f : X → ℕ) (p : X → Bool) (xs : List X) → sum_by f (filter p xs) ≡ sum_by (λ x. cond (p x) (f x) 0) xs
sum_by-filter f p xs = sum_by_is f (filter p xs) ∙ plus_over-filter ◌+◌ 0 sums_are_plus f p xs ∙ sym (sum_by_is (λ x. cond (p x) (f x) 0) xs)

-- the one number of a range that is v
pub plus_over_at : {V : Type 0} (plus : V → V → V) (none : V) → IsPlus plus none → (f : ℕ → V) (n a v : ℕ) → a ≤ v → v < a + n
    → plus_over plus none (λ x. cond (eqb v x) (f x) none) (range_with_len a n) ≡ f v
plus_over_at plus none law f zero a v h k = absurd (omega arith)
plus_over_at {V} plus none law f (suc n) a v h k = at (cases_eq v a) (λ d. plus_over_at plus none law f n (a + 1) v (omega (arith, d)) (omega arith))
  where
    before : (m b : ℕ) → v < b → plus_over plus none (λ x. cond (eqb v x) (f x) none) (range_with_len b m) ≡ none
    before zero b h = refl
    before (suc m) b h = rw (ne_eqb v b (λ e. omega arith)) (law.neutral _ ∙ before m (b + 1) (omega arith))

    at : ((v ≡ a) ⊎ (v ≡ a → ⊥)) → ((v ≡ a → ⊥) → plus_over plus none (λ x. cond (eqb v x) (f x) none) (range_with_len (a + 1) n) ≡ f v)
        → plus_over plus none (λ x. cond (eqb v x) (f x) none) (range_with_len a (suc n)) ≡ f v
    at (inl e) rest = rw (eq-eqb v a e) (ap (plus (f a)) (before n (a + 1) (omega arith)) ∙ law.comm _ _ ∙ law.neutral _ ∙ ap f (sym e))
    at (inr d) rest = rw (ne_eqb v a d) (law.neutral _ ∙ rest d)

-- a plus over a list is the plus, over the keys, of the elements of each key
pub plus_over_by_key : {X V : Type 0} (plus : V → V → V) (none : V) → IsPlus plus none → (f : X → V) (key : X → ℕ) (n : ℕ) (xs : List X) → AllByRecursion (λ x. key x < n) xs
    → plus_over plus none (λ k. plus_over plus none f (filter (λ x. eqb (key x) k) xs)) (numbers_below n) ≡ plus_over plus none f xs
plus_over_by_key plus none law f key n [] h = plus_over_none plus none law (numbers_below n)
plus_over_by_key {X} {V} plus none law f key n (x ∷ xs) h =
    ap (λ (g : ℕ → V). plus_over plus none g (numbers_below n)) (fun_ext (λ k. plus_over-filter plus none law f (λ y. eqb (key y) k) (x ∷ xs) ∙ ap (plus (cond (eqb (key x) k) (f x) none)) (sym (plus_over-filter plus none law f (λ y. eqb (key y) k) xs))))
    ∙ plus_over-plus plus none law (λ k. cond (eqb (key x) k) (f x) none) (λ k. plus_over plus none f (filter (λ y. eqb (key y) k) xs)) (numbers_below n)
    ∙ ap (λ (v : V). plus v (plus_over plus none (λ k. plus_over plus none f (filter (λ y. eqb (key y) k) xs)) (numbers_below n))) (plus_over_at plus none law (λ _. f x) n 0 (key x) (omega arith) (omega (arith, h.0)))
    ∙ ap (plus (f x)) (plus_over_by_key plus none law f key n xs h.1)

-- products
pub product_by-append : {X : Type 0} (f : X → ℕ) (xs ys : List X) → product_by f (xs ++ ys) ≡ product_by f xs * product_by f ys
product_by-append f xs ys = plus_over-append ◌*◌ 1 products_are_plus f xs ys

pub product_by_push : {X : Type 0} (f : X → ℕ) (xs : List X) (x : X) → product_by f (xs ++ x ∷ []) ≡ product_by f xs * f x
product_by_push f xs x = product_by-append f xs (x ∷ []) ∙ ap (λ n. product_by f xs * n) (mul-one (f x))

pub product_by-same : {X : Type 0} (k : ℕ) (xs : List X) → product_by (λ x. k) xs ≡ k ^ length xs
product_by-same k [] = sym (pow-zero k)
product_by-same k (x ∷ xs) = ap (λ n. k * n) (product_by-same k xs) ∙ mul_comm k (k ^ length xs) ∙ sym (pow-suc k (length xs))

-- what holds of each element of a list that passes a test
pub each_kept : {X : Type 0} (p : X → Bool) (P : X → Type 0) (xs : List X) → All P (filter p xs) → AllByRecursion (λ x. p x ≡ true → P x) xs
each_kept p P xs h = parted xs (recursion_from_All P (filter p xs) h)
  where
    head : (x : _) (b : Bool) (ys : List _) → AllByRecursion P (cond b (x ∷ ys) ys) → b ≡ true → P x
    head x true ys h e = h.0
    head x false ys h e = absurd (cc)

    tail : (x : _) (b : Bool) (ys : List _) → AllByRecursion P (cond b (x ∷ ys) ys) → AllByRecursion P ys
    tail x true ys h = h.1
    tail x false ys h = h

    parted : (xs : List _) → AllByRecursion P (filter p xs) → AllByRecursion (λ x. p x ≡ true → P x) xs
    parted [] h = tt
    parted (x ∷ xs) h = (head x (p x) (filter p xs) h, parted xs (tail x (p x) (filter p xs) h))

pub kept_each : {X : Type 0} (p : X → Bool) (P : X → Type 0) (xs : List X) → AllByRecursion (λ x. p x ≡ true → P x) xs → All P (filter p xs)
kept_each p P xs h = All-from_recursion P (filter p xs) (joined xs h)
  where
    join : (x : _) (b : Bool) (ys : List _) → (b ≡ true → P x) → AllByRecursion P ys → AllByRecursion P (cond b (x ∷ ys) ys)
    join x true ys h rest = (h refl, rest)
    join x false ys h rest = rest

    joined : (xs : List _) → AllByRecursion (λ x. p x ≡ true → P x) xs → AllByRecursion P (filter p xs)
    joined [] h = tt
    joined (x ∷ xs) h = join x (p x) (filter p xs) h.0 (joined xs h.1)

pub each_weaker : {X : Type 0} (P Q : X → Type 0) → ((x : X) → P x → Q x) → (xs : List X) → AllByRecursion P xs → AllByRecursion Q xs
each_weaker P Q f [] h = tt
each_weaker P Q f (x ∷ xs) h = (f x h.0, each_weaker P Q f xs h.1)

pub each_filtered : {X : Type 0} (P : X → Type 0) (p : X → Bool) (xs : List X)
    → AllByRecursion P xs → AllByRecursion P (filter p xs)
each_filtered P p xs h =
    recursion_from_All P (filter p xs) (All-filter p P xs (All-from_recursion P xs h))

pub each_both : {X : Type 0} (P Q : X → Type 0) (xs : List X) → AllByRecursion P xs → AllByRecursion Q xs → AllByRecursion (λ x. P x × Q x) xs
each_both P Q [] h k = tt
each_both P Q (x ∷ xs) h k = ((h.0, k.0), each_both P Q xs h.1 k.1)

pub each-append : {X : Type 0} (P : X → Type 0) (xs ys : List X) → AllByRecursion P xs → AllByRecursion P ys → AllByRecursion P (xs ++ ys)
each-append P [] ys h k = k
each-append P (x ∷ xs) ys h k = (h.0, each-append P xs ys h.1 k)

pub each_always : {X : Type 0} (P : X → Type 0) → ((x : X) → P x) → (xs : List X) → AllByRecursion P xs
each_always P f [] = tt
each_always P f (x ∷ xs) = (f x, each_always P f xs)

pub list_all-append : {X : Type 0} (p : X → Bool) (xs ys : List X) → list_all p (xs ++ ys) ≡ (list_all p xs && list_all p ys)
list_all-append p [] ys = refl
list_all-append p (x ∷ xs) ys = ap (λ b. p x && b) (list_all-append p xs ys) ∙ and_assoc (p x) (list_all p xs) (list_all p ys)
  where
    and_assoc : (a b c : Bool) → (a && (b && c)) ≡ ((a && b) && c)
    and_assoc true b c = refl
    and_assoc false b c = refl

pub each_number : (P : ℕ → Type 0) (n a : ℕ) → ((u : ℕ) → a ≤ u → u < a + n → P u) → AllByRecursion P (range_with_len a n)
each_number P zero a h = tt
each_number P (suc n) a h = (h a (le_refl a) (omega arith), each_number P n (a + 1) (λ u p q. h u (omega arith) (omega arith)))

-- those of some numbers in a row that pass a test are below their end
pub each_below : (p : ℕ → Bool) (a n : ℕ)
    → AllByRecursion (λ k. k < a + n) (filter p (range_with_len a n))
each_below p a n = each_filtered (λ k. k < a + n) p (range_with_len a n)
    (each_number (λ k. k < a + n) n a (λ k from to. to))

pub each-map : {X Y : Type 0} (P : X → Type 0) (f : Y → X) (ys : List Y) → AllByRecursion (λ y. P (f y)) ys → AllByRecursion P (map f ys)
each-map P f [] h = tt
each-map P f (y ∷ ys) h = (h.0, each-map P f ys h.1)

pub each-flat_map : {X Y : Type 0} (P : X → Type 0) (f : Y → List X) (ys : List Y) → AllByRecursion (λ y. AllByRecursion P (f y)) ys → AllByRecursion P (flat_map f ys)
each-flat_map P f [] h = tt
each-flat_map P f (y ∷ ys) h = each-append P (f y) (flat_map f ys) h.0 (each-flat_map P f ys h.1)

pub product_by_pos : {X : Type 0} (f : X → ℕ) (xs : List X) → AllByRecursion (λ x. 1 ≤ f x) xs → 1 ≤ product_by f xs
product_by_pos f [] h = le_refl 1
product_by_pos f (x ∷ xs) h = one-le-mul h.0 (product_by_pos f xs h.1)
