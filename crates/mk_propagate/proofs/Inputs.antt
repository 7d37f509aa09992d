-- The neighbours of a clique in order: the product of their messages, and the sum of their grades.
use Rattle.std.proofs.Common.{◌≡◌, ℕ, suc, zero, ◌+◌, ◌*◌, ◌<◌, ◌≤◌, Bool, true, false, cond, not, ◌&&◌, ◌||◌, ◌⊎◌, inl, inr, eqb, List, [], ◌∷◌, ◌++◌, filter, length, sum_by, Option, Some, None, refl, sym, ap, ◌∙◌, arith, mul-one, eq-eqb, ne_eqb}
use Rattle.std.proofs.Math.Path.{fun_ext}
use Rattle.std.proofs.lemmas.Bool.{cases_eq, both_ways, and_parts, eqb-true}
use Rattle.std.specs.List.{range_with_len}
use Rattle.std.proofs.lemmas.List.Elements.{filter-append}
use Rattle.std.proofs.lemmas.List.Sums.{sum_by-append, sum_by-cons}
use Rattle.mk_states.specs.States.{product_by}
use Rattle.mk_states.proofs.Sums.{product_by-append}
use Rattle.mk_sums.specs.Sums.{upd, Blind}
use Rattle.mk_sums.specs.Trees.{times_of, sum_of, linked_to}
use Rattle.mk_sums.proofs.Sets.{times_agree, times_union, times_one}
use Rattle.mk_scope.proofs.Members.{range_more}
use Rattle.mk_tree.specs.Given.{GivenTree, link_of}
use Rattle.mk_plan.specs.Shapes.{neighbours}
use Rattle.mk_propagate.specs.inner.Gathered.{is_taken, is_input}

range_last : (k : ℕ) → range_with_len 1 (suc k) ≡ range_with_len 1 k ++ suc k ∷ []
range_last k = let e : 1 + k ≡ suc k = omega arith in range_more 1 k ∙ ap (λ n. range_with_len 1 k ++ n ∷ []) e

-- over the chosen of the numbers 1 to m
pub product_in_order : (set : ℕ → Bool) (m : ℕ) (f : ℕ → ℕ) (a : ℕ → ℕ) → product_by f (filter set (range_with_len 1 m)) ≡ times_of set m (λ i t. f i) a
product_in_order set zero f a = refl
product_in_order set (suc k) f a =
    ap (λ (xs : List ℕ). product_by f (filter set xs)) (range_last k)
    ∙ ap (product_by f) (filter-append set (range_with_len 1 k) (suc k ∷ []))
    ∙ product_by-append f (filter set (range_with_len 1 k)) (filter set (suc k ∷ []))
    ∙ ap (λ n. n * product_by f (filter set (suc k ∷ []))) (product_in_order set k f a)
    ∙ ap (λ n. times_of set k (λ i t. f i) a * n) (last (set (suc k)))
  where
    last : (b : Bool) → product_by f (cond b (suc k ∷ []) []) ≡ cond b (f (suc k)) 1
    last true = mul-one (f (suc k))
    last false = refl

pub sum_in_order : (set : ℕ → Bool) (m : ℕ) (f : ℕ → ℕ) → sum_by f (filter set (range_with_len 1 m)) ≡ sum_of set m f
sum_in_order set zero f = refl
sum_in_order set (suc k) f =
    ap (λ (xs : List ℕ). sum_by f (filter set xs)) (range_last k)
    ∙ ap (sum_by f) (filter-append set (range_with_len 1 k) (suc k ∷ []))
    ∙ sum_by-append f (filter set (range_with_len 1 k)) (filter set (suc k ∷ []))
    ∙ ap (λ n. n + sum_by f (filter set (suc k ∷ []))) (sum_in_order set k f)
    ∙ ap (λ n. sum_of set k f + n) (last (set (suc k)))
  where
    last : (b : Bool) → sum_by f (cond b (suc k ∷ []) []) ≡ cond b (f (suc k)) 0
    last true = let e = sum_by-cons f (suc k) [] in e ∙ omega arith
    last false = refl

-- what is not taken counts 1, or 0
times_taken : (set taken : ℕ → Bool) (m : ℕ) (f : ℕ → (ℕ → ℕ) → ℕ) (a : ℕ → ℕ)
    → times_of set m (λ i t. cond (taken i) (f i a) 1) a ≡ times_of (λ i. set i && taken i) m f a
times_taken set taken zero f a = refl
times_taken set taken (suc k) f a =
    ap (λ n. n * cond (set (suc k)) (cond (taken (suc k)) (f (suc k) a) 1) 1) (times_taken set taken k f a)
    ∙ ap (λ n. times_of (λ i. set i && taken i) k f a * n) (both (set (suc k)) (taken (suc k)) (f (suc k) a))
  where
    both : (b c : Bool) (v : ℕ) → cond b (cond c v 1) 1 ≡ cond (b && c) v 1
    both true c v = refl
    both false c v = refl

sum_taken : (set taken : ℕ → Bool) (m : ℕ) (f : ℕ → ℕ) → sum_of set m (λ i. cond (taken i) (f i) 0) ≡ sum_of (λ i. set i && taken i) m f
sum_taken set taken zero f = refl
sum_taken set taken (suc k) f =
    ap (λ n. n + cond (set (suc k)) (cond (taken (suc k)) (f (suc k)) 0) 0) (sum_taken set taken k f)
    ∙ ap (λ n. sum_of (λ i. set i && taken i) k f + n) (both (set (suc k)) (taken (suc k)) (f (suc k)))
  where
    both : (b c : Bool) (v : ℕ) → cond b (cond c v 0) 0 ≡ cond (b && c) v 0
    both true c v = refl
    both false c v = refl

-- over the neighbours whose messages are taken
pub times_inputs : (tree : GivenTree) (k : ℕ) (receiver : Option ℕ) (f : ℕ → (ℕ → ℕ) → ℕ) (a : ℕ → ℕ)
    → product_by (λ i. cond (is_taken receiver i) (f i a) 1) (neighbours tree k) ≡ times_of (is_input tree k receiver) (length tree.cliques) f a
times_inputs tree k receiver f a =
    product_in_order (linked_to (link_of tree) (length tree.cliques) k) (length tree.cliques) (λ i. cond (is_taken receiver i) (f i a) 1) a
    ∙ times_taken (linked_to (link_of tree) (length tree.cliques) k) (is_taken receiver) (length tree.cliques) f a

pub sum_inputs : (tree : GivenTree) (k : ℕ) (receiver : Option ℕ) (f : ℕ → ℕ)
    → sum_by (λ i. cond (is_taken receiver i) (f i) 0) (neighbours tree k) ≡ sum_of (is_input tree k receiver) (length tree.cliques) f
sum_inputs tree k receiver f =
    sum_in_order (linked_to (link_of tree) (length tree.cliques) k) (length tree.cliques) (λ i. cond (is_taken receiver i) (f i) 0)
    ∙ sum_taken (linked_to (link_of tree) (length tree.cliques) k) (is_taken receiver) (length tree.cliques) f

-- a product of messages that read none of a set reads none of it
pub times_of_blind : (none set : ℕ → Bool) (m : ℕ) (f : ℕ → (ℕ → ℕ) → ℕ) → ((i : ℕ) → set i ≡ true → Blind none (f i)) → Blind none (times_of set m f)
times_of_blind none set zero f h = λ a x v q. refl
times_of_blind none set (suc k) f h = λ a x v q. ap (λ n. n * cond (set (suc k)) (f (suc k) (upd a x v)) 1) (times_of_blind none set k f h a x v q) ∙ ap (λ n. times_of set k f a * n) (at (set (suc k)) refl a x v q)
  where
    at : (b : Bool) → set (suc k) ≡ b → (a : ℕ → ℕ) (x v : ℕ) → none x ≡ true → cond b (f (suc k) (upd a x v)) 1 ≡ cond b (f (suc k) a) 1
    at true e a x v q = h (suc k) e a x v q
    at false e a x v q = refl

-- a product of messages is the same at two assignments where each message is
pub times_same : (set : ℕ → Bool) (m : ℕ) (f : ℕ → (ℕ → ℕ) → ℕ) (a b : ℕ → ℕ) → ((i : ℕ) → set i ≡ true → f i a ≡ f i b) → times_of set m f a ≡ times_of set m f b
times_same set zero f a b h = refl
times_same set (suc k) f a b h = ap (λ n. n * cond (set (suc k)) (f (suc k) a) 1) (times_same set k f a b h) ∙ ap (λ n. times_of set k f b * n) (at (set (suc k)) refl)
  where
    at : (c : Bool) → set (suc k) ≡ c → cond c (f (suc k) a) 1 ≡ cond c (f (suc k) b) 1
    at true e = h (suc k) e
    at false e = refl

-- ---- one member of a set of cliques apart from the others

sum_union : (s t : ℕ → Bool) (m : ℕ) (w : ℕ → ℕ) → ((j : ℕ) → s j ≡ true → t j ≡ false) → sum_of (λ j. s j || t j) m w ≡ sum_of s m w + sum_of t m w
sum_union s t zero w h = refl
sum_union s t (suc k) w h = let ih = sum_union s t k w h in at (s (suc k)) (t (suc k)) (h (suc k)) ih
  where
    at : (b c : Bool) → (b ≡ true → c ≡ false) → sum_of (λ j. s j || t j) k w ≡ sum_of s k w + sum_of t k w
        → sum_of (λ j. s j || t j) k w + cond (b || c) (w (suc k)) 0 ≡ (sum_of s k w + cond b (w (suc k)) 0) + (sum_of t k w + cond c (w (suc k)) 0)
    at true true g ih = absurd (both_ways true (g refl) refl)
    at true false g ih = omega (arith, ih)
    at false true g ih = omega (arith, ih)
    at false false g ih = omega (arith, ih)

sum_one : (i m : ℕ) (w : ℕ → ℕ) → 1 ≤ i → i ≤ m → sum_of (λ j. eqb j i) m w ≡ w i
sum_one i zero w p q = absurd (omega arith)
sum_one i (suc k) w p q = at (cases_eq i (suc k)) (sum_one i k w p)
  where
    none : (n : ℕ) → n < i → sum_of (λ j. eqb j i) n w ≡ 0
    none zero h = refl
    none (suc n) h = let ih = none n (omega arith) in let e = ap {B = ℕ} (λ b. cond b (w (suc n)) 0) (ne_eqb (suc n) i (λ e. omega arith)) in omega (arith, ih, e)

    at : ((i ≡ suc k) ⊎ (i ≡ suc k → ⊥)) → (i ≤ k → sum_of (λ j. eqb j i) k w ≡ w i) → sum_of (λ j. eqb j i) k w + cond (eqb (suc k) i) (w (suc k)) 0 ≡ w i
    at (inl e) ih =
        let z = none k (omega arith) in let c = ap {B = ℕ} (λ b. cond b (w (suc k)) 0) (eq-eqb (suc k) i (sym e)) in let v = ap w e in omega (arith, z, c, v)
    at (inr d) ih =
        let c = ap {B = ℕ} (λ b. cond b (w (suc k)) 0) (ne_eqb (suc k) i (λ e. d (sym e))) in let r = ih (omega (arith, d)) in omega (arith, c, r)

module _ (set : ℕ → Bool) (i m : ℕ) (first : 1 ≤ i) (last : i ≤ m) (member : set i ≡ true) where
  joined : (j : ℕ) → (set j && true) ≡ ((set j && not (eqb j i)) || eqb j i)
  joined j = at (set j) (eqb j i) (λ e. ap set (eqb-true j i e) ∙ member)
    where
      at : (b c : Bool) → (c ≡ true → b ≡ true) → (b && true) ≡ ((b && not c) || c)
      at true true h = refl
      at true false h = refl
      at false true h = absurd (both_ways false refl (h refl))
      at false false h = refl

  apart : (j : ℕ) → (set j && not (eqb j i)) ≡ true → eqb j i ≡ false
  apart j h = at (eqb j i) (and_parts (set j) (not (eqb j i)) h).1
    where
      at : (c : Bool) → not c ≡ true → c ≡ false
      at true e = sym e
      at false e = refl

  pub times_parted : (f : ℕ → (ℕ → ℕ) → ℕ) (a : ℕ → ℕ) → times_of (λ j. set j && true) m f a ≡ times_of (λ j. set j && not (eqb j i)) m f a * f i a
  times_parted f a =
      times_agree f (λ j. set j && true) (λ j. (set j && not (eqb j i)) || eqb j i) m a (λ j _ _. joined j)
      ∙ times_union f (λ j. set j && not (eqb j i)) (λ j. eqb j i) m a apart
      ∙ ap (λ n. times_of (λ j. set j && not (eqb j i)) m f a * n) (times_one f i m a first last)

  pub sum_parted : (w : ℕ → ℕ) → sum_of (λ j. set j && true) m w ≡ sum_of (λ j. set j && not (eqb j i)) m w + w i
  sum_parted w =
      ap (λ (s : ℕ → Bool). sum_of s m w) (fun_ext joined)
      ∙ sum_union (λ j. set j && not (eqb j i)) (λ j. eqb j i) m w apart
      ∙ ap (λ n. sum_of (λ j. set j && not (eqb j i)) m w + n) (sum_one i m w first last)

-- a product over no clique
pub none_times : (set : ℕ → Bool) (m : ℕ) (f : ℕ → (ℕ → ℕ) → ℕ) (a : ℕ → ℕ) → sum_of set m (λ j. 1) ≡ 0 → times_of set m f a ≡ 1
none_times set zero f a h = refl
none_times set (suc k) f a h = at (set (suc k)) h (none_times set k f a)
  where
    at : (b : Bool) → sum_of set k (λ j. 1) + cond b 1 0 ≡ 0 → (sum_of set k (λ j. 1) ≡ 0 → times_of set k f a ≡ 1) → times_of set k f a * cond b (f (suc k) a) 1 ≡ 1
    at true e ih = absurd (omega (arith, e))
    at false e ih = mul-one _ ∙ ih (omega (arith, e))

-- how many neighbours a clique has beside one of them
sum_by_ones : (xs : List ℕ) → sum_by (λ x. 1) xs ≡ length xs
sum_by_ones [] = refl
sum_by_ones (x ∷ xs) = let ih = sum_by_ones xs in let e = sum_by-cons (λ (x : ℕ). 1) x xs in omega (arith, ih, e)

pub others_counted : (tree : GivenTree) (k i : ℕ) → 1 ≤ i → i ≤ length tree.cliques → linked_to (link_of tree) (length tree.cliques) k i ≡ true
    → length (neighbours tree k) ≡ sum_of (is_input tree k (Some i)) (length tree.cliques) (λ j. 1) + 1
others_counted tree k i first last member =
    sym (sum_by_ones (neighbours tree k)) ∙ sum_inputs tree k None (λ j. 1)
    ∙ sum_parted (linked_to (link_of tree) (length tree.cliques) k) i (length tree.cliques) first last member (λ j. 1)
