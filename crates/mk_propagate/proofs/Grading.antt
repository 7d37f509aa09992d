-- Steps and grades of what a clique gathers: at most three steps for each grade, and few enough.
use Rattle.std.proofs.Common.{◌≡◌, ℕ, suc, zero, ◌+◌, ◌-◌, ◌*◌, ◌<◌, ◌≤◌, Bool, true, false, cond, ◌⊎◌, inl, inr, eqb, List, [], ◌∷◌, take, slice_index_or, length, sum_by, count_by, Option, Some, refl, sym, ap, ◌∙◌, arith, eq-eqb, ne_eqb}
use Rattle.std.proofs.lemmas.Bool.{cases_eq, and_parts}
use Rattle.std.proofs.Math.Nat.{suc-mul, mul-le-mul}
use Rattle.std.proofs.Math.Seq.{take-length}
use Rattle.std.proofs.lemmas.List.Sums.{sum_by_more, sum_by-cons}
use Rattle.mk_net.specs.Bounds.{max_cells}
use Rattle.mk_sets.specs.Sets.{no_variables}
use Rattle.mk_sums.specs.Trees.{sum_of, linked_to, linked}
use Rattle.mk_sums.proofs.Grades.{grades_add, read_grades_add}
use Rattle.mk_tree.specs.Given.{GivenTree, clique_at, link_of, max_tree_cliques}
use Rattle.mk_tree.specs.Tests.{cells_of}
use Rattle.mk_engine.specs.Meaning.{max_factors}
use Rattle.mk_plan.specs.Shapes.{ShapeOf, IsShapeFor, IsClique, clique_cells, neighbours}
use Rattle.mk_propagate.specs.Placings.{Placing, PlacedFactor, IsPlacing, factors_in}
use Rattle.mk_propagate.specs.Flows.{exact_message_grade, all_cells, reading_grade}
use Rattle.mk_propagate.specs.inner.Gathered.{is_taken, is_input, gathered_steps, gathered_factors}
use Rattle.mk_plan.proofs.Scopes.{clique_counted}
use Rattle.mk_propagate.proofs.Placed.{sum_same}
use Rattle.mk_propagate.proofs.Inputs.{sum_inputs, others_counted}

-- sums over cliques
pub sum_of-plus : (set : ℕ → Bool) (m : ℕ) (f g : ℕ → ℕ) → sum_of set m (λ j. f j + g j) ≡ sum_of set m f + sum_of set m g
sum_of-plus set zero f g = refl
sum_of-plus set (suc k) f g = let ih = sum_of-plus set k f g in at (set (suc k)) ih
  where
    at : (b : Bool) → sum_of set k (λ j. f j + g j) ≡ sum_of set k f + sum_of set k g
        → sum_of set k (λ j. f j + g j) + cond b (f (suc k) + g (suc k)) 0 ≡ (sum_of set k f + cond b (f (suc k)) 0) + (sum_of set k g + cond b (g (suc k)) 0)
    at true ih = omega (arith, ih)
    at false ih = omega (arith, ih)

pub sum_of_at_most : (s t : ℕ → Bool) (m : ℕ) (f g : ℕ → ℕ) → ((j : ℕ) → s j ≡ true → t j ≡ true) → ((j : ℕ) → f j ≤ g j) → sum_of s m f ≤ sum_of t m g
sum_of_at_most s t zero f g h k = omega arith
sum_of_at_most s t (suc n) f g h k = let ih = sum_of_at_most s t n f g h k in let l = k (suc n) in at (s (suc n)) (t (suc n)) (h (suc n)) ih l
  where
    at : (b c : Bool) → (b ≡ true → c ≡ true) → sum_of s n f ≤ sum_of t n g → f (suc n) ≤ g (suc n) → sum_of s n f + cond b (f (suc n)) 0 ≤ sum_of t n g + cond c (g (suc n)) 0
    at true true h ih l = omega (arith, ih, l)
    at true false h ih l = absurd (let e = h refl in cc)
    at false true h ih l = omega (arith, ih)
    at false false h ih l = omega (arith, ih)

sum_of_twos : (m : ℕ) → sum_of (λ j. true) m (λ j. 2) ≡ 2 * m
sum_of_twos zero = refl
sum_of_twos (suc k) = let ih = sum_of_twos k in omega (arith, ih)

-- a sum over cliques is one over their list
pub sum_of_first : {X : Type 0} (f : X → ℕ) (xs : List X) (d : X) (n : ℕ) → n ≤ length xs → sum_of (λ j. true) n (λ j. f (slice_index_or xs (j - 1) d)) ≡ sum_by f (take n xs)
sum_of_first f xs d zero h = refl
sum_of_first f xs d (suc n) h =
    let ih = sum_of_first f xs d n (omega arith) in
    let l : n < length xs = omega arith in
    let e : suc n - 1 ≡ n = omega arith in
    let g : f (slice_index_or xs (suc n - 1) d) ≡ f (slice_index_or xs n d) = ap (λ i. f (slice_index_or xs i d)) e in
    let q = sum_by_more f xs n d l in
    let s : suc n ≡ n + 1 = omega arith in
    ap (λ k. k + f (slice_index_or xs (suc n - 1) d)) ih ∙ ap (λ k. sum_by f (take n xs) + k) g ∙ sym q ∙ ap (λ k. sum_by f (take k xs)) (sym s)

-- each factor lies in one clique
none_before : (c n : ℕ) → n < c → sum_of (λ j. true) n (λ j. cond (eqb c j) 1 0) ≡ 0
none_before c zero h = refl
none_before c (suc n) h = let ih = none_before c n (omega arith) in let e = ap {B = ℕ} (λ b. cond b 1 0) (ne_eqb c (suc n) (λ e. omega arith)) in omega (arith, ih, e)

one_at_most : (c m : ℕ) → sum_of (λ j. true) m (λ j. cond (eqb c j) 1 0) ≤ 1
one_at_most c zero = omega arith
one_at_most c (suc n) = let ih = one_at_most c n in from (cases_eq c (suc n)) ih
  where
    from : ((c ≡ suc n) ⊎ (c ≡ suc n → ⊥)) → sum_of (λ j. true) n (λ j. cond (eqb c j) 1 0) ≤ 1 → sum_of (λ j. true) n (λ j. cond (eqb c j) 1 0) + cond (eqb c (suc n)) 1 0 ≤ 1
    from (inl e) ih = let z = none_before c n (omega arith) in let w = ap {B = ℕ} (λ b. cond b 1 0) (eq-eqb c (suc n) e) in omega (arith, z, w)
    from (inr d) ih = let w = ap {B = ℕ} (λ b. cond b 1 0) (ne_eqb c (suc n) d) in omega (arith, ih, w)

counted_first : {X : Type 0} (p : X → Bool) (x : X) (xs : List X) → count_by p (x ∷ xs) ≡ cond (p x) 1 0 + count_by p xs
counted_first p x xs = sum_by-cons (λ y. cond (p y) 1 0) x xs

factors_at_most : (m : ℕ) (fs : List PlacedFactor) → sum_of (λ j. true) m (λ j. count_by (λ (f : PlacedFactor). eqb f.clique j) fs) ≤ length fs
factors_at_most m [] = at m
  where
    at : (m : ℕ) → sum_of (λ j. true) m (λ j. 0) ≤ 0
    at zero = omega arith
    at (suc n) = let ih = at n in omega (arith, ih)
factors_at_most m (f ∷ fs) =
    let ih = factors_at_most m fs in
    let e = sum_same (λ j. true) m (λ j. count_by (λ (g : PlacedFactor). eqb g.clique j) (f ∷ fs)) (λ j. cond (eqb f.clique j) 1 0 + count_by (λ (g : PlacedFactor). eqb g.clique j) fs) (λ j _ _ _. counted_first (λ (g : PlacedFactor). eqb g.clique j) f fs) in
    let s = sum_of-plus (λ j. true) m (λ j. cond (eqb f.clique j) 1 0) (λ j. count_by (λ (g : PlacedFactor). eqb g.clique j) fs) in
    let o = one_at_most f.clique m in
    omega (arith, ih, e, s, o)

-- two sums, over the cells that a cell of a part has in the whole each, cost no more than one over the whole's cells
pair_at_most : (p q : ℕ) → suc p + suc q ≤ suc p * suc q + 1
pair_at_most p q = let s = suc-mul p (suc q) in let m : p * 1 ≤ p * suc q = mul-le-mul (omega arith) (omega arith) in omega (arith, s, m)

pub fewer_steps : (S Q K P C : ℕ) → S * Q ≡ K → K * P ≡ C → 1 ≤ C → (2 * P - 1) + (2 * Q - 1) ≤ 2 * C
fewer_steps S Q K zero C e f some = absurd (omega (arith, f, some))
fewer_steps zero Q K (suc p) C e f some =
    let k : K ≡ 0 = sym e ∙ omega arith in let g : K * suc p ≡ 0 * suc p = ap (λ n. n * suc p) k in absurd (omega (arith, f, g, some))
fewer_steps (suc s) zero K (suc p) C e f some =
    let k : K ≡ 0 = sym e ∙ omega arith in let g : K * suc p ≡ 0 * suc p = ap (λ n. n * suc p) k in absurd (omega (arith, f, g, some))
fewer_steps (suc s) (suc q) K (suc p) C e f some =
    let t = suc-mul s (suc q) in
    let m : suc q * suc p ≤ K * suc p = mul-le-mul (omega (arith, e, t)) (omega arith) in
    let l = pair_at_most q p in
    omega (arith, m, l, f)

-- the factors and cells that there may be, and two for each clique
abbrev pub most_parts : ℕ
most_parts = max_factors + max_cells + 2 * max_tree_cliques

module _ (shape : ShapeOf) (p : Placing) (is : IsShapeFor shape p.network) (placing : IsPlacing shape.tree p) where
  abbrev tree : GivenTree
  tree = shape.tree

  -- the factors, the cells and two for each clique, of all cliques together
  abbrev pub whole_grade : ℕ
  whole_grade = sum_of (λ j. true) (length tree.cliques) (λ j. factors_in p j + clique_cells p.network tree j + 2)

  few_cells : all_cells tree p ≤ max_cells
  few_cells =
      let e = sum_same (λ j. true) (length tree.cliques) (clique_cells p.network tree) (λ j. cells_of p.network (clique_at tree j)) (λ j _ _ _. clique_counted p.network tree j) in
      let f = sum_of_first (cells_of p.network) tree.cliques no_variables (length tree.cliques) (omega arith) in
      let g = ap (sum_by (cells_of p.network)) (take-length tree.cliques) in
      let h = is.tree_is.few_cells in
      omega (arith, e, f, g, h)

  pub whole_parts : whole_grade ≤ length p.factors + all_cells tree p + 2 * length tree.cliques
  whole_parts =
      let m = length tree.cliques in
      let a = sum_of-plus (λ j. true) m (λ j. factors_in p j + clique_cells p.network tree j) (λ j. 2) in
      let b = sum_of-plus (λ j. true) m (factors_in p) (clique_cells p.network tree) in
      let c = sum_of_twos m in
      let d = factors_at_most m p.factors in
      omega (arith, a, b, c, d)

  pub few_grades : length p.factors + all_cells tree p + 2 * length tree.cliques ≤ most_parts
  few_grades = let c = few_cells in let m = is.tree_is.linked.few in let l = placing.few in omega (arith, c, m, l)

  -- what is gathered in a clique with its cells, and twice one for each message, is within the whole
  module _ (k : ℕ) (clique : IsClique tree k) (receiver : Option ℕ) where
    abbrev input_grades : ℕ
    input_grades = sum_of (is_input tree k receiver) (length tree.cliques) (λ i. exact_message_grade tree p i k + 2)

    pub within_whole : factors_in p k + clique_cells p.network tree k + input_grades + 2 ≤ whole_grade
    within_whole =
        let e = read_grades_add (link_of tree) (length tree.cliques) is.tree_is.linked.earlier (factors_in p) (clique_cells p.network tree) k clique.first clique.last in
        let l = sum_of_at_most (is_input tree k receiver) (linked_to (link_of tree) (length tree.cliques) k) (length tree.cliques) (λ i. exact_message_grade tree p i k + 2) (λ i. exact_message_grade tree p i k + 2)
        (λ i h. (and_parts (linked_to (link_of tree) (length tree.cliques) k i) (is_taken receiver i) h).0) (λ i. omega arith) in
        omega (arith, e, l)

    -- for each message three steps for each of its grade and one, which with five more are three for each of its grade and 2
    steps_with_each : factors_in p k + gathered_steps tree p k receiver (neighbours tree k) + 5 * sum_of (is_input tree k receiver) (length tree.cliques) (λ i. 1) ≤ factors_in p k + 3 * input_grades
    steps_with_each =
        let m = length tree.cliques in
        let e = sum_inputs tree k receiver (λ i. 3 * exact_message_grade tree p i k + 1) in
        let t = thrice (is_input tree k receiver) m (λ i. exact_message_grade tree p i k) in
        omega (arith, e, t)
      where
        thrice : (set : ℕ → Bool) (m : ℕ) (g : ℕ → ℕ) → sum_of set m (λ i. 3 * g i + 1) + 5 * sum_of set m (λ i. 1) ≤ 3 * sum_of set m (λ i. g i + 2)
        thrice set zero g = omega arith
        thrice set (suc n) g = let ih = thrice set n g in at (set (suc n)) ih
          where
            at : (b : Bool) → sum_of set n (λ i. 3 * g i + 1) + 5 * sum_of set n (λ i. 1) ≤ 3 * sum_of set n (λ i. g i + 2)
                → sum_of set n (λ i. 3 * g i + 1) + cond b (3 * g (suc n) + 1) 0 + 5 * (sum_of set n (λ i. 1) + cond b 1 0) ≤ 3 * (sum_of set n (λ i. g i + 2) + cond b (g (suc n) + 2) 0)
            at true ih = omega (arith, ih)
            at false ih = omega (arith, ih)

    steps_at_most : factors_in p k + gathered_steps tree p k receiver (neighbours tree k) ≤ factors_in p k + 3 * input_grades
    steps_at_most = let e = steps_with_each in omega (arith, e)

    factors_at_most_grades : factors_in p k + gathered_factors tree p k receiver (neighbours tree k) ≤ factors_in p k + input_grades
    factors_at_most_grades =
        let m = length tree.cliques in
        let e = sum_inputs tree k receiver (λ i. exact_message_grade tree p i k) in
        let t = sum_of_at_most (is_input tree k receiver) (is_input tree k receiver) m (λ i. exact_message_grade tree p i k) (λ i. exact_message_grade tree p i k + 2) (λ i h. h) (λ i. omega arith) in
        omega (arith, e, t)

    pub few_steps : factors_in p k + gathered_steps tree p k receiver (neighbours tree k) + 2 * clique_cells p.network tree k ≤ 3 * most_parts
    few_steps = let a = steps_at_most in let b = within_whole in let c = whole_parts in let d = few_grades in omega (arith, a, b, c, d)

    pub few_factors : factors_in p k + gathered_factors tree p k receiver (neighbours tree k) ≤ most_parts
    few_factors = let a = factors_at_most_grades in let b = within_whole in let c = whole_parts in let d = few_grades in omega (arith, a, b, c, d)

    -- a reading has three steps for each of its grade
    pub reading_steps : factors_in p k + gathered_steps tree p k receiver (neighbours tree k) + 6 * clique_cells p.network tree k ≤ 3 * reading_grade tree p k
    reading_steps = let a = steps_at_most in let b = within_whole in let c = whole_parts in let s = is.tree_is.linked.some in omega (arith, a, b, c, s)

  -- and so has a message
  module _ (a b : ℕ) (linked_too : linked (link_of tree) (length tree.cliques) a b ≡ true) (clique : IsClique tree a) where
    grade_is : exact_message_grade tree p a b ≡ factors_in p a + clique_cells p.network tree a + input_grades a clique (Some b)
    grade_is = grades_add (link_of tree) (length tree.cliques) is.tree_is.linked.earlier (factors_in p) (clique_cells p.network tree) a b linked_too

    pub message_steps : factors_in p a + gathered_steps tree p a (Some b) (neighbours tree a) + 2 * clique_cells p.network tree a ≤ 3 * exact_message_grade tree p a b
    message_steps = let s = steps_at_most a clique (Some b) in let g = grade_is in omega (arith, s, g)

    -- where there is another neighbour, some steps more
    pub others_steps : linked_to (link_of tree) (length tree.cliques) a b ≡ true → IsClique tree b → 1 < length (neighbours tree a)
        → factors_in p a + gathered_steps tree p a (Some b) (neighbours tree a) + 2 * clique_cells p.network tree a + 2 ≤ 3 * exact_message_grade tree p a b
    others_steps back receiver more =
        let s = steps_with_each a clique (Some b) in let g = grade_is in let c = others_counted tree a b receiver.first receiver.last back in omega (arith, s, g, c, more)

    pub message_factors : factors_in p a + gathered_factors tree p a (Some b) (neighbours tree a) ≤ exact_message_grade tree p a b
    message_factors = let s = factors_at_most_grades a clique (Some b) in let g = grade_is in omega (arith, s, g)
