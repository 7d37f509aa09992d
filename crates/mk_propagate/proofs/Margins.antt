-- Sums over the cells of a scope are nested sums: of the cells that have the values of a part's cell, and of those where an event holds.
use Rattle.std.proofs.Common.{◌≡◌, ℕ, suc, zero, ◌+◌, ◌*◌, ◌<◌, ◌≤◌, Bool, true, false, cond, not, ◌&&◌, ◌||◌, ◌⊎◌, inl, inr, eqb, List, [], ◌∷◌, filter, length, slice_index, refl, sym, ap, ◌∙◌, arith, one-mul, zero-mul, eq-eqb, ne_eqb}
use Rattle.std.proofs.Math.Path.{fun_ext}
use Rattle.std.proofs.lemmas.Bool.{cases_eq, cases_Bool, both_ways, or_right}
use Rattle.mk_net.specs.declared.words.Pair.{Pair}
use Rattle.mk_net.specs.Network.{Variable, sizes}
use Rattle.mk_states.specs.States.{plus_over, numbers_below}
use Rattle.mk_states.specs.Lawful.{Lawful}
use Rattle.mk_states.proofs.Sums.{plus_over-filter}
use Rattle.mk_sums.specs.Sums.{upd, plus_below, over, Blind, listed}
use Rattle.mk_sums.specs.Cells.{keep, cells, cell_of, place, InRange}
use Rattle.mk_sums.specs.Joint.{variables, where_holds}
use Rattle.mk_sums.specs.There.{holds_there}
use Rattle.mk_sums.proofs.Sums.{over-times, over-union, over_agree}
use Rattle.mk_sums.proofs.States.{is_plus, plus_below_numbers}
use Rattle.mk_sums.proofs.Tables.{cells_nest, cell_of_place, place_cell_of}
use Rattle.mk_scope.specs.Scopes.{ScopeOf, size_in, cells_in, has_variable}
use Rattle.mk_scope.specs.Cells.{values_at, cell_in, cells_onto, cells_where}
use Rattle.mk_scope.proofs.Members.{keep_rising, rising_apart}
use Rattle.mk_scope.proofs.Values.{cells_same}
use Rattle.mk_scope.proofs.Kept.{value_in}
use Rattle.mk_plan.specs.Shapes.{scope_within}
use Rattle.mk_plan.proofs.Scopes.{within_set, size_within, cells_within, values_within, part_lies_in}

-- two sizes that agree on the variables count the same cell
cell_same : (f g : ℕ → ℕ) (xs : List ℕ) → ((x : ℕ) → listed xs x ≡ true → f x ≡ g x) → (a : ℕ → ℕ) → cell_of f xs a ≡ cell_of g xs a
cell_same f g [] h a = refl
cell_same f g (x ∷ xs) h a =
    let rest : (y : ℕ) → listed xs y ≡ true → f y ≡ g y = λ y p. h y (or_right (eqb y x) (listed xs y) p) in
    ap (λ n. a x * n + cell_of f xs a) (cells_same f g xs rest) ∙ ap (λ n. a x * cells g xs + n) (cell_same f g xs rest a)

abbrev held_variables : List Variable → (ℕ → Bool) → List ℕ
held_variables network set = keep set (variables (sizes network))

cond_times : (b : Bool) (n : ℕ) → cond b n 0 ≡ cond b 1 0 * n
cond_times true n = sym (one-mul n)
cond_times false n = sym (zero-mul n)

module _ (plus : ℕ → ℕ → ℕ) (law : Lawful plus) where
  below_same : (n : ℕ) (f g : ℕ → ℕ) → ((v : ℕ) → v < n → f v ≡ g v) → plus_below plus n f ≡ plus_below plus n g
  below_same zero f g h = refl
  below_same (suc n) f g h = ap (λ k. plus k (f n)) (below_same n f g (λ v p. h v (omega arith))) ∙ ap (plus (plus_below plus n g)) (h n (omega arith))

  -- the one number that is d
  below_none : (n d : ℕ) (f : ℕ → ℕ) → n ≤ d → plus_below plus n (λ c. cond (eqb c d) (f c) 0) ≡ 0
  below_none zero d f h = refl
  below_none (suc n) d f h =
      ap (λ b. plus (plus_below plus n (λ c. cond (eqb c d) (f c) 0)) (cond b (f n) 0)) (ne_eqb n d (λ e. omega arith))
      ∙ ap (λ k. plus k 0) (below_none n d f (omega arith)) ∙ law.neutral 0

  below_one : (n d : ℕ) (f : ℕ → ℕ) → d < n → plus_below plus n (λ c. cond (eqb c d) (f c) 0) ≡ f d
  below_one zero d f h = absurd (omega arith)
  below_one (suc n) d f h = at (cases_eq n d) (below_one n d f)
    where
      at : ((n ≡ d) ⊎ (n ≡ d → ⊥)) → (d < n → plus_below plus n (λ c. cond (eqb c d) (f c) 0) ≡ f d)
          → plus (plus_below plus n (λ c. cond (eqb c d) (f c) 0)) (cond (eqb n d) (f n) 0) ≡ f d
      at (inl e) ih =
          ap (λ k. plus k (cond (eqb n d) (f n) 0)) (below_none n d f (omega arith))
          ∙ law.neutral (cond (eqb n d) (f n) 0) ∙ ap (λ b. cond b (f n) 0) (eq-eqb n d e) ∙ ap f e
      at (inr k) ih =
          ap (λ b. plus (plus_below plus n (λ c. cond (eqb c d) (f c) 0)) (cond b (f n) 0)) (ne_eqb n d k)
          ∙ law.commutes (plus_below plus n (λ c. cond (eqb c d) (f c) 0)) 0 ∙ law.neutral _ ∙ ih (omega arith)

  module _ (network : List Variable) where
    -- the plus over the cells of a scope that pass a test of their values
    over_cells : (whole : ℕ → Bool) (test : (ℕ → ℕ) → Bool) (f : (ℕ → ℕ) → ℕ)
        → plus_over plus 0 (λ c. f (values_at (scope_within network whole) c)) (filter (λ c. test (values_at (scope_within network whole) c)) (numbers_below (cells_in (scope_within network whole))))
        ≡ over plus (slice_index (sizes network)) whole (variables (sizes network)) (λ t. cond (test t) 1 0 * f t) (λ x. 0)
    over_cells whole test f =
        let scope : ScopeOf = scope_within network whole in
        let size : ℕ → ℕ = slice_index (sizes network) in
        let xs : List ℕ = held_variables network whole in
        plus_over-filter plus 0 (is_plus plus law) (λ c. f (values_at scope c)) (λ c. test (values_at scope c)) (numbers_below (cells_in scope))
        ∙ sym (plus_below_numbers plus law (λ c. cond (test (values_at scope c)) (f (values_at scope c)) 0) (cells_in scope))
        ∙ ap (λ (g : ℕ → ℕ). plus_below plus (cells_in scope) g) (fun_ext (λ c. cond_times (test (values_at scope c)) (f (values_at scope c)) ∙ ap (λ (t : ℕ → ℕ). cond (test t) 1 0 * f t) (values_within network whole c)))
        ∙ ap (λ n. plus_below plus n (λ c. cond (test (place size xs c (λ x. 0))) 1 0 * f (place size xs c (λ x. 0)))) (cells_within network whole)
        ∙ sym (cells_nest plus law size whole (variables (sizes network)) (λ t. cond (test t) 1 0 * f t) (λ x. 0))

    -- the plus over the cells where an event holds
    pub total_over : (whole : ℕ → Bool) (event : List Pair) (f : (ℕ → ℕ) → ℕ)
        → plus_over plus 0 (λ c. f (values_at (scope_within network whole) c)) (cells_where (scope_within network whole) event)
        ≡ over plus (slice_index (sizes network)) whole (variables (sizes network)) (λ t. where_holds event t * f t) (λ x. 0)
    total_over whole event f = over_cells whole (holds_there event) f

    module _ (part whole : ℕ → Bool) (inside : (x : ℕ) → part x ≡ true → whole x ≡ true) where
      -- what the whole has beside the part
      abbrev pub beside : ℕ → Bool
      beside x = whole x && not (part x)

      pub parted : (x : ℕ) → whole x ≡ (part x || beside x)
      parted x = at (part x) (whole x) (inside x)
        where
          at : (p w : Bool) → (p ≡ true → w ≡ true) → w ≡ (p || (w && not p))
          at true w h = h refl
          at false true h = refl
          at false false h = refl

      pub apart : (x : ℕ) → part x ≡ true → beside x ≡ false
      apart x h = ap (λ b. whole x && not b) h ∙ none (whole x)
        where
          none : (b : Bool) → (b && false) ≡ false
          none true = refl
          none false = refl

      -- an assignment has the values of a cell of the part
      abbrev has_cell : ℕ → (ℕ → ℕ) → ℕ
      has_cell d t = cond (eqb (cell_of (slice_index (sizes network)) (held_variables network part) t) d) 1 0

      cell_reads : (xs : List ℕ) (a : ℕ → ℕ) (x v : ℕ) → listed xs x ≡ false → cell_of (slice_index (sizes network)) xs (upd a x v) ≡ cell_of (slice_index (sizes network)) xs a
      cell_reads [] a x v h = refl
      cell_reads (y ∷ ys) a x v h = at (cases_eq x y) (cell_reads ys a x v)
        where
          size : ℕ → ℕ
          size = slice_index (sizes network)

          at : ((x ≡ y) ⊎ (x ≡ y → ⊥)) → (listed ys x ≡ false → cell_of size ys (upd a x v) ≡ cell_of size ys a) → upd a x v y * cells size ys + cell_of size ys (upd a x v) ≡ a y * cells size ys + cell_of size ys a
          at (inl e) ih = absurd (both_ways (eqb x y || listed ys x) h (ap (λ b. b || listed ys x) (eq-eqb x y e)))
          at (inr d) ih =
              let k : (eqb x y || listed ys x) ≡ listed ys x = ap (λ b. b || listed ys x) (ne_eqb x y d) in
              ap (λ b. cond b v (a y) * cells size ys + cell_of size ys (upd a x v)) (ne_eqb y x (λ e. d (sym e)))
              ∙ ap (λ n. a y * cells size ys + n) (ih (sym k ∙ h))

      cell_blind : (d : ℕ) → Blind beside (has_cell d)
      cell_blind d a x v h = ap (λ n. cond (eqb n d) 1 0) (cell_reads (held_variables network part) a x v (at (cases_Bool (has_variable (scope_within network part) x))))
        where
          at : ((has_variable (scope_within network part) x ≡ true) ⊎ (has_variable (scope_within network part) x ≡ false)) → has_variable (scope_within network part) x ≡ false
          at (inl q) = absurd (both_ways (beside x) (apart x (within_set network part x q)) h)
          at (inr q) = q

      -- the plus over the cells that have the values of a part's cell is the nested plus over what the whole has beside the part
      pub margin_over : (f : (ℕ → ℕ) → ℕ) (d : ℕ) → d < cells_in (scope_within network part)
          → plus_over plus 0 (λ c. f (values_at (scope_within network whole) c)) (cells_onto (scope_within network part) (scope_within network whole) d)
          ≡ over plus (slice_index (sizes network)) (λ x. whole x && not (part x)) (variables (sizes network)) f (values_at (scope_within network part) d)
      margin_over f d l =
          let size : ℕ → ℕ = slice_index (sizes network) in
          let vars : List ℕ = variables (sizes network) in
          let xs : List ℕ = held_variables network part in
          let test : (ℕ → ℕ) → Bool = λ t. eqb (cell_of (size_in (scope_within network part)) xs t) d in
          let rest : (ℕ → ℕ) → ℕ = over plus size beside vars f in
          let below : d < cells size xs = let e = cells_within network part in omega (arith, e) in
          over_cells whole test f
          ∙ ap (λ (g : (ℕ → ℕ) → ℕ). over plus size whole vars g (λ x. 0)) (fun_ext (λ t. ap (λ n. cond (eqb n d) 1 0 * f t) (cell_same (size_in (scope_within network part)) size xs (size_within network part) t)))
          ∙ over_agree plus law size whole (λ x. part x || beside x) vars (λ t. has_cell d t * f t) (λ x. 0) (λ x _. parted x)
          ∙ over-union plus law size part beside vars (λ t. has_cell d t * f t) (λ x. 0) apart
          ∙ ap (λ (g : (ℕ → ℕ) → ℕ). over plus size part vars g (λ x. 0)) (fun_ext (λ t. over-times plus law size beside vars (has_cell d) f t (cell_blind d)))
          ∙ cells_nest plus law size part vars (λ t. has_cell d t * rest t) (λ x. 0)
          ∙ below_same (cells size xs) (λ c. has_cell d (place size xs c (λ x. 0)) * rest (place size xs c (λ x. 0))) (λ c. cond (eqb c d) (rest (place size xs c (λ x. 0))) 0)
          (λ c k. ap (λ n. cond (eqb n d) 1 0 * rest (place size xs c (λ x. 0))) (cell_of_place size xs (rising_apart xs (keep_rising part 0 (length (sizes network)))) c (λ x. 0) k) ∙ sym (cond_times (eqb c d) (rest (place size xs c (λ x. 0)))))
          ∙ below_one (cells size xs) d (λ c. rest (place size xs c (λ x. 0))) below
          ∙ ap rest (sym (values_within network part d))

      -- the cell of the part has the values of the whole's cell there
      pub values_of_part : (c : ℕ) → c < cells_in (scope_within network whole) → (x : ℕ) → has_variable (scope_within network part) x ≡ true
          → values_at (scope_within network part) (cell_in (scope_within network part) (scope_within network whole) c) x ≡ values_at (scope_within network whole) c x
      values_of_part c l x h =
          let scope : ScopeOf = scope_within network part in
          let there : InRange (size_in scope) scope.variables (values_at (scope_within network whole) c) =
          λ y p. value_in scope (scope_within network whole) (part_lies_in network part whole inside) c l y p in
          place_cell_of (size_in scope) scope.variables (values_at (scope_within network whole) c) there (λ y. 0) x
          ∙ ap (λ b. cond b (values_at (scope_within network whole) c x) 0) h
