-- One factor or one known pair more in a clique.
use Rattle.std.proofs.Common.{◌≡◌, ◌≢◌, ℕ, suc, zero, ◌+◌, ◌-◌, ◌*◌, ◌<◌, ◌≤◌, Bool, true, false, cond, not, ◌&&◌, ◌==◌, if◌then◌else◌, ◌⊎◌, inl, inr, List, [], ◌∷◌, ◌++◌, map, length, slice_index, slice_index_or, get_or, refl, sym, ap, subst, ◌∙◌, arith, mul_assoc, mul_comm, mul-one, eq-eqb, ne_eqb}
use Rattle.std.specs.Prelude.{nat_lt, slice_set, None}
use Rattle.std.proofs.Math.Path.{fun_ext}
use Rattle.std.proofs.lemmas.Bool.{cases_eq, both_ways}
use Rattle.std.proofs.lemmas.List.{length_push, map-append, length-set, get_or-set_same, get_or-set_other, get_or_default}
use Rattle.std.proofs.lemmas.List.Elements.{All-push, All-nil}
use Rattle.std.proofs.lemmas.List.Sums.{sum_by_push, count_by-le-length}
use Rattle.mk_net.specs.declared.words.Pair.{Pair}
use Rattle.mk_net.specs.Network.{Variable, sizes}
use Rattle.mk_states.specs.States.{product_by}
use Rattle.mk_states.proofs.Sums.{product_by-append, product_by_push}
use Rattle.mk_sums.specs.Sums.{over}
use Rattle.mk_sums.specs.Joint.{Item, variables, where_has}
use Rattle.mk_sums.specs.Trees.{sum_of, behind}
use Rattle.mk_sums.proofs.Stale.{change_leaves}
use Rattle.mk_scope.specs.Scopes.{ScopeOf, cells_in}
use Rattle.mk_scope.specs.Cells.{values_at}
use Rattle.mk_table.specs.Tables.{TableOf, HasNumbers, HasRoom}
use Rattle.mk_table.specs.Ratios.{KeepsPairs, HasRatios}
use Rattle.mk_table.proofs.RatiosKept.{no_ratios, same_ratios, ratios_restricted}
use Rattle.mk_tree.specs.Given.{GivenTree, AreLinked, holds, link_of}
use Rattle.mk_engine.specs.Meaning.{Factor, factor_there, max_factors}
use Rattle.mk_plan.specs.Shapes.{ShapeOf, IsShapeFor, IsClique, is_behind, clique_scope, core_scope, separator_scope, separator_between, clique_cells, in_core}
use Rattle.mk_propagate.specs.Placings.{Placing, PlacedFactor, PlacedPair, with_factor_in, with_pair_in, nothing_placed, factor_item, pair_item, placed_there, factors_in, ratios_in, IsPlacedFactor, IsPlacedPair, IsPlacing, IsCommon}
use Rattle.mk_propagate.specs.Flows.{FlowOf, no_table, table_at, core_at, is_summed, message_at, HasCells, HasSums, HasPlaced, IsRight, KeepsMessages, Places, core_there, core_steps, private_cells, exact_message, exact_message_grade, message_ratios}
use Rattle.mk_propagate.specs.inner.Kept.{IsKept, AreOverCores}
use Rattle.mk_table.specs.Lists.{IsOnes}
use Rattle.mk_propagate.specs.inner.Ones.{AreOnes}
use Rattle.mk_propagate.proofs.Ratios.{ratios_elsewhere, common_before}

-- ---- what is placed in each clique

turned : (a b c : ℕ) → a * b * c ≡ a * c * b
turned a b c = mul_assoc a b c ∙ ap (λ (n : ℕ). a * n) (mul_comm b c) ∙ sym (mul_assoc a c b)

there_with_factor : (p : Placing) (clique : ℕ) (f : Factor) (k : ℕ) (s : ℕ → ℕ)
    → placed_there (with_factor_in clique f p) k s ≡ placed_there p k s * cond (clique == k) (factor_there p.network f s) 1
there_with_factor p clique f k s =
    let g : Item → ℕ = λ i. cond (i.clique == k) (i.value s) 1 in
    let placed : PlacedFactor = record { clique = clique; factor = f } in
    let item : Item = factor_item p.network placed in
    let fs = map (factor_item p.network) p.factors in
    let ks = map pair_item p.known in
    product_by-append g (map (factor_item p.network) (p.factors ++ placed ∷ [])) ks
    ∙ ap (λ (xs : List Item). product_by g xs * product_by g ks) (map-append (factor_item p.network) p.factors (placed ∷ []))
    ∙ ap (λ (n : ℕ). n * product_by g ks) (product_by_push g fs item)
    ∙ turned (product_by g fs) (g item) (product_by g ks)
    ∙ ap (λ (n : ℕ). n * g item) (sym (product_by-append g fs ks))

there_with_pair : (p : Placing) (clique : ℕ) (q : Pair) (k : ℕ) (s : ℕ → ℕ) → placed_there (with_pair_in clique q p) k s ≡ placed_there p k s * cond (clique == k) (where_has q s) 1
there_with_pair p clique q k s =
    let g : Item → ℕ = λ i. cond (i.clique == k) (i.value s) 1 in
    let placed : PlacedPair = record { clique = clique; pair = q } in
    let item : Item = pair_item placed in
    let fs = map (factor_item p.network) p.factors in
    let ks = map pair_item p.known in
    product_by-append g fs (map pair_item (p.known ++ placed ∷ []))
    ∙ ap (λ (xs : List Item). product_by g fs * product_by g xs) (map-append pair_item p.known (placed ∷ []))
    ∙ ap (λ (n : ℕ). product_by g fs * n) (product_by_push g ks item)
    ∙ sym (mul_assoc (product_by g fs) (product_by g ks) (g item))
    ∙ ap (λ (n : ℕ). n * g item) (sym (product_by-append g fs ks))

module _ (p : Placing) (clique : ℕ) where
  pub factor_here : (f : Factor) (s : ℕ → ℕ) → placed_there p clique s * factor_there p.network f s ≡ placed_there (with_factor_in clique f p) clique s
  factor_here f s = sym (there_with_factor p clique f clique s ∙ ap (λ (b : Bool). placed_there p clique s * cond b (factor_there p.network f s) 1) (eq-eqb clique clique refl))

  factor_elsewhere : (f : Factor) (k : ℕ) → k ≢ clique → (s : ℕ → ℕ) → placed_there p k s ≡ placed_there (with_factor_in clique f p) k s
  factor_elsewhere f k d s =
      sym (there_with_factor p clique f k s ∙ ap (λ (b : Bool). placed_there p k s * cond b (factor_there p.network f s) 1) (ne_eqb clique k (λ e. d (sym e))) ∙ mul-one (placed_there p k s))

  pair_here : (q : Pair) (s : ℕ → ℕ) → cond (s q.variable == q.value) (placed_there p clique s) 0 ≡ placed_there (with_pair_in clique q p) clique s
  pair_here q s =
      at (s q.variable == q.value) ∙ sym (there_with_pair p clique q clique s ∙ ap (λ (b : Bool). placed_there p clique s * cond b (where_has q s) 1) (eq-eqb clique clique refl))
    where
      at : (b : Bool) → cond b (placed_there p clique s) 0 ≡ placed_there p clique s * cond b 1 0
      at true = omega arith
      at false = omega arith

  pair_elsewhere : (q : Pair) (k : ℕ) → k ≢ clique → (s : ℕ → ℕ) → placed_there p k s ≡ placed_there (with_pair_in clique q p) k s
  pair_elsewhere q k d s =
      sym (there_with_pair p clique q k s ∙ ap (λ (b : Bool). placed_there p k s * cond b (where_has q s) 1) (ne_eqb clique k (λ e. d (sym e))) ∙ mul-one (placed_there p k s))

  count_with : (f : Factor) (k : ℕ) → factors_in (with_factor_in clique f p) k ≡ factors_in p k + cond (clique == k) 1 0
  count_with f k = sum_by_push (λ (x : PlacedFactor). cond (x.clique == k) 1 0) p.factors (record { clique = clique; factor = f })

  pub counted_here : (f : Factor) → factors_in p clique + 1 ≡ factors_in (with_factor_in clique f p) clique
  counted_here f = sym (count_with f clique ∙ ap (λ (b : Bool). factors_in p clique + cond b 1 0) (eq-eqb clique clique refl))

  counted_elsewhere : (f : Factor) (k : ℕ) → k ≢ clique → factors_in p k ≡ factors_in (with_factor_in clique f p) k
  counted_elsewhere f k d = let e = count_with f k ∙ ap (λ (b : Bool). factors_in p k + cond b 1 0) (ne_eqb clique k (λ e. d (sym e))) in omega (arith, e)

-- ---- what a change leaves right

pub sum_same : (set : ℕ → Bool) (m : ℕ) (f g : ℕ → ℕ) → ((j : ℕ) → 1 ≤ j → j ≤ m → set j ≡ true → f j ≡ g j) → sum_of set m f ≡ sum_of set m g
sum_same set zero f g h = refl
sum_same set (suc k) f g h = at (set (suc k)) (h (suc k) (omega arith) (omega arith)) (sum_same set k f g (λ j p q. h j p (omega arith)))
  where
    at : (b : Bool) → (b ≡ true → f (suc k) ≡ g (suc k)) → sum_of set k f ≡ sum_of set k g → sum_of set k f + cond b (f (suc k)) 0 ≡ sum_of set k g + cond b (g (suc k)) 0
    at true e ih = let x = e refl in omega (arith, x, ih)
    at false e ih = omega (arith, ih)

-- a table with the same ratios, of which fewer pairs are common
with_ratios : (t : TableOf) (scope : ScopeOf) (f : (ℕ → ℕ) → ℕ) (steps factors n m : ℕ) (common others : Pair → Type 0) → n ≡ m → ((pair : Pair) → others pair → common pair)
    → HasCells t scope f steps factors n common → HasCells t scope f steps factors m others
with_ratios t scope f steps factors n m common others e weaker h = record {
  scope_is = h.scope_is;
  numbers = h.numbers;
  small_shift = h.small_shift;
  ratios = same_ratios t t refl n common h.ratios refl refl m e others weaker;
}

-- a message is right as before, where the exact one, its grade and its ratios are
pub right_kept : (plus : ℕ → ℕ → ℕ) (old new : FlowOf) (p q : Placing) (a b : ℕ) → new.shape ≡ old.shape → message_at new a b ≡ message_at old a b
    → exact_message plus old.shape.tree p a b ≡ exact_message plus old.shape.tree q a b → exact_message_grade old.shape.tree p a b ≡ exact_message_grade old.shape.tree q a b
    → message_ratios old.shape.tree p a b ≡ message_ratios old.shape.tree q a b → ((pair : Pair) → IsCommon q pair → IsCommon p pair) → IsRight plus old p a b → IsRight plus new q a b
right_kept plus old new p q a b shape message exact grade ratios common r = record {
  cells =
      subst (λ (t : TableOf). HasCells t (separator_between new.shape a b) (exact_message plus new.shape.tree q a b)
      (3 * exact_message_grade new.shape.tree q a b) (exact_message_grade new.shape.tree q a b) (message_ratios new.shape.tree q a b) (IsCommon q)) (sym message)
      (subst (λ (s : ShapeOf). HasCells (message_at old a b) (separator_between s a b) (exact_message plus s.tree q a b)
      (3 * exact_message_grade s.tree q a b) (exact_message_grade s.tree q a b) (message_ratios s.tree q a b) (IsCommon q)) (sym shape)
      (subst (λ (n : ℕ). HasCells (message_at old a b) (separator_between old.shape a b) (exact_message plus old.shape.tree q a b) (3 * n) n (message_ratios old.shape.tree q a b) (IsCommon q)) grade
      (subst (λ (f : (ℕ → ℕ) → ℕ). HasCells (message_at old a b) (separator_between old.shape a b) f (3 * exact_message_grade old.shape.tree p a b)
      (exact_message_grade old.shape.tree p a b) (message_ratios old.shape.tree q a b) (IsCommon q)) exact
      (with_ratios (message_at old a b) (separator_between old.shape a b) (exact_message plus old.shape.tree p a b) (3 * exact_message_grade old.shape.tree p a b)
      (exact_message_grade old.shape.tree p a b) (message_ratios old.shape.tree p a b) (message_ratios old.shape.tree q a b) (IsCommon p) (IsCommon q) ratios common r.cells))));
}

-- where each message is as it was, what was right still is
pub right_still : (plus : ℕ → ℕ → ℕ) (old new : FlowOf) (p : Placing) (a b : ℕ) → KeepsMessages old new → IsRight plus old p a b → IsRight plus new p a b
right_still plus old new p a b kept r = right_kept plus old new p p a b kept.same_shape same_message refl refl refl (λ pair h. h) r
  where
    same_message : message_at new a b ≡ message_at old a b
    same_message =
        ap (λ (ts : List TableOf). if nat_lt b a then slice_index_or ts (a - 2) no_table else slice_index_or new.downward (b - 2) no_table) kept.same_upward
        ∙ ap (λ (ts : List TableOf). if nat_lt b a then slice_index_or old.upward (a - 2) no_table else slice_index_or ts (b - 2) no_table) kept.same_downward

-- other things are placed in the same network
abbrev pub changed : Placing → List PlacedFactor → List PlacedPair → Placing
changed p fs ks = record { network = p.network; factors = fs; known = ks }

-- a flow with another table for a clique, and others over the cores
abbrev pub with_table : FlowOf → ℕ → TableOf → List TableOf → List Bool → ℕ → FlowOf
with_table old clique t cores summed factors = record {
  shape = old.shape;
  tables = slice_set old.tables (clique - 1) t;
  cores = cores;
  summed = summed;
  upward = old.upward;
  downward = old.downward;
  factors = factors;
  computed = old.computed;
}

-- those over the other cliques' cores are as they were, with their marks
abbrev pub AreOthersKept : FlowOf → ℕ → List TableOf → List Bool → Type 0
AreOthersKept old clique cores summed =
    (k : ℕ) → IsClique old.shape.tree k → k ≢ clique → (slice_index_or cores (k - 1) no_table ≡ core_at old k) × (slice_index_or summed (k - 1) false ≡ is_summed old k)

module _ (tree : GivenTree) (p : Placing) (fs : List PlacedFactor) (ks : List PlacedPair) (clique : ℕ)
    (same : (k : ℕ) → k ≢ clique → (s : ℕ → ℕ) → placed_there p k s ≡ placed_there (changed p fs ks) k s)
    (counts : (k : ℕ) → k ≢ clique → factors_in p k ≡ factors_in (changed p fs ks) k) (ratios : (k : ℕ) → k ≢ clique → ratios_in p k ≡ ratios_in (changed p fs ks) k)
    (a b : ℕ) (apart : is_behind tree a b clique ≡ false) where
  exact_kept : (plus : ℕ → ℕ → ℕ) → exact_message plus tree p a b ≡ exact_message plus tree (changed p fs ks) a b
  exact_kept plus =
      fun_ext (λ s. change_leaves plus (slice_index (sizes p.network)) (variables (sizes p.network)) (holds tree) (placed_there p) (placed_there
      (changed p fs ks)) (link_of tree) (length tree.cliques) clique
      (λ j l n d t. same j d t) a b apart s)

  grade_kept : exact_message_grade tree p a b ≡ exact_message_grade tree (changed p fs ks) a b
  grade_kept =
      ap (λ (n : ℕ). n - 2)
      (sum_same (behind (link_of tree) (length tree.cliques) a b) (length tree.cliques) (λ j. factors_in p j + clique_cells p.network tree j + 2)
      (λ j. factors_in (changed p fs ks) j + clique_cells p.network tree j + 2)
      (λ j l n e. ap (λ (i : ℕ). i + clique_cells p.network tree j + 2) (counts j (λ f. both_ways (is_behind tree a b j) (ap (is_behind tree a b) f ∙ apart) e))))

  ratios_kept : message_ratios tree p a b ≡ message_ratios tree (changed p fs ks) a b
  ratios_kept =
      sum_same (behind (link_of tree) (length tree.cliques) a b) (length tree.cliques) (ratios_in p) (ratios_in (changed p fs ks))
      (λ j l n e. ratios j (λ f. both_ways (is_behind tree a b j) (ap (is_behind tree a b) f ∙ apart) e))

module _ (plus : ℕ → ℕ → ℕ) (old : FlowOf) (p : Placing) (fs : List PlacedFactor) (ks : List PlacedPair) (clique : ℕ) (t : TableOf) (cores : List TableOf) (summed : List Bool) (count : ℕ)
    (h : HasPlaced plus old p) (is : IsClique old.shape.tree clique) (within : clique - 1 < length old.tables)
    (same : (k : ℕ) → k ≢ clique → (s : ℕ → ℕ) → placed_there p k s ≡ placed_there (changed p fs ks) k s)
    (counts : (k : ℕ) → k ≢ clique → factors_in p k ≡ factors_in (changed p fs ks) k)
    (ratios : (k : ℕ) → k ≢ clique → ratios_in p k ≡ ratios_in (changed p fs ks) k) (common : (pair : Pair) → IsCommon (changed p fs ks) pair → IsCommon p pair)
    (here : HasCells t (clique_scope old.shape clique) (placed_there (changed p fs ks) clique) (factors_in (changed p fs ks) clique) (factors_in (changed p fs ks) clique) (ratios_in (changed p fs ks) clique) (IsCommon (changed p fs ks)))
    (others : AreOthersKept old clique cores summed) (sums_here : slice_index_or summed (clique - 1) false ≡ true → HasSums plus old.shape (changed p fs ks) clique (slice_index_or cores (clique - 1) no_table)) where
  other_table : (k : ℕ) → IsClique old.shape.tree k → k ≢ clique → table_at (with_table old clique t cores summed count) k ≡ table_at old k
  other_table k at d = get_or-set_other old.tables (clique - 1) (k - 1) t no_table (λ e. d (omega (arith, e, at.first, is.first)))

  tables_more : (k : ℕ) → IsClique old.shape.tree k
      → HasCells (table_at (with_table old clique t cores summed count) k) (clique_scope old.shape k) (placed_there (changed p fs ks) k) (factors_in (changed p fs ks) k) (factors_in (changed p fs ks) k) (ratios_in (changed p fs ks) k) (IsCommon (changed p fs ks))
  tables_more k at = from (cases_eq k clique)
    where
      from : ((k ≡ clique) ⊎ (k ≡ clique → ⊥)) → HasCells (table_at (with_table old clique t cores summed count) k) (clique_scope old.shape k) (placed_there
          (changed p fs ks) k) (factors_in (changed p fs ks) k) (factors_in (changed p fs ks) k) (ratios_in (changed p fs ks) k) (IsCommon (changed p fs ks))
      from (inl e) =
          subst (λ (j : ℕ). HasCells (table_at (with_table old clique t cores summed count) j) (clique_scope old.shape j) (placed_there (changed p fs ks) j) (factors_in
          (changed p fs ks) j) (factors_in (changed p fs ks) j) (ratios_in (changed p fs ks) j) (IsCommon (changed p fs ks))) (sym e)
          (subst (λ (u : TableOf). HasCells u (clique_scope old.shape clique) (placed_there (changed p fs ks) clique) (factors_in (changed p fs ks) clique) (factors_in (changed p fs ks) clique) (ratios_in (changed p fs ks) clique) (IsCommon (changed p fs ks)))
          (sym (get_or-set_same old.tables (clique - 1) t no_table within)) here)
      from (inr d) =
          subst (λ (u : TableOf). HasCells u (clique_scope old.shape k) (placed_there (changed p fs ks) k) (factors_in (changed p fs ks) k) (factors_in (changed p fs ks) k) (ratios_in (changed p fs ks) k) (IsCommon (changed p fs ks))) (sym (other_table k at d))
          (subst (λ (n : ℕ). HasCells (table_at old k) (clique_scope old.shape k) (placed_there (changed p fs ks) k) n n (ratios_in (changed p fs ks) k) (IsCommon (changed p fs ks))) (counts k d)
          (subst (λ (f : (ℕ → ℕ) → ℕ). HasCells (table_at old k) (clique_scope old.shape k) f (factors_in p k) (factors_in p k) (ratios_in (changed p fs ks) k) (IsCommon (changed p fs ks))) (fun_ext (same k d))
          (with_ratios (table_at old k) (clique_scope old.shape k) (placed_there p k) (factors_in p k) (factors_in p k) (ratios_in p k) (ratios_in (changed p fs ks) k) (IsCommon p) (IsCommon (changed p fs ks))
          (ratios k d) common (h.tables k at))))

  sums_more : (k : ℕ) → IsClique old.shape.tree k → is_summed (with_table old clique t cores summed count) k ≡ true → HasSums plus old.shape (changed p fs ks) k (core_at (with_table old clique t cores summed count) k)
  sums_more k at marked = from (cases_eq k clique)
    where
      from : ((k ≡ clique) ⊎ (k ≡ clique → ⊥)) → HasSums plus old.shape (changed p fs ks) k (slice_index_or cores (k - 1) no_table)
      from (inl e) =
          subst (λ (j : ℕ). slice_index_or summed (j - 1) false ≡ true → HasSums plus old.shape (changed p fs ks) j (slice_index_or cores (j - 1) no_table)) (sym e) sums_here marked
      from (inr d) =
          let kept = others k at d in
          subst (λ (u : TableOf). HasSums plus old.shape (changed p fs ks) k u) (sym kept.0)
          (subst (λ (n : ℕ). HasCells (core_at old k) (core_scope old.shape k) (core_there plus old.shape.tree (changed p fs ks) k) (n + (2 * private_cells p.network old.shape.tree k - 1)) n
          (ratios_in (changed p fs ks) k) (IsCommon (changed p fs ks))) (counts k d)
          (subst (λ (f : (ℕ → ℕ) → ℕ). HasCells (core_at old k) (core_scope old.shape k)
          (over plus (slice_index (sizes p.network)) (λ x. holds old.shape.tree k x && not (in_core old.shape.tree k x)) (variables (sizes p.network)) f) (core_steps old.shape.tree p k) (factors_in p k)
          (ratios_in (changed p fs ks) k) (IsCommon (changed p fs ks))) (fun_ext (same k d))
          (with_ratios (core_at old k) (core_scope old.shape k) (core_there plus old.shape.tree p k) (core_steps old.shape.tree p k) (factors_in p k) (ratios_in p k) (ratios_in (changed p fs ks) k)
          (IsCommon p) (IsCommon (changed p fs ks)) (ratios k d) common (h.sums k at (sym kept.1 ∙ marked)))))

  pub places_more : IsPlacing old.shape.tree (changed p fs ks) → length fs ≡ count → Places plus old (with_table old clique t cores summed count) clique p (changed p fs ks)
  places_more placing counted = record {
    placed = record { shape_is = h.shape_is; placing = placing; counted = counted; tables = tables_more; sums = sums_more };
    right = λ a b linked apart r.
        right_kept plus old (with_table old clique t cores summed count) p (changed p fs ks) a b refl refl
        (exact_kept old.shape.tree p fs ks clique same counts ratios a b apart plus) (grade_kept old.shape.tree p fs ks clique same counts ratios a b apart)
        (ratios_kept old.shape.tree p fs ks clique same counts ratios a b apart) common r;
  }

-- ---- the calls

-- the table that a call reads
pub table_read : (ts : List TableOf) (i : ℕ) (t : TableOf) → i < length ts → t ≡ get_or ts i t → get_or ts i no_table ≡ t
table_read ts i t l e = get_or_default ts i no_table t l ∙ sym e

pub few_in : (p : Placing) (k : ℕ) → factors_in p k ≤ length p.factors
few_in p k = count_by-le-length (λ (f : PlacedFactor). f.clique == k) p.factors

-- it has room for a factor more
pub has_room : (t : TableOf) (scope : ScopeOf) (p : Placing) (k : ℕ) → HasCells t scope (placed_there p k) (factors_in p k) (factors_in p k) (ratios_in p k) (IsCommon p) → length p.factors ≤ max_factors → HasRoom t 1
has_room t scope p k h few = record {
  numbers = λ c. placed_there p k (values_at t.scope c);
  steps = factors_in p k;
  has = h.numbers;
  few_steps = omega (arith, few_in p k);
  small_shift = omega (arith, few_in p k, h.small_shift);
}

module _ (plus : ℕ → ℕ → ℕ) (old : FlowOf) (p : Placing) (clique : ℕ) (read t : TableOf) (cores : List TableOf) (summed : List Bool) (h : HasPlaced plus old p) (is : IsClique old.shape.tree clique) (within : clique - 1 < length old.tables)
    (reads : table_at old clique ≡ read) (scope : t.scope ≡ read.scope) (others : AreOthersKept old clique cores summed) where
  had : HasCells read (clique_scope old.shape clique) (placed_there p clique) (factors_in p clique) (factors_in p clique) (ratios_in p clique) (IsCommon p)
  had = subst (λ (u : TableOf). HasCells u (clique_scope old.shape clique) (placed_there p clique) (factors_in p clique) (factors_in p clique) (ratios_in p clique) (IsCommon p)) reads (h.tables clique is)

  -- a factor more
  pub factor_placed : (f : Factor) → IsPlacedFactor p.network old.shape.tree (record { clique = clique; factor = f }) → old.factors < max_factors → t.shift ≤ read.shift + 40
      → ((g : ℕ → ℕ) (n : ℕ) → HasNumbers read g n → HasNumbers t (λ c. g c * factor_there p.network f (values_at read.scope c)) (n + 1))
      → (HasRatios read (ratios_in p clique) (IsCommon p) → HasRatios t (ratios_in (with_factor_in clique f p) clique) (IsCommon (with_factor_in clique f p)))
      → (slice_index_or summed (clique - 1) false ≡ true → HasSums plus old.shape (with_factor_in clique f p) clique (slice_index_or cores (clique - 1) no_table))
      → Places plus old (with_table old clique t cores summed (old.factors + 1)) clique p (with_factor_in clique f p)
  factor_placed f fits few shift numbers ratios sums =
      places_more plus old p (p.factors ++ record { clique = clique; factor = f } ∷ []) p.known clique t cores summed (old.factors + 1) h is within (factor_elsewhere p clique f) (counted_elsewhere p clique f)
      (ratios_elsewhere p clique f) (common_before p clique f)
      (record {
        scope_is = scope ∙ had.scope_is;
        numbers =
            subst (λ (s : ScopeOf). HasNumbers t (λ c. placed_there (with_factor_in clique f p) clique (values_at s c)) (factors_in (with_factor_in clique f p) clique)) (sym scope)
            (subst (λ (n : ℕ). HasNumbers t (λ c. placed_there (with_factor_in clique f p) clique (values_at read.scope c)) n) (counted_here p clique f)
            (subst (λ (g : ℕ → ℕ). HasNumbers t g (factors_in p clique + 1)) (fun_ext (λ c. factor_here p clique f (values_at read.scope c)))
            (numbers (λ c. placed_there p clique (values_at read.scope c)) (factors_in p clique) had.numbers)));
        small_shift = omega (arith, shift, had.small_shift, counted_here p clique f);
        ratios = ratios had.ratios;
      })
      others sums
      (record {
        factors_fit = All-push (IsPlacedFactor p.network old.shape.tree) p.factors (record { clique = clique; factor = f }) h.placing.factors_fit fits;
        known_fit = h.placing.known_fit;
        few = let l = length_push p.factors (record { clique = clique; factor = f }) in omega (arith, l, h.counted, few);
      })
      (length_push p.factors (record { clique = clique; factor = f }) ∙ ap (λ (n : ℕ). n + 1) h.counted)

  -- a known pair more
  pub pair_placed : (q : Pair) → IsPlacedPair p.network old.shape.tree (record { clique = clique; pair = q }) → t.shift ≡ read.shift
      → ((g : ℕ → ℕ) (n : ℕ) → HasNumbers read g n → HasNumbers t (λ c. if values_at read.scope c q.variable == q.value then g c else 0) n)
      → KeepsPairs read.scope read.touched None t.touched → (slice_index_or summed (clique - 1) false ≡ true → ⊥)
      → Places plus old (with_table old clique t cores summed old.factors) clique p (with_pair_in clique q p)
  pair_placed q fits shift numbers touched unmarked =
      places_more plus old p p.factors (p.known ++ record { clique = clique; pair = q } ∷ []) clique t cores summed old.factors h is within (pair_elsewhere p clique q) (λ k d. refl) (λ k d. refl) (λ pair common. common)
      (record {
        scope_is = scope ∙ had.scope_is;
        numbers =
            subst (λ (s : ScopeOf). HasNumbers t (λ c. placed_there (with_pair_in clique q p) clique (values_at s c)) (factors_in p clique)) (sym scope)
            (subst (λ (g : ℕ → ℕ). HasNumbers t g (factors_in p clique)) (fun_ext (λ c. pair_here p clique q (values_at read.scope c)))
            (numbers (λ c. placed_there p clique (values_at read.scope c)) (factors_in p clique) had.numbers));
        small_shift = omega (arith, shift, had.small_shift);
        ratios = ratios_restricted read t scope (ratios_in p clique) (IsCommon p) had.ratios shift touched;
      })
      others (λ marked. absurd (unmarked marked))
      (record {
        factors_fit = h.placing.factors_fit;
        known_fit = All-push (IsPlacedPair p.network old.shape.tree) p.known (record { clique = clique; pair = q }) h.placing.known_fit fits;
        few = h.placing.few;
      })
      h.counted

-- a flow stays as it is to be kept
pub kept_with : (old : FlowOf) (products : List TableOf) (cells clique count : ℕ) (read t : TableOf) (cores : List TableOf) (summed : List Bool) → IsKept old products cells → AreOverCores old cores → length summed ≡ length old.summed → AreOthersKept old clique cores summed
    → (slice_index_or summed (clique - 1) false ≡ true → (slice_index_or cores (clique - 1) no_table).shift ≡ t.shift) → 1 ≤ clique → clique - 1 < length old.tables
    → table_at old clique ≡ read → t.scope ≡ read.scope → IsKept (with_table old clique t cores summed count) products cells
kept_with old products cells clique count read t cores summed h over marks others shift_here first within reads scope = record {
  linked = h.linked;
  one_each = length-set old.tables (clique - 1) t ∙ h.one_each;
  one_less_up = h.one_less_up;
  one_less_down = h.one_less_down;
  table_scopes = λ k at. from k at (cases_eq k clique);
  cores_are = record { one_each = over.one_each; scopes = over.scopes };
  one_mark_each = marks ∙ h.one_mark_each;
  core_shifts = λ k at marked. shifted k at (cases_eq k clique) marked;
  products_are = record { one_each = h.products_are.one_each; scopes = h.products_are.scopes };
  upward_scopes = h.upward_scopes;
  downward_scopes = h.downward_scopes;
  cells_are = h.cells_are;
}
  where
    from : (k : ℕ) → IsClique old.shape.tree k → ((k ≡ clique) ⊎ (k ≡ clique → ⊥)) → (table_at (with_table old clique t cores summed count) k).scope ≡ clique_scope old.shape k
    from k at (inl e) =
        ap (λ (j : ℕ). (table_at (with_table old clique t cores summed count) j).scope) e
        ∙ ap (λ (u : TableOf). u.scope) (get_or-set_same old.tables (clique - 1) t no_table within) ∙ scope ∙ ap (λ (u : TableOf). u.scope) (sym reads)
        ∙ h.table_scopes clique (subst (IsClique old.shape.tree) e at) ∙ ap (clique_scope old.shape) (sym e)
    from k at (inr d) =
        ap (λ (u : TableOf). u.scope) (get_or-set_other old.tables (clique - 1) (k - 1) t no_table (λ e. d (omega (arith, e, at.first, first)))) ∙ h.table_scopes k at

    shifted : (k : ℕ) → IsClique old.shape.tree k → ((k ≡ clique) ⊎ (k ≡ clique → ⊥)) → slice_index_or summed (k - 1) false ≡ true
        → (slice_index_or cores (k - 1) no_table).shift ≡ (table_at (with_table old clique t cores summed count) k).shift
    shifted k at (inl e) marked =
        subst (λ (j : ℕ). slice_index_or summed (j - 1) false ≡ true → (slice_index_or cores (j - 1) no_table).shift ≡ (table_at (with_table old clique t cores summed count) j).shift) (sym e)
        (λ here. shift_here here ∙ ap (λ (u : TableOf). u.shift) (sym (get_or-set_same old.tables (clique - 1) t no_table within))) marked
    shifted k at (inr d) marked =
        let kept = others k at d in
        ap (λ (u : TableOf). u.shift) kept.0 ∙ h.core_shifts k at (sym kept.1 ∙ marked)
        ∙ ap (λ (u : TableOf). u.shift) (sym (get_or-set_other old.tables (clique - 1) (k - 1) t no_table (λ e. d (omega (arith, e, at.first, first)))))

-- ---- a start

-- the table of a clique, or of a separator
pub one_of : (scope : ℕ → ScopeOf) (first count : ℕ) (ts : List TableOf) → AreOnes scope first count ts → (k : ℕ) → first ≤ k → k < first + count
    → IsOnes (scope k) (slice_index_or ts (k - first) no_table)
one_of scope first count ts h k p q =
    let e : first + (k - first) ≡ k = omega arith in
    subst (λ (n : ℕ). IsOnes (scope n) (slice_index_or ts (k - first) no_table)) e (h.each (k - first) (omega arith))

-- tables of ones over the scopes of a shape are those of a flow that is kept
pub starts_kept : (flow : FlowOf) (shape : ShapeOf) (products : List TableOf) (cells : ℕ) → flow.shape ≡ shape → AreLinked shape.tree → ((k : ℕ) → IsClique shape.tree k → is_summed flow k ≡ false)
    → AreOnes (clique_scope shape) 1 (length shape.tree.cliques) flow.tables → AreOnes (core_scope shape) 1 (length shape.tree.cliques) flow.cores → length flow.summed ≡ length shape.tree.cliques → AreOnes (core_scope shape) 1 (length shape.tree.cliques) products
    → AreOnes (separator_scope shape) 2 (length shape.tree.cliques - 1) flow.upward → AreOnes (separator_scope shape) 2 (length shape.tree.cliques - 1) flow.downward
    → cells ≡ sum_of (λ k. true) (length shape.tree.cliques) (λ k. cells_in (clique_scope shape k)) → IsKept flow products cells
starts_kept flow shape products cells same linked unmarked tables core_tables marks product_tables upward downward count =
    subst (λ (s : ShapeOf). IsKept (record { shape = s; tables = flow.tables; cores = flow.cores; summed = flow.summed; upward = flow.upward; downward = flow.downward; factors = flow.factors; computed = flow.computed }) products cells) (sym same) (record {
      linked = linked;
      one_each = tables.long;
      one_less_up = omega (arith, upward.long, linked.some);
      one_less_down = omega (arith, downward.long, linked.some);
      table_scopes = λ k at. (one_of (clique_scope shape) 1 (length shape.tree.cliques) flow.tables tables k at.first (omega (arith, at.last))).scope_is;
      cores_are = record { one_each = core_tables.long; scopes = λ k at. (one_of (core_scope shape) 1 (length shape.tree.cliques) flow.cores core_tables k at.first (omega (arith, at.last))).scope_is };
      one_mark_each = marks;
      core_shifts = λ k at marked. absurd (both_ways (is_summed flow k) (unmarked k at) marked);
      products_are = record { one_each = product_tables.long; scopes = λ k at. (one_of (core_scope shape) 1 (length shape.tree.cliques) products product_tables k at.first (omega (arith, at.last))).scope_is };
      upward_scopes = λ k at more. (one_of (separator_scope shape) 2 (length shape.tree.cliques - 1) flow.upward upward k (omega (arith, more)) (omega (arith, at.last, linked.some))).scope_is;
      downward_scopes = λ k at more. (one_of (separator_scope shape) 2 (length shape.tree.cliques - 1) flow.downward downward k (omega (arith, more)) (omega (arith, at.last, linked.some))).scope_is;
      cells_are = count;
    })

-- a flow of ones has nothing placed
pub starts : (plus : ℕ → ℕ → ℕ) (flow : FlowOf) → AreOnes (clique_scope flow.shape) 1 (length flow.shape.tree.cliques) flow.tables → ((k : ℕ) → IsClique flow.shape.tree k → is_summed flow k ≡ false) → flow.factors ≡ 0
    → (network : List Variable) → IsShapeFor flow.shape network → HasPlaced plus flow (nothing_placed network)
starts plus flow ones unmarked none network shape = record {
  shape_is = shape;
  placing = record { factors_fit = All-nil (IsPlacedFactor network flow.shape.tree); known_fit = All-nil (IsPlacedPair network flow.shape.tree); few = omega arith };
  counted = sym none;
  tables = λ k at.
      let o = one_of (clique_scope flow.shape) 1 (length flow.shape.tree.cliques) flow.tables ones k at.first (omega (arith, at.last)) in
      record { scope_is = o.scope_is; numbers = o.ones; small_shift = omega (arith, o.no_shift); ratios = no_ratios (table_at flow k) (IsCommon (nothing_placed network)) o.no_shift o.no_ratio };
  sums = λ k at marked. absurd (both_ways (is_summed flow k) (unmarked k at) marked);
}

pub starts_over : (plus : ℕ → ℕ → ℕ) (flow : FlowOf) (shape given : ShapeOf) → flow.shape ≡ shape → given ≡ shape → AreOnes (clique_scope shape) 1 (length shape.tree.cliques) flow.tables
    → ((k : ℕ) → IsClique shape.tree k → is_summed flow k ≡ false) → flow.factors ≡ 0 → (network : List Variable) → IsShapeFor given network → HasPlaced plus flow (nothing_placed network)
starts_over plus flow shape given same e ones unmarked none network fits =
    starts plus flow (subst (λ (s : ShapeOf). AreOnes (clique_scope s) 1 (length s.tree.cliques) flow.tables) (sym same) ones)
    (subst (λ (s : ShapeOf). (k : ℕ) → IsClique s.tree k → is_summed flow k ≡ false) (sym same) unmarked) none network (subst (λ (s : ShapeOf). IsShapeFor s network) (e ∙ sym same) fits)
