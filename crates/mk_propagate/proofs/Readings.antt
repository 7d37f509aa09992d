-- What is read in a clique is the exact belief, which is at most the whole sum.
use Rattle.std.proofs.Common.{◌≡◌, ℕ, suc, ◌+◌, ◌-◌, ◌*◌, ◌^◌, ◌<◌, ◌≤◌, Bool, true, false, cond, ◌&&◌, ◌⊎◌, inl, inr, eqb, List, [], ◌∷◌, ◌++◌, map, filter, length, fold, slice_index, slice_index_or, All, refl, sym, ap, ◌∙◌, arith}
use Rattle.std.specs.Prelude.{nat_le}
use Rattle.std.proofs.Math.Path.{fun_ext}
use Rattle.std.specs.List.{list_all, list_any}
use Rattle.std.proofs.lemmas.Bool.{both_ways, and_parts, or_cases}
use Rattle.std.proofs.lemmas.List.{map-append}
use Rattle.std.proofs.lemmas.List.Elements.{recursion_from_All, All-map, All-append, All-weaker}
use Rattle.std.proofs.lemmas.List.Folds.{list_all-append}
use Rattle.std.proofs.lemmas.Simd.{map-map}
use Rattle.mk_net.specs.declared.words.Pair.{Pair}
use Rattle.mk_sets.specs.Sets.{is_member, no_variables}
use Rattle.mk_net.specs.Asked.{TradeRatio, ratio_pairs}
use Rattle.mk_net.specs.Network.{Variable, sizes}
use Rattle.mk_net.specs.Named.{variable_at}
use Rattle.mk_states.specs.States.{states, plus_over, product_by}
use Rattle.mk_states.specs.InitialWeight.{value_at}
use Rattle.mk_states.specs.Events.{holds}
use Rattle.mk_states.specs.Lawful.{Lawful}
use Rattle.mk_states.proofs.Sums.{plus_over-map, sum_by_is}
use Rattle.mk_sums.specs.Sums.{Within, listed}
use Rattle.mk_sums.specs.There.{row_there, share_there, holds_there, ratio_there}
use Rattle.mk_sums.specs.Trees.{times_of, Covers, linked_to, IsTree}
use Rattle.mk_sums.specs.Joint.{joint, where_has, Item, IsItem, variables}
use Rattle.mk_sums.proofs.Sides.{held_by}
use Rattle.mk_sums.proofs.Items.{joint_is_read, known_are_factors, items_fit}
use Rattle.mk_scope.specs.Cells.{values_at, cells_where}
use Rattle.mk_tree.specs.Given.{holds as clique_holds, GivenTree, clique_at, link_of, holds_event}
use Rattle.mk_tree.specs.Tests.{holds_family}
use Rattle.mk_engine.specs.Meaning.{Meaning, Factor, RowsOf, SupportOf, RatioOf, factor_there, exact_belief, whole_sum}
use Rattle.mk_plan.specs.Shapes.{ShapeOf, IsShapeFor, IsClique, scope_within}
use Rattle.mk_propagate.specs.Placings.{Placing, PlacedFactor, PlacedPair, IsFactorIn, IsPlacedFactor, IsPlacedPair, IsPlacing, factor_item, pair_item, items_of, placed_there, meaning_of}
use Rattle.mk_propagate.specs.Flows.{exact_message}
use Rattle.mk_plan.proofs.Scopes.{listed_variable, variable_of_network}
use Rattle.mk_plan.proofs.Required.{all_pass}
use Rattle.mk_propagate.proofs.Margins.{total_over}

-- what a factor reads
module _ (set : ℕ → Bool) (a b : ℕ → ℕ) (same : (x : ℕ) → set x ≡ true → a x ≡ b x) where
  row_reads : (values parents : List ℕ) (r : ℕ) → list_all set parents ≡ true
      → fold (λ row p. row * slice_index values p + a p) r parents ≡ fold (λ row p. row * slice_index values p + b p) r parents
  row_reads values [] r h = refl
  row_reads values (p ∷ ps) r h =
      let q = and_parts (set p) (list_all set ps) h in
      ap (λ n. fold (λ row p. row * slice_index values p + a p) (r * slice_index values p + n) ps) (same p q.0)
      ∙ row_reads values ps (r * slice_index values p + b p) q.1

  pub pairs_read : (ps : List Pair) → list_all (λ (p : Pair). set p.variable) ps ≡ true → holds_there ps a ≡ holds_there ps b
  pairs_read [] h = refl
  pairs_read (p ∷ ps) h =
      let q = and_parts (set p.variable) (list_all (λ (r : Pair). set r.variable) ps) h in
      ap (λ n. eqb n p.value && holds_there ps a) (same p.variable q.0) ∙ ap (λ t. eqb (b p.variable) p.value && t) (pairs_read ps q.1)

  share_reads : (network : List Variable) (x : ℕ) → set x ≡ true → list_all set (variable_at network x).parents ≡ true → share_there network x a ≡ share_there network x b
  share_reads network x h k =
      ap (λ r. slice_index (slice_index_or (variable_at network x).rows r []) (a x)) (row_reads (sizes network) (variable_at network x).parents 0 k)
      ∙ ap (λ v. slice_index (slice_index_or (variable_at network x).rows (row_there (sizes network) (variable_at network x).parents b) []) v) (same x h)

  pub ratio_reads : (r : TradeRatio) → list_all (λ (p : Pair). set p.variable) (ratio_pairs r) ≡ true → ratio_there r a ≡ ratio_there r b
  ratio_reads r h =
      let q = and_parts (list_all (λ (p : Pair). set p.variable) r.condition) (set r.variable && true) (sym (list_all-append (λ (p : Pair). set p.variable) r.condition (record { variable = r.variable; value = 0 } ∷ [])) ∙ h) in
      let v = and_parts (set r.variable) true q.1 in
      ap (λ t. cond t (slice_index r.factors (a r.variable)) (2 ^ 40)) (pairs_read r.condition q.0)
      ∙ ap (λ n. cond (holds_there r.condition b) (slice_index r.factors n) (2 ^ 40)) (same r.variable v.0)

factor_reads : (network : List Variable) (tree : GivenTree) (k : ℕ) (f : Factor) → IsFactorIn network tree k f → Within (clique_holds tree k) (factor_there network f)
factor_reads network tree k (RowsOf x) h a b same =
    let q = and_parts (is_member (clique_at tree k) x) (list_all (is_member (clique_at tree k)) (variable_at network x).parents) h.1 in
    share_reads (clique_holds tree k) a b same network x q.0 q.1
factor_reads network tree k (SupportOf x) h a b same =
    let q = and_parts (is_member (clique_at tree k) x) (list_all (is_member (clique_at tree k)) (variable_at network x).parents) h.1 in
    ap (λ (n : ℕ). cond (nat_le 1 n) 1 0) (share_reads (clique_holds tree k) a b same network x q.0 q.1)
factor_reads network tree k (RatioOf r) h a b same = ratio_reads (clique_holds tree k) a b same r h.1

-- a test that an element passes, at its place
any_at : {X : Type 0} (test : X → Bool) (xs : List X) (d : X) → list_any test xs ≡ true → (j : ℕ) × (j < length xs) × (test (slice_index_or xs j d) ≡ true)
any_at test [] d h = absurd (both_ways false refl h)
any_at test (x ∷ xs) d h = at (or_cases (test x) (list_any test xs) h) (any_at test xs d)
  where
    at : ((test x ≡ true) ⊎ (list_any test xs ≡ true)) → (list_any test xs ≡ true → (j : ℕ) × (j < length xs) × (test (slice_index_or xs j d) ≡ true))
        → (j : ℕ) × (j < length (x ∷ xs)) × (test (slice_index_or (x ∷ xs) j d) ≡ true)
    at (inl p) ih = (0, omega arith, p)
    at (inr q) ih = let r = ih q in (suc r.0, omega (arith, r.1), r.2)

module _ (shape : ShapeOf) (p : Placing) (is : IsShapeFor shape p.network) (placing : IsPlacing shape.tree p) where
  abbrev tree : GivenTree
  tree = shape.tree

  abbrev count : ℕ
  count = length shape.tree.cliques

  -- a clique holds variables of the network alone, and each variable lies in a clique
  pub held_listed : (k x : ℕ) → 1 ≤ k → k ≤ count → clique_holds tree k x ≡ true → listed (variables (sizes p.network)) x ≡ true
  held_listed k x first last h = listed_variable p.network x (is.tree_is.of_network (k - 1) no_variables (omega arith) x h)

  covers : Covers count (clique_holds tree) (variables (sizes p.network))
  covers x h =
      let l : x < length p.network = variable_of_network p.network x h in
      let c = any_at (holds_family p.network x) tree.cliques no_variables (is.tree_is.covers x l) in
      let q = and_parts (is_member (slice_index_or tree.cliques c.0 no_variables) x) (list_all (is_member (slice_index_or tree.cliques c.0 no_variables)) (variable_at p.network x).parents) c.2 in
      let e : suc c.0 - 1 ≡ c.0 = omega arith in
      held_by (λ j. true) count (clique_holds tree) x (suc c.0) (omega arith) (omega (arith, c.1)) refl (ap (λ j. is_member (slice_index_or tree.cliques j no_variables) x) e ∙ q.0)

  -- what is placed in a clique reads what the clique holds
  fits : All (IsItem count (clique_holds tree)) (items_of p)
  fits =
      All-append (IsItem count (clique_holds tree)) (map (factor_item p.network) p.factors) (map pair_item p.known)
      (All-map (IsItem count (clique_holds tree)) (factor_item p.network) p.factors
      (All-weaker (IsPlacedFactor p.network tree) (λ (f : PlacedFactor). IsItem count (clique_holds tree) (factor_item p.network f)) factor_fits p.factors placing.factors_fit))
      (All-map (IsItem count (clique_holds tree)) pair_item p.known
      (All-weaker (IsPlacedPair p.network tree) (λ (q : PlacedPair). IsItem count (clique_holds tree) (pair_item q)) pair_fits p.known placing.known_fit))
    where
      factor_fits : (f : PlacedFactor) → IsPlacedFactor p.network tree f → IsItem count (clique_holds tree) (factor_item p.network f)
      factor_fits f h = record { first = h.clique_is.first; last = h.clique_is.last; fits = factor_reads p.network tree f.clique f.factor h.fits }

      pair_fits : (q : PlacedPair) → IsPlacedPair p.network tree q → IsItem count (clique_holds tree) (pair_item q)
      pair_fits q h = record { first = h.clique_is.first; last = h.clique_is.last; fits = λ a b same. ap (λ n. cond (eqb n q.pair.value) 1 0) (same q.pair.variable h.holds_it) }

  pub is_tree : IsTree (link_of tree) count (clique_holds tree) (placed_there p)
  is_tree = record {
    links = is.tree_is.linked.earlier;
    running = is.tree_is.running;
    fits = λ k _ _. items_fit count (clique_holds tree) (items_of p) (recursion_from_All (IsItem count (clique_holds tree)) (items_of p) fits) k;
  }

  module _ (plus : ℕ → ℕ → ℕ) (law : Lawful plus) (event : List Pair) where
    -- known pairs are items too
    all_items : map (λ (i : Item). i.value) (items_of p) ≡ map (factor_there p.network) (map (λ (f : PlacedFactor). f.factor) p.factors) ++ map where_has (map (λ (q : PlacedPair). q.pair) p.known)
    all_items =
        map-append (λ (i : Item). i.value) (map (factor_item p.network) p.factors) (map pair_item p.known)
        ∙ ap (λ (xs : List ((ℕ → ℕ) → ℕ)). xs ++ map (λ (i : Item). i.value) (map pair_item p.known))
        (map-map (λ (i : Item). i.value) (factor_item p.network) p.factors ∙ sym (map-map (factor_there p.network) (λ (f : PlacedFactor). f.factor) p.factors))
        ∙ ap (λ (xs : List ((ℕ → ℕ) → ℕ)). map (factor_there p.network) (map (λ (f : PlacedFactor). f.factor) p.factors) ++ xs)
        (map-map (λ (i : Item). i.value) pair_item p.known ∙ sym (map-map where_has (λ (q : PlacedPair). q.pair) p.known))

    -- what is placed in a clique, times the messages from all its neighbours
    abbrev pub read_there : ℕ → (ℕ → ℕ) → ℕ
    read_there k t = placed_there p k t * times_of (linked_to (link_of tree) count k) count (λ i. exact_message plus tree p i k) t

    pub belief_is_read : (k : ℕ) → IsClique tree k → holds_event event (clique_at tree k) ≡ true
        → plus_over plus 0 (λ c. read_there k (values_at (scope_within p.network (clique_holds tree k)) c)) (cells_where (scope_within p.network (clique_holds tree k)) event) ≡ exact_belief plus (meaning_of tree p) event
    belief_is_read k clique inside =
        total_over plus law p.network (clique_holds tree k) event (read_there k)
        ∙ sym (joint_is_read plus (sizes p.network) (clique_holds tree) (items_of p) (link_of tree) count law is.tree_is.linked.earlier is.tree_is.running covers fits k clique.first clique.last event (all_pass (λ (q : Pair). is_member (clique_at tree k) q.variable) event inside))
        ∙ ap (λ (fs : List ((ℕ → ℕ) → ℕ)). joint plus (sizes p.network) fs [] event) all_items
        ∙ sym (known_are_factors plus law (sizes p.network) (map (factor_there p.network) (map (λ (f : PlacedFactor). f.factor) p.factors)) (map (λ (q : PlacedPair). q.pair) p.known) event)

-- a belief is at most the sum over all states
chosen_at_most : {X : Type 0} (plus : ℕ → ℕ → ℕ) → Lawful plus → (f : X → ℕ) (test : X → Bool) (xs : List X) → plus_over plus 0 f (filter test xs) ≤ plus_over ◌+◌ 0 f xs
chosen_at_most plus law f test [] = omega arith
chosen_at_most {X} plus law f test (x ∷ xs) = let ih = chosen_at_most plus law f test xs in at (test x) ih
  where
    at : (b : Bool) → plus_over plus 0 f (filter test xs) ≤ plus_over ◌+◌ 0 f xs → plus_over plus 0 f (cond b (x ∷ filter test xs) (filter test xs)) ≤ f x + plus_over ◌+◌ 0 f xs
    at true ih = let q = law.bounded (f x) (plus_over plus 0 f (filter test xs)) in omega (arith, ih, q)
    at false ih = omega (arith, ih)

pub belief_at_most : (plus : ℕ → ℕ → ℕ) → Lawful plus → (m : Meaning) (event : List Pair) → exact_belief plus m event ≤ whole_sum m
belief_at_most plus law m event =
    let f : List ℕ → ℕ = λ s. product_by (λ (f : (ℕ → ℕ) → ℕ). f (value_at s)) (map (factor_there m.network) m.factors) in
    let g : List ℕ → ℕ = λ s. product_by (λ (f : Factor). factor_there m.network f (value_at s)) m.factors in
    let l = chosen_at_most plus law f (λ s. holds m.known s && holds event s) (states (sizes m.network)) in
    let e : plus_over ◌+◌ 0 f (states (sizes m.network)) ≡ plus_over ◌+◌ 0 g (states (sizes m.network)) =
    ap (λ (h : List ℕ → ℕ). plus_over ◌+◌ 0 h (states (sizes m.network))) (fun_ext (λ s. plus_over-map ◌*◌ 1 (λ (f : (ℕ → ℕ) → ℕ). f (value_at s)) (factor_there m.network) m.factors)) in
    let w = sum_by_is g (states (sizes m.network)) in
    omega (arith, l, e, w)
